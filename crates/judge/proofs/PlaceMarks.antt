-- The classes that the lines leave are those of the definition's marks.
use Rattle.std.specs.Prelude.{ℕ, zero, suc, ◌+◌, ◌-◌, ◌*◌, ◌<◌, ◌≡◌, refl, Bool, true, false, cond, ◌⊎◌, length, get_or, T, ltb}
use native.Mathlib.Omega.{arith}
use Rattle.std.proofs.Math.Decide.{dec_lt}
use Rattle.std.proofs.Math.Path.{sym, ap, subst}
use Rattle.std.proofs.Common.{◌∙◌, length-append, lt→ltb, ltb→lt}
use mathlib.Core.List.{List, map}
use Rattle.std.proofs.Math.Logic.{inl, inr, ⊎_elim}
use Rattle.std.proofs.Math.Option.{some}
use Rattle.std.proofs.Math.ListN.{get_elem?, length-map}
use Rattle.lists.specs.Lists.{from}
use Rattle.lists.specs.Tests.{T→true, fails→false}
use Rattle.lists.specs.Places.{length_from, named-by-place}
use Rattle.lists.specs.Ranges.{place-member}
use Rattle.grid.specs.Pieces.{OnGrid, Layout}
use Rattle.channel.specs.Channel.{Channel, width}
use Rattle.wiring.specs.Pins.{Pin, pin_at}
use Rattle.wiring.specs.Layouts.{Element, pin, copper, AllOnGrid}
use Rattle.boardfile.specs.Open.{word_at, piece_of, file_tracks, file_count, pieces_from, file_layout}
use Rattle.boardfile.specs.FieldLaws.{opened-on-grid}
use Rattle.classes.specs.Classes.{marks_of, classes}
use Rattle.classes.specs.PlaceClasses.{marks-map, touching-marks, marks-label}
use Rattle.classes.specs.Forest.{root_of, Same}
use Rattle.classes.specs.Lines.{Overlap, Alike, AllJoined}
use Rattle.judge.specs.Elements.{elements, elements_touch}
use Rattle.judge.specs.TouchTest.{test-sym, Placed}
use Rattle.judge.specs.Finding.{marks}
use Rattle.judge.specs.PinPlaces.{position_of, position-pin_at}
use Rattle.judge.specs.MarkLaws.{pin-place, piece-place, element→placed}
use Rattle.judge.specs.Ranges.{in_column, element_at, range_on}
use Rattle.judge.proofs.RangeLaws.{test→overlap, column→test, track→test}
use Rattle.judge.specs.LineSteps.{Judgeable}

-- the piece at a place of the file
pieces-place : (board : List ℕ) (a n k : ℕ) → k < n
    → get_elem? (pieces_from board a n) k ≡ some (piece_of (word_at board (a + 4 * k)))
unfolding pieces_from
pieces-place board a zero k h = absurd (omega arith)
pieces-place board a (suc n) zero h = ap (λ (j : ℕ). some (piece_of (word_at board j))) (omega arith)
pieces-place board a (suc n) (suc k) h =
    pieces-place board (a + 4) n k (omega arith) ∙ ap (λ (j : ℕ). some (piece_of (word_at board j))) (omega arith)

pieces-length : (board : List ℕ) (a n : ℕ) → length (pieces_from board a n) ≡ n
unfolding pieces_from
pieces-length board a zero = refl
pieces-length board a (suc n) = ap suc (pieces-length board (a + 4) n)

pub file-pieces : (board : List ℕ) → length (file_layout board).pieces ≡ file_count board
unfolding file_layout
file-pieces board = pieces-length board 4 (file_count board)

-- the two sorts of elements
element-pin : (ch : Channel) (board : List ℕ) (i : ℕ) → i < width ch + width ch
    → element_at ch board i ≡ pin (pin_at ch (suc i))
unfolding element_at
element-pin ch board i h =
    ap (λ (b : Bool). cond b (pin (pin_at ch (suc i)))
    (copper (piece_of (word_at board (4 + 4 * (i - (width ch + width ch)))))))
    (T→true (ltb i (width ch + width ch)) (lt→ltb i (width ch + width ch) h))

element-piece : (ch : Channel) (board : List ℕ) (i : ℕ) → (i < width ch + width ch → ⊥)
    → element_at ch board i ≡ copper (piece_of (word_at board (4 + 4 * (i - (width ch + width ch)))))
unfolding element_at
element-piece ch board i h =
    ap (λ (b : Bool). cond b (pin (pin_at ch (suc i)))
    (copper (piece_of (word_at board (4 + 4 * (i - (width ch + width ch)))))))
    (fails→false (ltb i (width ch + width ch)) (λ t. h (ltb→lt i (width ch + width ch) t)))

-- a pin place stands at one place only
pin-once : (ch : Channel) (board : List ℕ) (i : ℕ) (z : Pin) → element_at ch board i ≡ pin z → suc i ≡ position_of ch z
pin-once ch board i z e =
    elim (dec_lt i (width ch + width ch)) [
      | yes h ↦
          let q : pin (pin_at ch (suc i)) ≡ pin z = sym (element-pin ch board i h) ∙ e in
          let r : pin_at ch (suc i) ≡ z = cc in
          sym (position-pin_at ch (suc i)) ∙ ap (position_of ch) r
      | no h ↦
          let q = sym (element-piece ch board i h) ∙ e in
          absurd (let n : ◌≡◌ {A = ℕ} 0 1 = cc in omega arith)
    ]

module _ (ch : Channel) (board : List ℕ) (t : ℕ) (ok : Judgeable ch board t) where
  abbrev l : Layout
  l = file_layout board

  abbrev n : ℕ
  n = width ch + width ch + file_count board

  element_place : (i : ℕ) → i < n → get_elem? (elements ch l) i ≡ some (element_at ch board i)
  unfolding file_layout
  element_place i h =
      elim (dec_lt i (width ch + width ch)) [
        | yes k ↦ pin-place ch l i k ∙ ap some (sym (element-pin ch board i k))
        | no k ↦
            let j = i - (width ch + width ch) in
            let here : i ≡ width ch + width ch + j = omega arith in
            ap (get_elem? (elements ch l)) here
            ∙ piece-place ch l j (pieces-place board 4 (file_count board) j (omega arith))
            ∙ ap some (sym (element-piece ch board i k))
      ]

  elements-length : length (elements ch l) ≡ n
  unfolding elements
  elements-length =
      simp (length-append, length-map, length_from) (let e = file-pieces board in omega arith)

  elements-named : elements ch l ≡ map (element_at ch board) (from 0 n)
  elements-named =
      let e = elements-length in
      named-by-place (element_at ch board) 0 (elements ch l)
      (λ i h. element_place i (omega arith) ∙ ap (λ (k : ℕ). some (element_at ch board k)) (omega arith))
      ∙ ap (λ (k : ℕ). map (element_at ch board) (from 0 k)) e

  -- the test of two places
  touch_at : ℕ → ℕ → Bool
  touch_at i j = elements_touch ch l.tracks (element_at ch board i) (element_at ch board j)

  marks-named : marks ch l ≡ marks_of (classes touch_at (from 0 n))
  unfolding marks touch_at
  marks-named =
      ap (λ (xs : List Element). marks_of (classes (elements_touch ch l.tracks) xs)) elements-named
      ∙ marks-map (elements_touch ch l.tracks) (element_at ch board) (from 0 n)

  turned : (i j : ℕ) → T (touch_at i j) → T (touch_at j i)
  unfolding touch_at
  turned i j = test-sym ch l.tracks (element_at ch board i) (element_at ch board j)

  label : ℕ → ℕ
  label i = get_or (marks ch l) i 0

  touching-alike : (i j : ℕ) → i < n → j < n → T (touch_at i j) → label i ≡ label j
  unfolding label
  touching-alike i j li lj h = rw marks-named (touching-marks touch_at n turned i j li lj h)

  placed : (i : ℕ) → i < n → Placed l (element_at ch board i)
  placed i h = element→placed ch l (element_at ch board i) (place-member (elements ch l) i (element_place i h))

  all-on-grid : AllOnGrid ch l
  unfolding file_layout
  all-on-grid p m =
      subst (λ (w : ℕ). OnGrid w (file_tracks board) p) ok.same_width (opened-on-grid board ok.opens p m)

  same-tracks : t ≡ l.tracks
  unfolding file_layout
  same-tracks = ok.tracks

  pin-same : (i j : ℕ) (z : Pin) → element_at ch board i ≡ pin z → element_at ch board j ≡ pin z → i ≡ j
  pin-same i j z a b = let p = pin-once ch board i z a in let q = pin-once ch board j z b in omega arith

  -- elements that overlap have one mark
  column-overlap : (i j : ℕ) → i < n → j < n → Overlap (in_column ch l.tracks (element_at ch board i))
      (in_column ch l.tracks (element_at ch board j)) → label i ≡ label j
  unfolding touch_at
  column-overlap i j li lj o =
      ⊎_elim (touching-alike i j li lj) (λ s. ap label (pin-same i j s.0 s.1 s.2))
      (column→test ch l all-on-grid (element_at ch board i) (element_at ch board j) (placed i li) (placed j lj) o)

  column-alike : Alike (range_on false ch t board) n label
  unfolding range_on
  column-alike i j li lj o =
      column-overlap i j li lj (subst (λ (k : ℕ). Overlap (in_column ch k (element_at ch board i))
      (in_column ch k (element_at ch board j))) same-tracks o)

  track-alike : Alike (range_on true ch t board) n label
  unfolding range_on touch_at
  track-alike i j li lj o =
      touching-alike i j li lj
      (track→test ch l all-on-grid (element_at ch board i) (element_at ch board j) (placed i li) (placed j lj) o)

  -- elements that touch overlap on a column or on a track
  touch-overlap : (i j : ℕ) → i < n → j < n → T (touch_at i j)
      → Overlap (range_on false ch t board i) (range_on false ch t board j)
      ⊎ Overlap (range_on true ch t board i) (range_on true ch t board j)
  unfolding range_on touch_at
  touch-overlap i j li lj h =
      ⊎_elim (λ o. inl (subst (λ (k : ℕ). Overlap (in_column ch k (element_at ch board i))
      (in_column ch k (element_at ch board j))) (sym same-tracks) o)) inr
      (test→overlap ch l all-on-grid (element_at ch board i) (element_at ch board j) (placed i li) (placed j lj) h)

  module _ (s s₁ s₂ : List ℕ) (size : length s ≡ n) (alone : (i : ℕ) → i < n → root_of s i ≡ i)
      (columns : AllJoined (range_on false ch t board) s s₁) (tracks : AllJoined (range_on true ch t board) s₁ s₂) where
    size₁ : length s₁ ≡ n
    size₁ = columns.size ∙ size

    linked : (i j : ℕ) → i < n → j < n → T (touch_at i j) → Same s₂ i j
    linked i j li lj h =
        let z = size₁ in
        ⊎_elim (λ o. tracks.grows i j (omega arith) (omega arith) (columns.links i j (omega arith) (omega arith) o))
        (λ o. tracks.links i j (omega arith) (omega arith) o) (touch-overlap i j li lj h)

    -- the roots after both are equal exactly where the marks are
    pub mark→root : (i j : ℕ) → i < n → j < n → get_or (marks ch l) i 0 ≡ get_or (marks ch l) j 0 → Same s₂ i j
    mark→root i j li lj e =
        marks-label touch_at n turned (root_of s₂) linked i j li lj (rw (sym marks-named) e)

    pub root→mark : (i j : ℕ) → i < n → j < n → Same s₂ i j → get_or (marks ch l) i 0 ≡ get_or (marks ch l) j 0
    unfolding label
    root→mark i j li lj e =
        let z = size₁ in
        let z₂ = tracks.size in
        let r = tracks.only label
        (columns.only label (λ k lk. ap label (sym (alone k (omega arith))))
        (λ a b la lb o. column-alike a b (omega arith) (omega arith) o))
        (λ a b la lb o. track-alike a b (omega arith) (omega arith) o) in
        r i (omega arith) ∙ ap label e ∙ sym (r j (omega arith))
