-- What the code draws, part by part, is what the definitions draw: the pieces of a net by its first and last column,
-- and of a channel by which numbers of the rows have a first column.
use Prim.Native.Nat.{ℕ, zero, suc, ◌+◌, ◌-◌, ◌≤◌, ◌<◌}
use native.Mathlib.Omega.{arith}
use Rattle.std.specs.Prelude.{◌≡◌, Bool, false, cond, ◌||◌, get_or, T, eqb}
use Rattle.std.proofs.Math.Path.{refl, subst, subst⁻¹}
use Rattle.std.proofs.Common.{sym, ◌∙◌, ap, ltb→lt, lt-ltb, le-ltb}
use mathlib.Core.List.{List, [], ◌∷◌}
use mathlib.Core.List.Memᴰ
use mathlib.Core.List.{Memᴰ}
use Rattle.std.proofs.Math.Logic.{⊎_elim}
use Rattle.std.proofs.Math.Bool.{true}
use Rattle.std.proofs.Math.ListN.{length}
use Rattle.std.proofs.lemmas.List.Edits.{sets}
use Rattle.lists.specs.Lists.{keep, each, from, head_or, at}
use Rattle.lists.specs.Tests.{T→true, true→T, fails→false}
use Rattle.lists.specs.Members.{kept, in-up_to, each_member}
use Rattle.lists.specs.Ends.{at_suc}
use Rattle.lists.specs.Arrays.{numbered-at}
use Rattle.grid.specs.declared.Row.{Row}
use Rattle.grid.specs.declared.Piece.{Piece}
use Rattle.grid.specs.declared.Piece.TheVariants.{Trunk, Branch, Contact}
use Rattle.grid.specs.Pieces.{column, track, row}
use Rattle.grid.specs.Words.{line_of, from_of, to_of}
use Rattle.channel.specs.Channel.{Channel, width, nets, is_net, has_span, first_column, last_column}
use Rattle.channel.specs.Channel.{highest_net, stands, has_pin, pin_columns}
use Rattle.channel.specs.Answers.{Escapes}
use Rattle.channel.specs.Spans.{each512, Spans, SpansFound}
use Rattle.channel.specs.Nets.{PinIn, IsNet}
use Rattle.channel.proofs.Laws.{pin-column, pin-after-first, pin-before-last, pin-in-first, pin-in-last}
use Rattle.channel.proofs.Laws.{net→pin}
use Rattle.channel.proofs.SpanLaws.{nets→, →spanning}
use Rattle.channel.proofs.SpanningLaws.{Highest, net≤highest}
use Rattle.boardfile.specs.Encode.{word, header, encode}
use Rattle.boardfile.specs.Code.{SmallWords}
use Rattle.leftedge.specs.Items.{Place, track_of}
use Rattle.drawing.specs.Draw.{branch_in, draw_column, draw_span, draw_straight, draw_net, draw_nets, draw}
use Rattle.drawing.specs.Prefixes.{each_same, below, below-start, below_end}
use Rattle.drawing.specs.Putting.{Room, Put, put-none, next-room, put-header}
use Rattle.drawing.specs.Code.{column_in, track_in, drawn_by, Tracked, Drawable, BoardDrawn, StandsIn}
use Rattle.drawing.proofs.Owner.{net-pin}

-- a place of a row, counted from 1, in an array that is counted from 0
at-array : (xs : List ℕ) (c : ℕ) → 1 ≤ c → at xs c ≡ get_or xs (c - 1) 0
at-array xs zero h = absurd (omega arith)
at-array xs (suc i) h = at_suc xs i ∙ ap (λ (k : ℕ). get_or xs k 0) (omega arith)

module _ (ch : Channel) (n c : ℕ) (h : 1 ≤ c) where
  pub stands-array : stands ch n c ≡ (eqb (get_or ch.top (c - 1) 0) n || eqb (get_or ch.bot (c - 1) 0) n)
  stands-array = rw (at-array ch.top c h, at-array ch.bot c h)

  pub column-array : (t k : ℕ) (low high : Row) → low ≡ row (cond (eqb (get_or ch.bot (c - 1) 0) n) 0 k)
      → high ≡ row (cond (eqb (get_or ch.top (c - 1) 0) n) (t + 1) k)
      → draw_column ch t k n c ≡ Branch (column c) low high ∷ (Contact (column c) (track k) ∷ [])
  unfolding draw_column branch_in
  column-array t k low high e d = rw (at-array ch.top c h, at-array ch.bot c h, e, d)

-- the track of a net, in the array of all
pub track-is : (tracks : List ℕ) (ps : List Place) → tracks ≡ each512 (track_of ps) → (n : ℕ) → n ≤ highest_net
    → get_or tracks n 0 ≡ track_of ps n
track-is tracks ps e n low = numbered-at (track_of ps) 512 e n (omega arith)

-- where the array has each net's track, the layout is the drawing of the places
pub drawn-by : (ch : Channel) (t : ℕ) (ps : List Place) (tracks : List ℕ)
    → tracks ≡ each512 (track_of ps) → drawn_by ch tracks t ≡ draw ch t ps
unfolding drawn_by draw
drawn-by ch t ps tracks e = λ i. record { tracks = t; pieces = same i }
  where
    here : (n : ℕ) → Memᴰ n (nets ch) → draw_net ch t (track_in tracks n) n ≡ draw_net ch t (track_of ps n) n
    here n m = rw (track_in, track-is tracks ps e n (nets→ ch n m).low)

    same : draw_nets ch t (track_in tracks) ≡ draw_nets ch t (track_of ps)
    same = each_same _ _ (nets ch) here

-- a number from 1 on is a net's exactly if its first column is not 0
module _ (ch : Channel) (esc : Escapes ch) (n : ℕ) where
  first→net : (first_column ch n ≡ 0 → ⊥) → is_net ch n ≡ true
  unfolding first_column head_or
  first→net f = go (pin_columns ch n) refl f
    where
      go : (cs : List ℕ) → pin_columns ch n ≡ cs → (head_or 0 cs ≡ 0 → ⊥) → is_net ch n ≡ true
      go [] e g = absurd (g refl)
      go (c ∷ cs) e g =
          let p = pin-column ch n c (subst (λ (l : List ℕ). Memᴰ c l) (sym e) (Memᴰ.head refl)) in
          T→true (is_net ch n) p.net

  no-first→none : first_column ch n ≡ 0 → is_net ch n ≡ false
  no-first→none e = fails→false (is_net ch n) go
    where
      go : T (is_net ch n) → ⊥
      go t =
          let r = net→pin ch n esc.even t in
          let f = (pin-in-first ch n r.0 r.1).first in
          omega arith

-- by its spans, a number with a first column is a net, and stands in its columns
module _ (ch : Channel) (esc : Escapes ch) (s : Spans) (found : SpansFound ch s) (n : ℕ) (low : n ≤ highest_net) where
  pub first-is : get_or s.first n 0 ≡ first_column ch n
  first-is = numbered-at (first_column ch) 512 found.first n (omega arith)

  pub last-is : get_or s.last n 0 ≡ last_column ch n
  last-is = numbered-at (last_column ch) 512 found.last n (omega arith)

  pub spans→net : (column_in s.first n ≡ 0 → ⊥) → is_net ch n ≡ true
  spans→net f = first→net ch esc n (λ z. f (rw (column_in, first-is) z))

  pub spans→none : column_in s.first n ≡ 0 → is_net ch n ≡ false
  spans→none z = no-first→none ch esc n (rw (column_in, first-is) at z)

  pub spans→stands : 1 ≤ n → (column_in s.first n ≡ 0 → ⊥)
      → StandsIn ch n (column_in s.first n) (column_in s.last n)
  spans→stands h f =
      record {
        escapes = esc;
        is_net = record { is_net = true→T (is_net ch n) (spans→net f); positive = h; low = low };
        begins = rw (column_in, first-is);
        ends = rw (column_in, last-is);
      }

module _ (ch : Channel) (n first last : ℕ) (s : StandsIn ch n first last) where
  -- the number of a net stands where the net has a pin
  pub net-stands : (c : ℕ) → stands ch n c ≡ has_pin ch n c
  net-stands c = sym (rw (T→true (is_net ch n) s.is_net.is_net))

  pub stands-inside : (1 ≤ first) × (first ≤ last) × (last ≤ width ch)
  stands-inside =
      let e = s.begins in
      let d = s.ends in
      let p = net-pin ch s.escapes n s.is_net in
      let q = pin-in-last ch n (first_column ch n) p in
      let a = p.first in
      let b = q.last in
      let l = pin-before-last ch n (first_column ch n) p in
      omega arith

  pin-in : (c : ℕ) → 1 ≤ c → c ≤ width ch → T (has_pin ch n c) → PinIn ch n c
  unfolding pin_columns
  pin-in c h₁ h₂ t = pin-column ch n c (kept (has_pin ch n) (in-up_to (width ch) c h₁ h₂) t)

  -- no pin stands before the first column or behind the last
  columns-start : below (has_pin ch n) first ≡ []
  columns-start =
      let i = stands-inside in
      let e = s.begins in
      below-start (has_pin ch n) first (λ k l h t. let a = pin-after-first ch n k (pin-in k l (omega arith) t) in
      absurd (omega arith))

  columns-end : below (has_pin ch n) (last + 1) ≡ pin_columns ch n
  unfolding pin_columns
  columns-end =
      let i = stands-inside in
      let d = s.ends in
      below_end (has_pin ch n) (width ch) (last + 1) (omega arith) (omega arith)
      (λ k l h t. let a = pin-before-last ch n k (pin-in k (omega arith) h t) in absurd (omega arith))

  -- so a loop from the first column to the last puts nothing at first, and in the end all
  pub span-begun : (D : ℕ → List Piece) (board : List ℕ) (count : ℕ)
      → Put board board count count (each D (below (has_pin ch n) first))
  unfolding each
  span-begun D board count =
      subst⁻¹ (λ (cs : List ℕ). Put board board count count (each D cs)) columns-start (put-none board count)

  pub span-ended : (D : ℕ → List Piece) {a b : List ℕ} {i j : ℕ} (c : ℕ) → c ≡ last + 1
      → Put a b i j (each D (below (has_pin ch n) c)) → Put a b i j (each D (pin_columns ch n))
  span-ended D {a} {b} {i} {j} c e =
      subst (λ (cs : List ℕ). Put a b i j (each D cs)) (ap (below (has_pin ch n)) e ∙ columns-end)

  pub column-room : (D : ℕ → List Piece) {a b : List ℕ} {i j : ℕ} (c : ℕ) → first ≤ c → c ≤ last → has_pin ch n c ≡ true
      → Room a i (each D (pin_columns ch n)) → Put a b i j (each D (below (has_pin ch n) c)) → Room b j (D c)
  unfolding pin_columns
  column-room D c h l t r p =
      let i = stands-inside in next-room D (has_pin ch n) c (omega arith) p (width ch) (omega arith) t r

  pub span-is : (t k : ℕ) → draw_span ch t k n ≡ Trunk (track k) (column first) (column last) ∷ each
      (draw_column ch t k n) (pin_columns ch n)
  unfolding draw_span
  span-is t k = rw (s.begins, s.ends)

  -- a net with a span, and a straight one
  pub pieces-span : (t k : ℕ) → first < last → draw_net ch t k n ≡ draw_span ch t k n
  unfolding draw_net has_span
  pieces-span t k h =
      let e = s.begins in let d = s.ends in rw (lt-ltb (first_column ch n) (last_column ch n) (omega arith))

  pub pieces-straight : (t k : ℕ) → last ≤ first → draw_net ch t k n ≡ Branch (column first) (row 0) (row (t + 1)) ∷ []
  unfolding draw_net has_span draw_straight
  pieces-straight t k h =
      let e = s.begins in
      let d = s.ends in
      rw (le-ltb (first_column ch n) (last_column ch n) (omega arith))
      (ap (λ (c : ℕ). Branch (column c) (row 0) (row (t + 1)) ∷ []) (sym e))

cond_below : (b : Bool) {x y m : ℕ} → x < m → y < m → cond b x y < m
cond_below true h k = h
cond_below false h k = k

module _ (ch : Channel) (esc : Escapes ch) (t k n : ℕ) (few : t ≤ 511) (low : k ≤ 511) where
  column-small : (c : ℕ) → c ≤ 512 → {p : Piece} → Memᴰ p (draw_column ch t k n c) → SmallWords p
  unfolding draw_column branch_in line_of from_of to_of
  column-small c h m =
      let branch : SmallWords (branch_in ch t k n c) =
      record {
        line = omega arith;
        start = cond_below (eqb (at ch.bot c) n) (omega arith) (omega arith);
        end = cond_below (eqb (at ch.top c) n) (omega arith) (omega arith);
      } in
      let contact : SmallWords (Contact (column c) (track k)) = omega arith in
      ⊎_elim (λ e. subst SmallWords (sym e) branch) (λ l. subst SmallWords (sym (Memᴰ.eq_of_singleton l)) contact)
      (Memᴰ.cases_cons m)

  span_small : IsNet ch n → {p : Piece} → Memᴰ p (draw_span ch t k n) → SmallWords p
  unfolding draw_span line_of from_of to_of
  span_small h m =
      let narrow = esc.narrow in
      let a = (net-pin ch esc n h).last in
      let b = (pin-in-last ch n (first_column ch n) (net-pin ch esc n h)).last in
      let trunk : SmallWords (Trunk (track k) (column (first_column ch n)) (column (last_column ch n))) = omega arith in
      ⊎_elim (λ e. subst SmallWords (sym e) trunk) (λ l. let r =
      each_member (draw_column ch t k n) (pin_columns ch n) l in let q = (pin-column ch n r.0 r.1).last in
      column-small r.0 (omega arith) r.2) (Memᴰ.cases_cons m)

  straight-small : IsNet ch n → {p : Piece} → Memᴰ p (draw_straight ch t n) → SmallWords p
  unfolding draw_straight line_of from_of to_of
  straight-small h m =
      let narrow = esc.narrow in
      let a = (net-pin ch esc n h).last in
      let branch : SmallWords (Branch (column (first_column ch n)) (row 0) (row (t + 1))) = omega arith in
      subst SmallWords (sym (Memᴰ.eq_of_singleton m)) branch

module _ (ch : Channel) (tracks : List ℕ) (t : ℕ) where
  -- what a net draws, by its number
  abbrev pub drawn_net : ℕ → List Piece
  drawn_net n = draw_net ch t (track_in tracks n) n

  -- the pieces of each net fit the fields of the file
  net-small : Tracked ch tracks t → (n : ℕ) → IsNet ch n → {p : Piece} → Memᴰ p (drawn_net n) → SmallWords p
  unfolding draw_net has_span
  net-small h n net {p} m = go (has_span ch n) refl m
    where
      k : ℕ
      k = track_in tracks n

      go : (b : Bool) → has_span ch n ≡ b → Memᴰ p (cond b (draw_span ch t k n) (draw_straight ch t n)) → SmallWords p
      go true e l =
          let few = h.few in
          let spans = ltb→lt (first_column ch n) (last_column ch n) (true→T (has_span ch n) e) in
          let low = h.tracked n (→spanning ch n net spans) in
          span_small ch h.escapes t k n few (omega arith) net l
      go false e l = straight-small ch h.escapes t 0 n h.few (omega arith) net l

  module _ {board : List ℕ} (h : Drawable ch tracks t board) where
    -- the board has room for the whole drawing
    drawing-room : Room board 0 (drawn_by ch tracks t).pieces
    unfolding drawn_by
    drawing-room =
        let few = h.few in
        let long = h.long in
        record { long = omega arith; few = omega arith; small = small }
      where
        small : (p : Piece) → Memᴰ p (draw_nets ch t (track_in tracks)) → SmallWords p
        small p m =
            let r = each_member drawn_net (nets ch) m in
            net-small h.tracked r.0 (nets→ ch r.0 r.1) r.2

    pub drawing-begun : Put board board 0 0 (each drawn_net (below (is_net ch) 1))
    unfolding each keep from below
    drawing-begun = put-none board 0

    module _ {b : List ℕ} {j : ℕ} (n : ℕ) (so_far : Put board b 0 j (each drawn_net (below (is_net ch) n))) where
      -- so it has room for the next net
      pub net-room : 1 ≤ n → n ≤ highest_net → is_net ch n ≡ true → Room b j (drawn_net n)
      unfolding nets drawn_by
      net-room h₁ h₂ e = next-room drawn_net (is_net ch) n h₁ so_far highest_net h₂ e drawing-room

      -- past the highest number of the rows all nets are drawn
      pub drawing-ended : {m : ℕ} → Highest ch m → n ≡ m + 1 → Put board b 0 j (drawn_by ch tracks t).pieces
      unfolding nets drawn_by
      drawing-ended most e =
          let low = most.low in
          let all = below_end (is_net ch) highest_net n (omega arith) (omega arith)
          (λ k past l net. absurd (omega (arith, net≤highest ch h.tracked.escapes most k net))) in
          subst (λ (ns : List ℕ). Put board b 0 j (each drawn_net ns)) all so_far

    -- with the header in front it is the board file
    pub drawing-done : {b board' : List ℕ} {j : ℕ} → Put board b 0 j (drawn_by ch tracks t).pieces
        → board' ≡ sets b 0 (word (header (width ch) t j)) → BoardDrawn ch (drawn_by ch tracks t) board j board'
    unfolding drawn_by encode
    drawing-done {b} {board'} {j} p e =
        let counted : j ≡ length (drawn_by ch tracks t).pieces = p.counted ∙ omega arith in
        record {
          counted = counted;
          written = e ∙ put-header (header (width ch) t j) p drawing-room ∙ rw counted;
        }
