-- The judging of a board's elements, part by part: each alone, joined on columns and then on tracks, each number its
-- root, and what is found by the roots.
use Prim.Native.Nat.{ℕ, zero, suc, ◌+◌, ◌≤◌, ◌<◌}
use Rattle.std.proofs.Common.{arith, sym, ◌∙◌, ap}
use Rattle.std.proofs.Math.Decide.{dec_lt}
use Rattle.std.specs.Prelude.{◌≡◌, List, map, true, false, length, get_or}
use Rattle.std.proofs.Math.Path.{refl}
use Rattle.std.proofs.Math.ListN.{get_or-map, get_or-eq_default}
use Rattle.lists.specs.Lists.{from}
use Rattle.lists.specs.Places.{length_from}
use Rattle.lists.specs.Arrays.{length-map-from, numbered-at}
use Rattle.refusal.specs.Trays.{scratch_tray}
use Rattle.classes.specs.Halves.{half, high_half, low_same, high-none, high-low}
use Rattle.classes.specs.Forest.{Forest, root_of}
use Rattle.classes.specs.ForestLaws.{root_below}
use Rattle.classes.specs.FlatLaws.{alone-forest}
use Rattle.classes.specs.Lines.{AllJoined}
use Rattle.channel.specs.Channel.{Channel, width}
use Rattle.boardfile.specs.Open.{file_count, file_layout}
use Rattle.judge.specs.declared.Fault.{Fault}
use Rattle.std.specs.declared.option.Option as found
use Rattle.judge.specs.Finding.{marks, finding}
use Rattle.judge.proofs.SameFindingLaws.{SameClasses, same-finding}
use Rattle.judge.specs.Ranges.{range_on}
use Rattle.judge.specs.LineSteps.{Judgeable, JoinReady}
use Rattle.judge.proofs.FitLaws.{file-small, fits-columns, fits-tracks}
use Rattle.judge.proofs.PlaceMarks.{file-pieces, mark→root, root→mark}
use Rattle.judge.specs.FaultSteps.{marks_in, owners_in, FaultReady, Finds, found_of}
use Rattle.judge.proofs.FaultStepsLaws.{mark-at}

-- there are at most 1,024 pin places and 4,095 pieces
pub elements-few : (ch : Channel) (board : List ℕ) (t : ℕ) → Judgeable ch board t
    → width ch + width ch + file_count board ≤ scratch_tray
elements-few ch board t ok =
    let f = file-small ch board t ok in let w = ok.escapes.narrow in omega arith

-- the front of scratch has a number for each
pub front-fits : (ch : Channel) (board : List ℕ) (t n : ℕ) → Judgeable ch board t → n ≡ file_count board
    → width ch + width ch + n ≤ scratch_tray
front-fits ch board t n ok e = let few = elements-few ch board t ok in omega arith

module _ (ch : Channel) (board : List ℕ) (t : ℕ) (s₀ s : List ℕ) (ok : Judgeable ch board t)
    (count : length s₀ ≡ width ch + width ch + file_count board) (numbers : s ≡ from 0 (length s₀)) where
  alone-size : length s ≡ length s₀
  alone-size = ap length numbers ∙ length_from 0 (length s₀)

  alone-all : Forest s × ((i : ℕ) → i < length s₀ → root_of s i ≡ i)
  alone-all =
      let few = elements-few ch board t ok in
      let n = count in
      alone-forest (length s₀) s (omega arith) alone-size numbers

  -- the columns are joined, of rows 0 to t + 1
  pub columns-ready : (lines places : ℕ) → lines ≡ width ch + 1 → places ≡ t + 2
      → JoinReady (record { channel = ch; board = board; tracks = t }) false lines places s
  columns-ready lines places el ep =
      let n = count in
      let z = alone-size in
      let f = file-small ch board t ok in
      record {
        elements = record { count = z ∙ n; some = let w = ok.escapes.wide in omega arith; forest = alone-all.0 };
        fits = rw (el, ep, z, n) (fits-columns ch board t ok);
        some = omega arith;
        few = let w = ok.escapes.narrow in omega arith;
      }

  module _ (s₁ : List ℕ) (columns : AllJoined (range_on false ch t board) s s₁) where
    -- then the tracks, of columns 0 to w
    pub tracks_ready : (lines places : ℕ) → lines ≡ t + 1 → places ≡ width ch + 1
        → JoinReady (record { channel = ch; board = board; tracks = t }) true lines places s₁
    tracks_ready lines places el ep =
        let n = count in
        let z = columns.size ∙ alone-size in
        let f = file-small ch board t ok in
        record {
          elements = record { count = z ∙ n; some = let w = ok.escapes.wide in omega arith; forest = columns.forest };
          fits = rw (el, ep, z, n) (fits-tracks ch board t ok);
          some = omega arith;
          few = let w = ok.escapes.narrow in omega arith;
        }

    module _ (s₂ flat : List ℕ) (tracks : AllJoined (range_on true ch t board) s₁ s₂)
        (roots : flat ≡ map (root_of s₂) (from 0 (length s₂))) where
      size : length s₂ ≡ length s₀
      size = tracks.size ∙ columns.size ∙ alone-size

      flat-size : length flat ≡ length s₀
      flat-size = ap length roots ∙ length-map-from (root_of s₂) (length s₂) ∙ size

      small : length s₀ ≤ half
      small = let few = elements-few ch board t ok in let n = count in omega arith

      -- the number of an element is its root, which is not above it
      flat-at : (i : ℕ) → i < length s₀ → (get_or flat i 0 ≡ root_of s₂ i) × (get_or flat i 0 ≤ i)
      flat-at i l =
          let z = size in
          let e = numbered-at (root_of s₂) (length s₂) roots i (omega arith) in
          let b = root_below s₂ tracks.forest i (omega arith) in
          (e, omega arith)

      flat-mark : (i : ℕ) → i < length s₀ → get_or (marks_in flat) i 0 ≡ root_of s₂ i + 1
      flat-mark i l =
          let z = flat-size in
          let k = small in
          let f = flat-at i l in
          mark-at flat i (omega arith) ∙ ap (λ (v : ℕ). v + 1) (low_same (get_or flat i 0) (omega arith) ∙ f.0)

      pub flat-ready : FaultReady ch flat
      flat-ready =
          let z = flat-size in
          let n = count in
          record {
            long = omega arith;
            small = let k = small in omega arith;
            marked = λ i l. let m = flat-mark i (omega arith) in let f = flat-at i (omega arith) in omega arith;
          }

      -- no class has a net yet
      no_second : (i : ℕ) → high_half (get_or flat i 0) ≡ 0
      no_second i =
          elim (dec_lt i (length s₀)) [
            | yes l ↦ let f = flat-at i l in let k = small in high-low (get_or flat i 0) (omega arith)
            | no l ↦
                let z = flat-size in
                ap high_half (get_or-eq_default flat 0 (omega arith)) ∙ high-none
          ]

      pub flat-unowned : (m : ℕ) → get_or (owners_in flat) m 0 ≡ 0
      unfolding owners_in
      flat-unowned zero = refl
      flat-unowned (suc i) = rw high-none at (get_or-map high_half flat i 0) ∙ no_second i

      -- two marks are equal exactly where the roots are
      same-marks : SameClasses (width ch + width ch + length (file_layout board).pieces) (marks_in flat)
          (marks ch (file_layout board))
      same-marks =
          let p = file-pieces board in
          let n = count in
          record {
            there =
                λ i j li lj e. let a = flat-mark i (omega arith) in let b = flat-mark j (omega arith) in
                root→mark ch board t ok s s₁ s₂ (alone-size ∙ n)
                (λ k lk. alone-all.1 k (omega arith)) columns tracks i j (omega arith) (omega arith) (omega arith);
            back =
                λ i j li lj e. let a = flat-mark i (omega arith) in let b = flat-mark j (omega arith) in
                let r = mark→root ch board t ok s s₁ s₂ (alone-size ∙ n)
                (λ k lk. alone-all.1 k (omega arith)) columns tracks i j (omega arith) (omega arith) e in omega arith;
          }

      -- what is found by the roots is the finding
      pub found-finding : (r : found.Option Fault) → Finds ch flat r → r ≡ found_of (finding ch (file_layout board))
      found-finding r h =
          let z = flat-size in
          let p = file-pieces board in
          let n = count in
          h (file_layout board) (omega arith) ∙ ap found_of
          (sym (same-finding ch (file_layout board) ok.escapes (marks_in flat) same-marks))
