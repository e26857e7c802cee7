-- Items with spans, none below another: a fill takes no more tracks than their density.
use Rattle.std.specs.Prelude.{ℕ, ◌≤◌, ◌<◌, ◌≡◌, T}
use native.Mathlib.Omega.{arith}
use Rattle.std.proofs.Math.Decide.{dec_le}
use Rattle.std.proofs.Math.Path.{sym}
use Rattle.std.proofs.Common.{◌∙◌}
use mathlib.Core.List.{List, [], Memᴰ}
use Rattle.lists.specs.Lists.{keep, up_to, within}
use Rattle.lists.specs.Tests.{→within}
use Rattle.lists.specs.Members.{kept, up_to-member, in-up_to}
use Rattle.lists.specs.Ends.{from-rising, rising-distinct}
use Rattle.lists.specs.Places.{length_from}
use Rattle.lists.specs.Pigeonhole.{injection}
use Rattle.lists.specs.Greatest.{greatest-map-upper}
use Rattle.items.specs.Density.{holding, densest}
use Rattle.leftedge.specs.Items.{Items, Place, track_of}
use Rattle.leftedge.specs.Invariants.{Before, FilledBy}

-- each item spans the columns first to last, within 1 to w; the order is by first column; and an item fits after
-- another that ends before it begins
pub record Spanning (it : Items) (first last : ℕ → ℕ) (w : ℕ) : Type 0 where
  pub inside : (n : ℕ) → Memᴰ n it.order → (1 ≤ first n) × (first n ≤ w)
  pub span : (n : ℕ) → Memᴰ n it.order → first n ≤ last n
  pub sorted : (m n : ℕ) → Before m n it.order → first m ≤ first n
  pub fits : (m n : ℕ) → last m < first n → T (it.fits_after m n)

module _ (it : Items) (first last : ℕ → ℕ) (w : ℕ) (s : Spanning it first last w)
    (free : (n : ℕ) → it.drops n ≡ []) (t : ℕ) (ps : List Place) (f : FilledBy it t ps) where
  -- at the first column of an item there is an item of each track up to its own
  pressed-over : (n j : ℕ) → Memᴰ n it.order → 1 ≤ j → j ≤ track_of ps n
      → (m : ℕ) × (track_of ps m ≡ j) × Memᴰ m (keep (λ e. within (first e) (first n) (last e)) it.order)
  pressed-over n j here h₁ h₂ =
      elim (dec_le (track_of ps n) j) [
        | yes h ↦ (n, omega arith, over n here (omega arith) (s.span n here))
        | no h ↦ below (f.pressed free n j here h₁ (omega arith))
      ]
    where
      over : (m : ℕ) → Memᴰ m it.order → first m ≤ first n → first n ≤ last m
          → Memᴰ m (keep (λ e. within (first e) (first n) (last e)) it.order)
      over m k starts ends =
          kept (λ e. within (first e) (first n) (last e)) k (→within (first m) (first n) (last m) starts ends)

      below : (m : ℕ) × Memᴰ m it.order × (track_of ps m ≡ j) × Before m n it.order
          × (T (it.fits_after m n) → ⊥) → (m : ℕ) × (track_of ps m ≡ j)
          × Memᴰ m (keep (λ e. within (first e) (first n) (last e)) it.order)
      below r =
          let holds : first n ≤ last r.0 = elim (dec_le (first n) (last r.0))
          [ yes k ↦ k | no k ↦ absurd (r.4 (s.fits r.0 n (omega arith))) ] in
          (r.0, r.2, over r.0 r.1 (s.sorted r.0 n r.3) holds)

  -- so an item of the highest track has as many over its first column as there are tracks
  pub tracks≤density : t ≤ densest first last it.order w
  unfolding densest holding
  tracks≤density =
      elim (dec_le t 0) [ yes h ↦ omega arith | no h ↦ counted (f.used t (omega arith) (omega arith)) ]
    where
      counted : (n : ℕ) × Memᴰ n it.order × (track_of ps n ≡ t) → t ≤ densest first last it.order w
      counted r =
          let n = r.0 in
          let top = r.2 in
          let inside = s.inside n r.1 in
          let over = keep (λ e. within (first e) (first n) (last e)) it.order in
          let gives : (j : ℕ) → Memᴰ j (up_to t) → (m : ℕ) × (track_of ps m ≡ j) × Memᴰ m over = λ j k.
          let b = up_to-member t k in pressed-over n j r.1 b.0 (omega arith) in
          let fit = injection (λ j m. track_of ps m ≡ j) (up_to t) over
          (record { gives = gives; apart = λ i j m e₁ e₂. sym e₁ ∙ e₂ })
          (rising-distinct (up_to t) (from-rising 1 t)) in
          let dense = greatest-map-upper (holding first last it.order) (in-up_to w (first n) inside.0
          inside.1) in
          let size = length_from 1 t in
          omega arith
