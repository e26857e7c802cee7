-- What is asked of items, and what a fill and a walk then promise of them, as statements. F1 to F4 of the fill are
-- fields of `FilledBy`.
use Rattle.std.specs.Prelude.{ℕ, ◌≤◌, ◌<◌, ◌≡◌, ◌⊎◌, length, T}
use mathlib.Core.List.{List, [], ◌++◌, Memᴰ}
use Rattle.lists.specs.Lists.{head_or, Distinct}
use Rattle.channel.specs.Constraints.{Step, nets_of, Descends}
use Rattle.leftedge.specs.Items.{Items, Place, track_of}

-- item b is directly below item a, in column c
abbrev pub Falls : Items → ℕ → ℕ → ℕ → Type 0
Falls it a b c = Memᴰ (record { column = c; lower = b }) (it.drops a)

-- m stands before n in the list
pub record Before (m n : ℕ) (xs : List ℕ) : Type 0 where
  pub front : List ℕ
  pub back : List ℕ
  pub split : xs ≡ front ++ back
  pub earlier : Memᴰ m front
  pub later : Memᴰ n back

-- no item stands twice; what is below an item is an item; fitting after is transitive; nothing fits after what is
-- directly below it
pub record Orderly (it : Items) : Type 0 where
  pub distinct : Distinct it.order
  pub inside : (a b c : ℕ) → Memᴰ a it.order → Falls it a b c → Memᴰ b it.order
  pub chained : (l m n : ℕ) → Memᴰ m it.order → T (it.fits_after l m) → T (it.fits_after m n)
      → T (it.fits_after l n)
  pub apart : (a b c : ℕ) → Falls it a b c → T (it.fits_after b a) → ⊥

-- a fill that ends with every item placed on one of t tracks
pub record FilledBy (it : Items) (t : ℕ) (ps : List Place) : Type 0 where
  -- F1: each item has a track, and nothing else has one; each track has an item
  pub tracked : (n : ℕ) → Memᴰ n it.order → (1 ≤ track_of ps n) × (track_of ps n ≤ t)
  pub untracked : (n : ℕ) → (Memᴰ n it.order → ⊥) → track_of ps n ≡ 0
  pub used : (k : ℕ) → 1 ≤ k → k ≤ t → (n : ℕ) × Memᴰ n it.order × (track_of ps n ≡ k)
  pub few : t ≤ length it.order
  -- F2: of two items on one track, one fits after the other
  pub side : (m n : ℕ) → Memᴰ m it.order → Memᴰ n it.order → (m ≡ n → ⊥) → track_of ps m ≡ track_of ps n
      → T (it.fits_after m n) ⊎ T (it.fits_after n m)
  -- F3: what is directly below an item has a lower track
  pub lower : (a b c : ℕ) → Memᴰ a it.order → Falls it a b c → track_of ps b < track_of ps a
  -- F4: where nothing is below anything, an item met on each lower track one that was placed before it and after which
  -- it does not fit
  pub pressed : ((n : ℕ) → it.drops n ≡ []) → (n j : ℕ) → Memᴰ n it.order → 1 ≤ j → j < track_of ps n
      → (m : ℕ) × Memᴰ m it.order × (track_of ps m ≡ j) × Before m n it.order × (T (it.fits_after m n) → ⊥)

-- a fill that ends with a track that stays empty: each item left has one directly below it that is left too
pub record StuckWith (it : Items) (left : List ℕ) : Type 0 where
  pub some_left : 0 < length left
  pub items : (n : ℕ) → Memᴰ n left → Memᴰ n it.order
  pub distinct : Distinct left
  pub blocked : (n : ℕ) → Memᴰ n left → (b c : ℕ) × Falls it n b c × Memᴰ b left

-- the steps are different items of those left, each over the next, and the last over the first
pub record ItemRing (it : Items) (left : List ℕ) (steps : List Step) : Type 0 where
  pub distinct : Distinct (nets_of steps)
  pub inside : (n : ℕ) → Memᴰ n (nets_of steps) → Memᴰ n left
  pub closed : Descends (Falls it) (head_or 0 (nets_of steps)) steps
