-- The sweep of one line: `starts` has at each place the range that reaches furthest of those that start there, as an
-- element and the first place past it; 0 where none starts.
use Rattle.std.specs.Prelude.{ℕ, max, ◌≤◌, ◌<◌, ◌≡◌, List, length, get_or, set}
use Rattle.classes.specs.Halves.{low_half, high_half, number_of}
use Rattle.classes.specs.Forest.{Forest, Same, Kept, Joins, Grown, Respects}

-- each place's element is one of the forest's
pub record Sweepable (starts s : List ℕ) : Type 0 where
  pub forest : Forest s
  pub inside : (a : ℕ) → a < length starts → low_half (get_or starts a 0) < length s

-- of two ranges, the second of which starts at `start` and the first not later: they are joined if they overlap, and
-- the greater number has the one that reaches further
pub record Met (first start second : ℕ) (s : List ℕ) (r : ℕ) (s' : List ℕ) : Type 0 where
  pub furthest : r ≡ max first second
  pub joins : start < high_half first → Joins s (low_half first) (low_half second) s'
  pub apart : (start < high_half first → ⊥) → Kept s s'

-- the range of an element is entered at its start
pub record Enters (element start past : ℕ) (starts s starts' s' : List ℕ) : Type 0 where
  pub stored : starts' ≡ set starts start (max (get_or starts start 0) (number_of element past))
  pub joins : start < high_half (get_or starts start 0) → Joins s (low_half (get_or starts start 0)) element s'
  pub apart : (start < high_half (get_or starts start 0) → ⊥) → Kept s s'

-- the sweep goes past a place: what starts there meets what reaches furthest of those before it
pub record Passes (start furthest : ℕ) (starts s : List ℕ) (r : ℕ) (starts' s' : List ℕ) : Type 0 where
  pub cleared : starts' ≡ set starts start 0
  pub free : get_or starts start 0 ≡ 0 → (r ≡ furthest) × Kept s s'
  pub taken : (get_or starts start 0 ≡ 0 → ⊥) → Met furthest start (get_or starts start 0) s r s'

-- labels of elements that are the same where two ranges overlap
abbrev pub OneLabel : (ℕ → ℕ) → List ℕ → Type 0
OneLabel label starts =
    (a b : ℕ) → a < b → b < length starts → b < high_half (get_or starts a 0) → 0 < get_or starts b 0
    → label (low_half (get_or starts a 0)) ≡ label (low_half (get_or starts b 0))

-- the ranges that overlap are joined, and no others, and the places are free
pub record Swept (starts s starts' s' : List ℕ) : Type 0 where
  pub grown : Grown s s'
  pub links : (a b : ℕ) → a ≤ b → b < length starts → b < high_half (get_or starts a 0) → 0 < get_or starts b 0
      → Same s' (low_half (get_or starts a 0)) (low_half (get_or starts b 0))
  pub only : (label : ℕ → ℕ) → Respects label s → OneLabel label starts → Respects label s'
  pub clear : (a : ℕ) → get_or starts' a 0 ≡ 0
