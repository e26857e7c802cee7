-- Union-find: a forest in the low halves of a list's numbers, and the classes of elements that have one root.
use Rattle.std.specs.Prelude.{ℕ, zero, suc, min, max, ◌≤◌, ◌<◌, ◌≡◌, List, cond, length, get_or, set, eqb}
use Rattle.classes.specs.Halves.{half, low_half, high_half, number_of}

-- the two halves of element i's number
unfoldable pub parent_of : List ℕ → ℕ → ℕ
parent_of s i = low_half (get_or s i 0)

unfoldable pub second_of : List ℕ → ℕ → ℕ
second_of s i = high_half (get_or s i 0)

-- no more elements than a half can name, and no parent above its child
pub record Forest (s : List ℕ) : Type 0 where
  pub small : length s ≤ half
  pub rising : (i : ℕ) → i < length s → parent_of s i ≤ i

-- k steps from an element to its parent
unfoldable pub climb : List ℕ → ℕ → ℕ → ℕ
climb s zero i = i
climb s (suc k) i = climb s k (parent_of s i)

-- the root of an element's class: a parent is below its child or is the child, so i steps are enough
unfoldable pub root_of : List ℕ → ℕ → ℕ
root_of s i = climb s i i

abbrev pub Same : List ℕ → ℕ → ℕ → Type 0
Same s a b = root_of s a ≡ root_of s b

-- the parent of an element changed
unfoldable pub hung : List ℕ → ℕ → ℕ → List ℕ
hung s child parent = set s child (number_of parent (high_half (get_or s child 0)))

-- the second half of an element changed
unfoldable pub noted : List ℕ → ℕ → ℕ → List ℕ
noted s i second = set s i (number_of (low_half (get_or s i 0)) second)

-- the root of an element of root r when the classes of roots a and b are joined
unfoldable pub merged : ℕ → ℕ → ℕ → ℕ
merged a b r = cond (eqb r (max a b)) (min a b) r

-- the same classes and the same second halves
pub record Kept (s s' : List ℕ) : Type 0 where
  pub forest : Forest s'
  pub size : length s' ≡ length s
  pub roots : (i : ℕ) → i < length s → root_of s' i ≡ root_of s i
  pub seconds : (i : ℕ) → i < length s → second_of s' i ≡ second_of s i

-- the classes of a and b are one, and nothing else is changed
pub record Joins (s : List ℕ) (a b : ℕ) (s' : List ℕ) : Type 0 where
  pub forest : Forest s'
  pub size : length s' ≡ length s
  pub roots : (i : ℕ) → i < length s → root_of s' i ≡ merged (root_of s a) (root_of s b) (root_of s i)
  pub seconds : (i : ℕ) → i < length s → second_of s' i ≡ second_of s i

-- classes may have been joined, and no second half is changed
pub record Grown (s s' : List ℕ) : Type 0 where
  pub forest : Forest s'
  pub size : length s' ≡ length s
  pub grows : (a b : ℕ) → a < length s → b < length s → Same s a b → Same s' a b
  pub seconds : (i : ℕ) → i < length s → second_of s' i ≡ second_of s i

-- elements of one class have one label
abbrev pub Respects : (ℕ → ℕ) → List ℕ → Type 0
Respects label s = (i : ℕ) → i < length s → label i ≡ label (root_of s i)
