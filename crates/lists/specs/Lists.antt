-- The list vocabulary that the definitions of every part share. Places in a row are counted from 1, as columns and pin
-- positions are.
use Rattle.std.specs.Prelude.{ℕ, zero, suc, min, max, ◌≤◌, ◌≡◌, List, [], ◌∷◌, ◌++◌, Bool, true, false, cond, ◌&&◌, ◌||◌, length, get_or, drop, leb, eqb}

-- the members that pass a test, in order
unfoldable pub keep {ℓ} : {A : Type ℓ} → (A → Bool) → List A → List A
keep f [] = []
keep f (x ∷ xs) = let r = keep f xs in cond (f x) (x ∷ r) r

-- what f gives for each member, end to end
unfoldable pub each {ℓ} : {A B : Type ℓ} → (A → List B) → List A → List B
each f [] = []
each f (x ∷ xs) = f x ++ each f xs

unfoldable pub any_of {ℓ} : {A : Type ℓ} → (A → Bool) → List A → Bool
any_of f [] = false
any_of f (x ∷ xs) = f x || any_of f xs

unfoldable pub all_of {ℓ} : {A : Type ℓ} → (A → Bool) → List A → Bool
all_of f [] = true
all_of f (x ∷ xs) = f x && all_of f xs

abbrev pub is_in : ℕ → List ℕ → Bool
is_in n ns = any_of (eqb n) ns

-- n numbers, rising from a
unfoldable pub from : ℕ → ℕ → List ℕ
from a zero = []
from a (suc n) = a ∷ from (suc a) n

-- 1 to n
abbrev pub up_to : ℕ → List ℕ
up_to n = from 1 n

unfoldable pub head_or {ℓ} : {A : Type ℓ} → A → List A → A
head_or d [] = d
head_or d (x ∷ xs) = x

unfoldable pub last_or {ℓ} : {A : Type ℓ} → A → List A → A
last_or d [] = d
last_or d (x ∷ xs) = last_or x xs

-- the greatest of the numbers, 0 if there are none
unfoldable pub greatest : List ℕ → ℕ
greatest [] = 0
greatest (x ∷ xs) = max x (greatest xs)

-- the least of the numbers, 0 if there are none
unfoldable pub least : List ℕ → ℕ
least [] = 0
least (x ∷ []) = x
least (x ∷ (y ∷ ys)) = min x (least (y ∷ ys))

-- a ≤ x ≤ b
abbrev pub within : ℕ → ℕ → ℕ → Bool
within a x b = leb a x && leb x b

-- what stands at place k of a row, counted from 1; 0 elsewhere
unfoldable pub at : List ℕ → ℕ → ℕ
at row zero = 0
at row (suc k) = get_or row k 0

-- a lent buffer with its front filled and the remainder as it was
abbrev pub overlay {ℓ} : {A : Type ℓ} → List A → List A → List A
overlay front buffer = front ++ drop (length front) buffer

-- no number stands twice
unfoldable pub Distinct : List ℕ → Type 0
Distinct [] = Unit {0}
Distinct (x ∷ xs) = (is_in x xs ≡ false) × Distinct xs

-- the least number of which P holds
pub record Lowest (P : ℕ → Type 0) (p : ℕ) : Type 0 where
  pub holds : P p
  pub lowest : (q : ℕ) → P q → p ≤ q
