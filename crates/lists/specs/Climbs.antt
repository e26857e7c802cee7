-- Lists along which a value does not fall: lists of one value, and such lists end to end.
use Rattle.std.specs.Prelude.{ℕ, ◌≤◌, ◌≡◌, refl}
use Rattle.std.proofs.Common.{arith, ⊎_elim}
use mathlib.Core.List.Memᴰ
use mathlib.Core.List.{List, [], ◌∷◌, ◌++◌, Memᴰ}

-- the values do not fall along the list
unfoldable pub Climbs : (ℕ → ℕ) → List ℕ → Type 0
Climbs f [] = Unit {0}
Climbs f (x ∷ xs) = ((y : ℕ) → Memᴰ y xs → f x ≤ f y) × Climbs f xs

-- where they are all the same, they do not fall
pub climbs-level : (f : ℕ → ℕ) (v : ℕ) (xs : List ℕ) → ((x : ℕ) → Memᴰ x xs → f x ≡ v) → Climbs f xs
unfolding Climbs
climbs-level f v [] h = tt
climbs-level f v (x ∷ xs) h = (
  λ y m. let a = h x (Memᴰ.head refl) in let b = h y (Memᴰ.tail m) in omega arith,
  climbs-level f v xs (λ y m. h y (Memᴰ.tail m)),
)

-- other values that are the same for the list's numbers do not fall either
pub climbs-same : (f g : ℕ → ℕ) (xs : List ℕ) → ((x : ℕ) → Memᴰ x xs → g x ≡ f x) → Climbs f xs → Climbs g xs
unfolding Climbs
climbs-same f g [] h c = tt
climbs-same f g (x ∷ xs) h c = (
  λ y m. let a = h x (Memᴰ.head refl) in let b = h y (Memᴰ.tail m) in let l = c.0 y m in omega arith,
  climbs-same f g xs (λ y m. h y (Memᴰ.tail m)) c.1,
)

-- two such lists end to end, if no value of the second is lower than one of the first
pub climbs-append : (f : ℕ → ℕ) (xs ys : List ℕ) → Climbs f xs → Climbs f ys
    → ((x y : ℕ) → Memᴰ x xs → Memᴰ y ys → f x ≤ f y) → Climbs f (xs ++ ys)
unfolding Climbs
climbs-append f [] ys c d h = d
climbs-append f (x ∷ xs) ys c d h = (
  λ y m. ⊎_elim (c.0 y) (h x y (Memᴰ.head refl)) (Memᴰ.append_cases xs m),
  climbs-append f xs ys c.1 d (λ a b m. h a b (Memᴰ.tail m)),
)

-- the first has the lowest value
pub climbs-first : (f : ℕ → ℕ) (x : ℕ) (xs : List ℕ) → Climbs f (x ∷ xs) → (y : ℕ) → Memᴰ y xs → f x ≤ f y
unfolding Climbs
climbs-first f x xs c = c.0

-- what is behind the first does not fall either
pub climbs-rest : (f : ℕ → ℕ) (x : ℕ) (xs : List ℕ) → Climbs f (x ∷ xs) → Climbs f xs
unfolding Climbs
climbs-rest f x xs c = c.1
