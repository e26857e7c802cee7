-- What stands at a place of `map`, `++`, `from`, and at a place of a row, which is counted from 1.
use Rattle.std.specs.Prelude.{ℕ, zero, suc, ◌+◌, ◌≤◌, ◌<◌, ◌≡◌, Bool, ◌&&◌, length}
use Rattle.std.proofs.Common.{arith, add-suc, suc-add, ◌∙◌, ap, ap₂, get_or-append-add}
use Rattle.std.proofs.Math.Path.{refl}
use mathlib.Core.List.{List, [], ◌∷◌, ◌++◌, map}
use Rattle.std.proofs.Math.Bool.{true, false, cond}
use Rattle.std.proofs.Math.Option.{some}
use Rattle.std.proofs.Math.ListN.{get_elem?, get_or-append}
use Rattle.lists.specs.Lists.{keep, from, at}

module _ {A : Type 0} where
  pub place-below : (xs : List A) (i : ℕ) {x : A} → get_elem? xs i ≡ some x → i < length xs
  place-below [] i e = absurd (let z : ◌≡◌ {A = ℕ} 0 1 = cc in omega arith)
  place-below (y ∷ ys) zero e = omega arith
  place-below (y ∷ ys) (suc i) e = let h = place-below ys i e in omega arith

  pub place-left : (xs ys : List A) (i : ℕ) {x : A} → get_elem? xs i ≡ some x → get_elem? (xs ++ ys) i ≡ some x
  place-left [] ys i e = absurd (let z : ◌≡◌ {A = ℕ} 0 1 = cc in omega arith)
  place-left (z ∷ zs) ys zero e = e
  place-left (z ∷ zs) ys (suc i) e = place-left zs ys i e

  pub place-right : (xs ys : List A) (i : ℕ) → get_elem? (xs ++ ys) (length xs + i) ≡ get_elem? ys i
  place-right [] ys i = ap (get_elem? ys) (omega arith)
  place-right (z ∷ zs) ys i = rw suc-add (place-right zs ys i)

  module _ {B : Type 0} (f : A → B) where
    pub place_map : (xs : List A) (i : ℕ) {x : A} → get_elem? xs i ≡ some x → get_elem? (map f xs) i ≡ some (f x)
    place_map [] i e = absurd (let z : ◌≡◌ {A = ℕ} 0 1 = cc in omega arith)
    place_map (y ∷ ys) zero {x} e = let q : y ≡ x = cc in cc
    place_map (y ∷ ys) (suc i) e = place_map ys i e

    pub place-of-map : (xs : List A) (i : ℕ) {y : B} → get_elem? (map f xs) i ≡ some y
        → (x : A) × (get_elem? xs i ≡ some x) × (f x ≡ y)
    place-of-map [] i e = absurd (let z : ◌≡◌ {A = ℕ} 0 1 = cc in omega arith)
    place-of-map (x ∷ xs) zero {y} e = let q : f x ≡ y = cc in (x, refl, q)
    place-of-map (x ∷ xs) (suc i) e = place-of-map xs i e

  -- keeping twice is keeping what passes both tests
  pub keep-keep : (f g : A → Bool) (xs : List A) → keep f (keep g xs) ≡ keep (λ x. g x && f x) xs
  unfolding keep
  keep-keep f g [] = refl
  keep-keep f g (x ∷ xs) = go (g x) (keep-keep f g xs)
    where
      go : (b : Bool) {rest : List A} → keep f (keep g xs) ≡ rest
          → keep f (cond b (x ∷ keep g xs) (keep g xs)) ≡ cond (b && f x) (x ∷ rest) rest
      go true e = rw e
      go false e = e

pub length_from : (a n : ℕ) → length (from a n) ≡ n
unfolding from
length_from a zero = refl
length_from a (suc n) = ap suc (length_from (suc a) n)

pub place-from : (a n i : ℕ) → i < n → get_elem? (from a n) i ≡ some (a + i)
unfolding from
place-from a zero i h = absurd (omega arith)
place-from a (suc n) zero h = ap some (omega arith)
place-from a (suc n) (suc i) h = place-from (suc a) n i (omega arith) ∙ ap some (omega arith)

-- a list whose places hold what f gives for their numbers
pub named-by-place : {A : Type 0} (f : ℕ → A) (a : ℕ) (xs : List A) → ((i : ℕ) → i < length xs
    → get_elem? xs i ≡ some (f (a + i))) → xs ≡ map f (from a (length xs))
unfolding from
named-by-place f a [] h = refl
named-by-place f a (x ∷ xs) h =
    let head : some x ≡ some (f (a + 0)) = h 0 (omega arith) in
    let here : x ≡ f (a + 0) = cc in
    let rest = named-by-place f (suc a) xs
    (λ i l. h (suc i) (omega arith) ∙ ap (λ (k : ℕ). some (f k)) (omega arith)) in
    ap₂ (λ y ys. y ∷ ys) (here ∙ ap f (omega arith)) rest

-- the same for `at`, which counts from 1
pub at_place : (xs : List ℕ) (i : ℕ) {x : ℕ} → get_elem? xs i ≡ some x → at xs (suc i) ≡ x
unfolding at
at_place [] i e = absurd (let z : ◌≡◌ {A = ℕ} 0 1 = cc in omega arith)
at_place (y ∷ ys) zero e = cc
at_place (y ∷ ys) (suc i) e = at_place ys i e

pub at_left : (xs ys : List ℕ) (p : ℕ) → p ≤ length xs → at (xs ++ ys) p ≡ at xs p
unfolding at
at_left xs ys zero h = refl
at_left xs ys (suc k) h = get_or-append xs ys 0 k h

pub at_right : (xs ys : List ℕ) (c : ℕ) → 0 < c → at (xs ++ ys) (length xs + c) ≡ at ys c
unfolding at
at_right xs ys zero h = absurd (omega arith)
at_right xs ys (suc k) h = rw add-suc (get_or-append-add xs ys k 0)
