-- Lists in two parts, the second moved on by as many numbers as the first has: ranges, and what is kept, mapped and put
-- end to end of them.
use Rattle.std.specs.Prelude.{ℕ, zero, suc, max, ◌+◌, ◌≡◌, Bool, length, T}
use Rattle.std.proofs.Common.{arith, ◌∙◌, ap₂}
use Rattle.std.proofs.Math.Path.{refl, ap}
use mathlib.Core.List.{List, [], ◌∷◌, ◌++◌, map, map-append, Memᴰ, append-nil}
use Rattle.lists.specs.Lists.{keep, each, from, up_to, head_or, last_or, greatest}
use Rattle.lists.specs.Ranges.{fails→none-kept, keep-map, length-keep-map}
use Rattle.lists.specs.Tallies.{keep_append, length-keep-append}

from-moved : (d a n : ℕ) → from (d + a) n ≡ map (λ k. d + k) (from a n)
unfolding from
from-moved d a zero = refl
from-moved d a (suc n) =
    let next : suc (d + a) ≡ d + suc a = omega arith in
    ap (λ (l : List ℕ). (d + a) ∷ l) (ap (λ (k : ℕ). from k n) next ∙ from-moved d (suc a) n)

from-two : (a m n : ℕ) → from a (m + n) ≡ from a m ++ from (a + m) n
unfolding from
from-two a zero n =
    let none : 0 + n ≡ n = omega arith in let here : a ≡ a + 0 = omega arith in
    ap (from a) none ∙ ap (λ (k : ℕ). from k n) here
from-two a (suc m) n =
    let one : suc m + n ≡ suc (m + n) = omega arith in let next : suc a + m ≡ a + suc m = omega arith in
    ap (from a) one ∙ ap (λ (l : List ℕ). a ∷ l)
    (from-two (suc a) m n ∙ ap (λ (k : ℕ). from (suc a) m ++ from k n) next)

-- 1 to m + n is 1 to m, and then 1 to n moved on by m
pub up_to-two : (m n : ℕ) → up_to (m + n) ≡ up_to m ++ map (λ k. m + k) (up_to n)
up_to-two m n =
    let next : 1 + m ≡ m + 1 = omega arith in
    from-two 1 m n ∙ ap (λ (l : List ℕ). up_to m ++ l) (ap (λ (k : ℕ). from k n) next ∙ from-moved m 1 n)

-- what is kept of such a range is kept of each of its two parts
pub keep_two : (f : ℕ → Bool) (m n : ℕ)
    → keep f (up_to (m + n)) ≡ keep f (up_to m) ++ map (λ k. m + k) (keep (λ k. f (m + k)) (up_to n))
keep_two f m n =
    ap (keep f) (up_to-two m n) ∙ (keep_append f (up_to m) (map (λ k. m + k) (up_to n))
    ∙ ap (λ (l : List ℕ). keep f (up_to m) ++ l) (keep-map f (λ k. m + k) (up_to n)))

-- of the numbers below m + n those below m are counted, and those from m on
pub kept-two : (f : ℕ → Bool) (m n : ℕ)
    → length (keep f (from 0 (m + n))) ≡ length (keep f (from 0 m)) + length (keep (λ k. f (m + k)) (from 0 n))
kept-two f m n =
    let front : 0 + m ≡ m + 0 = omega arith in
    ap (λ (l : List ℕ). length (keep f l)) (from-two 0 m n)
    ∙ (length-keep-append f (from 0 m) (from (0 + m) n)
    ∙ ap (λ (k : ℕ). length (keep f (from 0 m)) + k)
    (ap (λ (l : List ℕ). length (keep f l)) (ap (λ (k : ℕ). from k n) front ∙ from-moved m 0 n)
    ∙ length-keep-map f (λ k. m + k) (from 0 n)))

-- where nothing is kept of one part, what is kept is what is kept of the other
pub keep-former : (f : ℕ → Bool) (m n : ℕ) → ((k : ℕ) → Memᴰ k (up_to n) → T (f (m + k)) → ⊥)
    → keep f (up_to (m + n)) ≡ keep f (up_to m)
keep-former f m n none =
    keep_two f m n ∙ (ap (λ (l : List ℕ). keep f (up_to m) ++ map (λ k. m + k) l)
    (fails→none-kept (λ k. f (m + k)) (up_to n) none) ∙ append-nil (keep f (up_to m)))

pub keep-latter : (f : ℕ → Bool) (m n : ℕ) → ((k : ℕ) → Memᴰ k (up_to m) → T (f k) → ⊥)
    → keep f (up_to (m + n)) ≡ map (λ k. m + k) (keep (λ k. f (m + k)) (up_to n))
keep-latter f m n none =
    keep_two f m n ∙ ap (λ (l : List ℕ). l ++ map (λ k. m + k) (keep (λ k. f (m + k)) (up_to n)))
    (fails→none-kept f (up_to m) none)

module _ {A B : Type 0} (g : A → B) where
  pub each_map : {C : Type 0} (f : B → List C) (xs : List A) → each f (map g xs) ≡ each (λ x. f (g x)) xs
  unfolding each
  each_map f [] = refl
  each_map {C} f (x ∷ xs) = ap (λ (l : List C). f (g x) ++ l) (each_map f xs)

  pub map_each : {C : Type 0} (f : C → List A) (xs : List C) → map g (each f xs) ≡ each (λ x. map g (f x)) xs
  unfolding each
  map_each f [] = refl
  map_each f (x ∷ xs) =
      map-append g (f x) (each f xs) ∙ ap (λ (l : List B). map g (f x) ++ l) (map_each f xs)

pub each_same : {A B : Type 0} (f g : A → List B) (xs : List A) → ((x : A) → Memᴰ x xs → f x ≡ g x)
    → each f xs ≡ each g xs
unfolding each
each_same f g [] h = refl
each_same f g (x ∷ xs) h =
    ap₂ ◌++◌ (h x (Memᴰ.head refl)) (each_same f g xs (λ y m. h y (Memᴰ.tail m)))

-- the first and the last of a list that has a member
module _ (f : ℕ → ℕ) where
  pub head-map : {xs : List ℕ} {x : ℕ} → Memᴰ x xs → head_or 0 (map f xs) ≡ f (head_or 0 xs)
  unfolding head_or
  head-map {xs = []} m = elim m [ ]
  head-map {xs = y ∷ ys} m = refl

  last-behind : (x : ℕ) (xs : List ℕ) → last_or (f x) (map f xs) ≡ f (last_or x xs)
  unfolding last_or
  last-behind x [] = refl
  last-behind x (y ∷ ys) = last-behind y ys

  pub last-map : {xs : List ℕ} {x : ℕ} → Memᴰ x xs → last_or 0 (map f xs) ≡ f (last_or 0 xs)
  unfolding last_or
  last-map {xs = []} m = elim m [ ]
  last-map {xs = y ∷ ys} m = last-behind y ys

pub greatest-append : (xs ys : List ℕ) → greatest (xs ++ ys) ≡ max (greatest xs) (greatest ys)
unfolding greatest
greatest-append [] ys = omega arith
greatest-append (x ∷ xs) ys = let r = greatest-append xs ys in omega arith
