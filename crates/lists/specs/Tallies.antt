-- The first of the numbers 1 to n that passes a test, as one number that is 0 if there is none; and how many are kept
-- of two lists put end to end.
use Rattle.std.specs.Prelude.{ℕ, zero, suc, ◌+◌, ◌≤◌, ◌<◌, ◌≡◌, Bool, length, get_or, set, T}
use native.Mathlib.Omega.{arith}
use Rattle.std.proofs.Common.{add-one, sym, ◌∙◌, ap, length-append}
use Rattle.std.proofs.Math.Path.{refl}
use mathlib.Core.List.{List, [], ◌∷◌, ◌++◌, map, Memᴰ}
use Rattle.std.proofs.Math.Bool.{true, false, cond}
use Rattle.lists.specs.Lists.{keep, any_of, all_of, up_to, head_or, Lowest}
use Rattle.lists.specs.Firsts.{Passing, NonePasses, FirstKept, no_one, begins, first-kept}

-- the first of 1 to n that passes, 0 if none does
abbrev pub first_of : (ℕ → Bool) → ℕ → ℕ
first_of f n = head_or 0 (keep f (up_to n))

module _ (f : ℕ → Bool) (n : ℕ) where
  pub first-is : (p : ℕ) → Lowest (Passing f 1 n) p → first_of f n ≡ p
  unfolding head_or
  first-is p l = go (first-kept f 1 n)
    where
      go : {ps : List ℕ} → FirstKept f 1 n ps → head_or 0 ps ≡ p
      go (no_one none) = absurd (none p l.holds)
      go (begins q m) = let a = m.lowest p l.holds in let b = l.lowest q m.holds in omega arith

  pub first-none : NonePasses f 1 n → keep f (up_to n) ≡ []
  first-none none = go (first-kept f 1 n)
    where
      go : {ps : List ℕ} → FirstKept f 1 n ps → ps ≡ []
      go (no_one h) = refl
      go (begins q m) = absurd (none q m.holds)

  -- and the other way round: what the number says of the test
  pub is-first : (first_of f n ≡ 0 → ⊥) → Lowest (Passing f 1 n) (first_of f n)
  unfolding head_or
  is-first = go (first-kept f 1 n)
    where
      go : {ps : List ℕ} → FirstKept f 1 n ps → (head_or 0 ps ≡ 0 → ⊥) → Lowest (Passing f 1 n) (head_or 0 ps)
      go (no_one none) h = absurd (h refl)
      go (begins q m) h = m

  pub none_first : first_of f n ≡ 0 → NonePasses f 1 n
  unfolding head_or
  none_first = go (first-kept f 1 n)
    where
      go : {ps : List ℕ} → FirstKept f 1 n ps → head_or 0 ps ≡ 0 → NonePasses f 1 n
      go (no_one none) h = none
      go (begins q m) h = let l = m.holds.low in absurd (omega arith)

-- a test of the numbers 1 to n, where P is what it says, by places from 0: a scan from the front stops at the first
-- that passes, or finds none
module _ (f : ℕ → Bool) (n : ℕ) (P : ℕ → Type 0) (says : (i : ℕ) → i < n → T (f (suc i)) → P i) where
  pub first-at : (i : ℕ) → i < n → T (f (suc i)) → ((k : ℕ) → k < i → P k → ⊥) → first_of f n ≡ i + 1
  first-at i l t before =
      first-is f n (suc i) (record {
        holds = record { low = omega arith; high = omega arith; passes = t };
        lowest = below;
      }) ∙ sym (add-one i)
    where
      below : (q : ℕ) → Passing f 1 n q → suc i ≤ q
      below zero h = let low = h.low in absurd (omega arith)
      below (suc k) h =
          let high = h.high in
          let out : k < i → ⊥ = λ m. before k m (says k (omega arith) h.passes) in
          omega arith

  pub none-at : ((k : ℕ) → k < n → P k → ⊥) → keep f (up_to n) ≡ []
  none-at before = first-none f n below
    where
      below : (q : ℕ) → Passing f 1 n q → ⊥
      below zero h = let low = h.low in omega arith
      below (suc k) h = let high = h.high in before k (omega arith) (says k (omega arith) h.passes)

module _ {A : Type 0} where
  -- two tests that agree on the members keep the same
  pub keep_same : (f g : A → Bool) (xs : List A) → ((x : A) → Memᴰ x xs → f x ≡ g x) → keep f xs ≡ keep g xs
  unfolding keep
  keep_same f g [] h = refl
  keep_same f g (x ∷ xs) h =
      let r = keep_same f g xs (λ y m. h y (Memᴰ.tail m)) in let e = h x (Memᴰ.head refl) in rw (e, r)

  -- and pass of some member together
  pub any_same : (f g : A → Bool) (xs : List A) → ((x : A) → Memᴰ x xs → f x ≡ g x) → any_of f xs ≡ any_of g xs
  unfolding any_of
  any_same f g [] h = refl
  any_same f g (x ∷ xs) h =
      let r = any_same f g xs (λ y m. h y (Memᴰ.tail m)) in let e = h x (Memᴰ.head refl) in rw (e, r)

  -- a test of what f gives passes of all together with one of the members that agrees with it
  pub all_map : {B : Type 0} (f : A → B) (p : B → Bool) (q : A → Bool) (xs : List A)
      → ((x : A) → Memᴰ x xs → p (f x) ≡ q x) → all_of p (map f xs) ≡ all_of q xs
  unfolding all_of
  all_map f p q [] h = refl
  all_map f p q (x ∷ xs) h =
      let r = all_map f p q xs (λ y m. h y (Memᴰ.tail m)) in let e = h x (Memᴰ.head refl) in rw (e, r)

  pub keep_append : (f : A → Bool) (xs ys : List A) → keep f (xs ++ ys) ≡ keep f xs ++ keep f ys
  unfolding keep
  keep_append f [] ys = refl
  keep_append f (x ∷ xs) ys = go (f x) (keep_append f xs ys)
    where
      go : (b : Bool) {rest : List A} → rest ≡ keep f xs ++ keep f ys
          → cond b (x ∷ rest) rest ≡ cond b (x ∷ keep f xs) (keep f xs) ++ keep f ys
      go true e = rw e
      go false e = e

  pub length-keep-append : (f : A → Bool) (xs ys : List A)
      → length (keep f (xs ++ ys)) ≡ length (keep f xs) + length (keep f ys)
  length-keep-append f xs ys = ap length (keep_append f xs ys) ∙ length-append (keep f xs) (keep f ys)

-- a store of a number within a bound leaves a place within the bound
pub set-within : (xs : List ℕ) (i j v b : ℕ) → get_or xs j 0 ≤ b → v ≤ b → get_or (set xs i v) j 0 ≤ b
set-within [] i j v b h k = h
set-within (x ∷ xs) zero zero v b h k = k
set-within (x ∷ xs) zero (suc j) v b h k = h
set-within (x ∷ xs) (suc i) zero v b h k = h
set-within (x ∷ xs) (suc i) (suc j) v b h k = set-within xs i j v b h k
