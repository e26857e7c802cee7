-- Places and lengths in what `each` puts end to end: a marked member that only one number gives stands in one place,
-- and what is counted for each number and each member can be counted the other way round.
use Rattle.std.specs.Prelude.{ℕ, zero, suc, ◌+◌, ◌*◌, ◌≤◌, ◌≡◌, ◌⊎◌, Bool, cond, ◌||◌, eqb}
use native.Mathlib.Omega.{arith}
use Rattle.std.proofs.Math.Path.{refl, ap}
use Rattle.std.proofs.Common.{sym, inl, inr, ⊎_elim, eqb→eq}
use mathlib.Core.List.Memᴰ
use mathlib.Core.List.{List, [], ◌∷◌, ◌++◌, Memᴰ}
use Rattle.std.proofs.Math.Bool.{true, false}
use Rattle.std.proofs.Math.Option.{some}
use Rattle.std.proofs.Math.ListN.{length, length-append, get_elem?}
use Rattle.lists.specs.Lists.{keep, each, up_to}
use Rattle.lists.specs.Tests.{or_cases}
use Rattle.lists.specs.Members.{keep-member, each_member}
use Rattle.lists.specs.Ends.{Rising, keep-rising, rising-distinct}
use Rattle.lists.specs.Ranges.{place-member}
use Rattle.lists.specs.Places.{length_from}
use Rattle.lists.specs.Pigeonhole.{pigeonhole, length-keep}

module _ {A : Type 0} where
  -- a place of two lists end to end is a place of the first, or one of the second
  pub place-append : (xs ys : List A) (i : ℕ) {y : A} → get_elem? (xs ++ ys) i ≡ some y
      → (get_elem? xs i ≡ some y) ⊎ ((j : ℕ) × (i ≡ length xs + j) × (get_elem? ys j ≡ some y))
  place-append [] ys i e = inr (i, omega arith, e)
  place-append (x ∷ xs) ys zero e = inl e
  place-append (x ∷ xs) ys (suc i) e =
      ⊎_elim inl (λ r. let q = r.1 in inr (r.0, omega arith, r.2)) (place-append xs ys i e)

  -- a number gives no two marked places, and of the numbers only n gives any: so there are no two
  module _ (f : ℕ → List A) (Marked : A → Type 0) (n : ℕ)
      (own : (m i j : ℕ) (y z : A) → get_elem? (f m) i ≡ some y → get_elem? (f m) j ≡ some z → Marked y → Marked z
      → i ≡ j) where
    pub one_place : (ns : List ℕ) → Rising ns → ((m : ℕ) (y : A) → Memᴰ m ns → Memᴰ y (f m) → Marked y
        → m ≡ n) → (i j : ℕ) (y z : A) → get_elem? (each f ns) i ≡ some y → get_elem? (each f ns) j ≡ some z → Marked y
        → Marked z → i ≡ j
    unfolding each Rising
    one_place [] rise only i j y z e₁ e₂ h₁ h₂ = absurd (Memᴰ.not-nil (place-member [] i e₁))
    one_place (m ∷ ms) rise only i j y z e₁ e₂ h₁ h₂ =
        go (place-append (f m) (each f ms) i e₁) (place-append (f m) (each f ms) j e₂)
        (λ k l d₁ d₂. one_place ms rise.1 (λ o u p. only o u (Memᴰ.tail p)) k l y z d₁ d₂ h₁ h₂)
      where
        apart : (k l : ℕ) (u v : A) → get_elem? (f m) k ≡ some u → get_elem? (each f ms) l ≡ some v → Marked u → Marked v
            → ⊥
        apart k l u v d₁ d₂ g₁ g₂ =
            let here = only m u (Memᴰ.head refl) (place-member (f m) k d₁) g₁ in
            let r = each_member f ms (place-member (each f ms) l d₂) in
            let there = only r.0 v (Memᴰ.tail r.1) r.2 g₂ in
            let less = rise.0 r.0 r.1 in
            omega arith

        Found : ℕ → A → Type 0
        Found k u = (get_elem? (f m) k ≡ some u) ⊎ ((l : ℕ) × (k ≡ length (f m) + l) × (get_elem? (each f ms) l ≡ some u))

        go : Found i y → Found j z → ((k l : ℕ) → get_elem? (each f ms) k ≡ some y → get_elem? (each f ms) l ≡ some z
            → k ≡ l) → i ≡ j
        go (inl d₁) (inl d₂) rest = own m i j y z d₁ d₂ h₁ h₂
        go (inl d₁) (inr r₂) rest = absurd (apart i r₂.0 y z d₁ r₂.2 h₁ h₂)
        go (inr r₁) (inl d₂) rest = absurd (apart j r₁.0 z y d₂ r₁.2 h₂ h₁)
        go (inr r₁) (inr r₂) rest =
            let q = rest r₁.0 r₂.0 r₁.2 r₂.2 in let q₁ = r₁.1 in let q₂ = r₂.1 in omega arith

  -- no more than k from each
  pub length-each-few : {B : Type 0} (k : ℕ) (f : A → List B) (xs : List A)
      → ((x : A) → Memᴰ x xs → length (f x) ≤ k) → length (each f xs) ≤ k * length xs
  unfolding each
  length-each-few k f [] h = omega arith
  length-each-few k f (x ∷ xs) h =
      let here = h x (Memᴰ.head refl) in
      let rest = length-each-few k f xs (λ y m. h y (Memᴰ.tail m)) in
      omega (arith, length-append (f x) (each f xs))

  pub length-each-most : {B C : Type 0} (k : ℕ) (f : A → List B) (g : A → List C) (xs : List A)
      → ((x : A) → length (f x) ≤ 1 + k * length (g x)) → length (each f xs) ≤ length xs + k * length (each g xs)
  unfolding each
  length-each-most k f g [] h = omega arith
  length-each-most k f g (x ∷ xs) h =
      let here = h x in
      let rest = length-each-most k f g xs h in
      omega (arith, length-append (f x) (each f xs), ap (λ (l : ℕ). k * l) (length-append (g x) (each g xs)))

  -- counting for each number the members that pass with it is counting for each member the numbers that pass with it
  module _ (test : ℕ → A → Bool) where
    count-cons : (x : A) (xs : List A) (ns : List ℕ)
        → length (each (λ n. keep (test n) (x ∷ xs)) ns) ≡ length (keep (λ n. test n x) ns) + length
        (each (λ n. keep (test n) xs) ns)
    unfolding each keep
    count-cons x xs [] = refl
    count-cons x xs (n ∷ ns) = go (test n x) (count-cons x xs ns)
      where
        go : (b : Bool) → length (each (λ m. keep (test m) (x ∷ xs)) ns) ≡ length (keep (λ m. test m x) ns) + length
            (each (λ m. keep (test m) xs) ns)
            → length (cond b (x ∷ keep (test n) xs) (keep (test n) xs) ++ each (λ m. keep (test m) (x ∷ xs)) ns)
            ≡ length (cond b (n ∷ keep (λ m. test m x) ns) (keep (λ m. test m x) ns)) + length
            (keep (test n) xs ++ each (λ m. keep (test m) xs) ns)
        go true h =
            omega (
              arith,
              length-append (keep (test n) xs) (each (λ m. keep (test m) (x ∷ xs)) ns),
              length-append (keep (test n) xs) (each (λ m. keep (test m) xs) ns),
            )
        go false h =
            omega (
              arith,
              length-append (keep (test n) xs) (each (λ m. keep (test m) (x ∷ xs)) ns),
              length-append (keep (test n) xs) (each (λ m. keep (test m) xs) ns),
            )

    count_none : (ns : List ℕ) → length (each (λ n. keep (test n) []) ns) ≡ 0
    unfolding each keep
    count_none [] = refl
    count_none (n ∷ ns) = count_none ns

    pub count-both-ways : (k : ℕ) (ns : List ℕ) → ((x : A) → length (keep (λ n. test n x) ns) ≤ k) → (xs : List A)
        → length (each (λ n. keep (test n) xs) ns) ≤ k * length xs
    count-both-ways k ns h [] = omega (arith, count_none ns)
    count-both-ways k ns h (x ∷ xs) =
        let here = h x in let rest = count-both-ways k ns h xs in omega (arith, count-cons x xs ns)

-- no more numbers from 1 to n pass a test than there are
pub few-kept : (f : ℕ → Bool) (n : ℕ) → length (keep f (up_to n)) ≤ n
few-kept f n = omega (arith, length-keep f (up_to n), length_from 1 n)

-- of numbers that rise at most two are one of two
pub at_most_two : (a b : ℕ) (ns : List ℕ) → Rising ns → length (keep (λ n. eqb a n || eqb b n) ns) ≤ 2
at_most_two a b ns rise =
    pigeonhole (keep (λ n. eqb a n || eqb b n) ns) (a ∷ (b ∷ []))
    (rising-distinct _ (keep-rising (λ n. eqb a n || eqb b n) ns rise)) (λ n m.
    ⊎_elim (λ t. Memᴰ.head (sym (eqb→eq a n t))) (λ t. Memᴰ.tail (Memᴰ.head (sym (eqb→eq b n t))))
    (or_cases (eqb a n) (eqb b n) (keep-member (λ e. eqb a e || eqb b e) ns m).1))
