-- Lists within lists: what holds of a sublist, the member that makes `all_of` fail, and the member that `least` picks.
use Rattle.std.specs.Prelude.{ℕ, min, ◌≤◌, ◌≡◌, ◌⊎◌, Bool, length, T}
use Rattle.std.proofs.Common.{arith, sym, ◌∙◌, inl, inr}
use Rattle.std.proofs.Math.Decide.{dec_le}
use Rattle.std.proofs.Math.Path.{refl}
use mathlib.Core.List.Memᴰ
use mathlib.Core.List.{List, [], ◌∷◌, Memᴰ}
use mathlib.Core.List.{Sublistᴰ}
use Rattle.std.proofs.Math.Logic.{⊎_elim}
use Rattle.lists.specs.Lists.{all_of, is_in, least, Distinct}
use Rattle.lists.specs.Tests.{passes?, and_both}
use Rattle.lists.specs.Members.{is_in→member, member→is_in}
use Rattle.lists.specs.Pigeonhole.{distinct_head, distinct_tail, distinct_cons}

pub member? : (n : ℕ) (ns : List ℕ) → Memᴰ n ns ⊎ (Memᴰ n ns → ⊥)
member? n ns = ⊎_elim (λ t. inl (is_in→member n ns t)) (λ f. inr (λ m. f (member→is_in m))) (passes? (is_in n ns))

module _ {A : Type 0} where
  pub sublist-member : {xs ys : List A} {x : A} → Sublistᴰ xs ys → Memᴰ x xs → Memᴰ x ys
  sublist-member Sublistᴰ.slnil m = m
  sublist-member (Sublistᴰ.cons s) m = Memᴰ.tail (sublist-member s m)
  sublist-member (Sublistᴰ.cons-cons e s) m =
      ⊎_elim (λ q. Memᴰ.head (q ∙ e)) (λ k. Memᴰ.tail (sublist-member s k)) (Memᴰ.cases_cons m)

  pub sublist-tail : {x : A} {xs ys : List A} → Sublistᴰ (x ∷ xs) ys → Sublistᴰ xs ys
  sublist-tail (Sublistᴰ.cons s) = Sublistᴰ.cons (sublist-tail s)
  sublist-tail (Sublistᴰ.cons-cons e s) = Sublistᴰ.cons s

  pub sublist-length : {xs ys : List A} → Sublistᴰ xs ys → length xs ≤ length ys
  sublist-length Sublistᴰ.slnil = omega arith
  sublist-length (Sublistᴰ.cons s) = let h = sublist-length s in omega arith
  sublist-length (Sublistᴰ.cons-cons e s) = let h = sublist-length s in omega arith

  -- where `all_of` fails, a member fails
  pub fails→member : (f : A → Bool) (xs : List A) → (T (all_of f xs) → ⊥) → (x : A) × Memᴰ x xs × (T (f x) → ⊥)
  unfolding all_of
  fails→member f [] h = absurd (h tt)
  fails→member f (y ∷ ys) h =
      ⊎_elim (λ t. let r = fails→member f ys (λ k. h (and_both (f y) (all_of f ys) t k)) in
      (r.0, Memᴰ.tail r.1, r.2)) (λ k. (y, Memᴰ.head refl, k)) (passes? (f y))

pub sublist-distinct : {xs ys : List ℕ} → Sublistᴰ xs ys → Distinct ys → Distinct xs
sublist-distinct Sublistᴰ.slnil d = d
sublist-distinct (Sublistᴰ.cons {a = y} {l₂ = ys} s) d = sublist-distinct s (distinct_tail y ys d)
sublist-distinct (Sublistᴰ.cons-cons {a = x} {b = y} {l₁ = xs} {l₂ = ys} e s) d =
    distinct_cons x xs (λ m. distinct_head y ys d (Memᴰ.cast (sym e) (sublist-member s m)))
    (sublist-distinct s (distinct_tail y ys d))

min_cases : (a b : ℕ) → (min a b ≡ a) ⊎ (min a b ≡ b)
min_cases a b = elim (dec_le a b) [ yes h ↦ inl (omega arith) | no h ↦ inr (omega arith) ]

-- the least of a list that is not empty is a member
pub least-member : (x : ℕ) (xs : List ℕ) → Memᴰ (least (x ∷ xs)) (x ∷ xs)
unfolding least
least-member x [] = Memᴰ.head refl
least-member x (y ∷ ys) =
    ⊎_elim Memᴰ.head (λ e. Memᴰ.tail (Memᴰ.cast e (least-member y ys))) (min_cases x (least (y ∷ ys)))

-- the same, of a list that has a member
pub least-among : {x : ℕ} {xs : List ℕ} → Memᴰ x xs → Memᴰ (least xs) xs
least-among {xs = []} m = elim m [ ]
least-among {xs = y ∷ ys} m = least-member y ys

-- and none of them is lower
pub least-lower : (xs : List ℕ) {x : ℕ} → Memᴰ x xs → least xs ≤ x
unfolding least
least-lower [] m = absurd (Memᴰ.not-nil m)
least-lower (y ∷ []) m = ⊎_elim (λ e. omega arith) (λ k. absurd (Memᴰ.not-nil k)) (Memᴰ.cases_cons m)
least-lower (y ∷ (z ∷ zs)) m =
    ⊎_elim (λ e. omega arith) (λ k. let l = least-lower (z ∷ zs) k in omega arith) (Memᴰ.cases_cons m)
