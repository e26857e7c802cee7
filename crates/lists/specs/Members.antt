-- Membership in the lists that `keep`, `each`, `from` make, and what `any_of`, `all_of`, `is_in` tell of it.
use Rattle.std.specs.Prelude.{ℕ, zero, suc, ◌+◌, ◌≤◌, ◌<◌, ◌≡◌, Bool, cond, ◌||◌, eqb}
use Rattle.std.proofs.Common.{arith, sym, eqb→eq}
use Rattle.std.proofs.Math.Path.{refl, subst}
use mathlib.Core.List.Memᴰ
use mathlib.Core.List.{List, [], ◌∷◌, ◌++◌, Memᴰ}
use Rattle.std.proofs.Math.Logic.{⊎_elim}
use Rattle.std.proofs.Math.Bool.{true, false}
use Rattle.std.proofs.Math.Dec.{T, eqb_refl}
use Rattle.lists.specs.Lists.{keep, each, any_of, all_of, is_in, from, up_to}
use Rattle.lists.specs.Tests.{T→true, and_left, and_right, and_both, or_cases, or_left, or_right, true→T, eq→T}
use Rattle.lists.specs.Tests.{same_test, equal?}

module _ {A : Type 0} where
  -- what is kept is a member that passes, and such a member is kept
  pub keep-member : (f : A → Bool) (xs : List A) {x : A} → Memᴰ x (keep f xs) → Memᴰ x xs × T (f x)
  unfolding keep
  keep-member f [] h = absurd (Memᴰ.not-nil h)
  keep-member f (y ∷ ys) {x} h = go (f y) refl h (λ k. keep-member f ys k)
    where
      go : (b : Bool) → f y ≡ b → Memᴰ x (cond b (y ∷ keep f ys) (keep f ys))
          → (Memᴰ x (keep f ys) → Memᴰ x ys × T (f x)) → Memᴰ x (y ∷ ys) × T (f x)
      go true e k rest =
          ⊎_elim (λ q. (Memᴰ.head q, subst (λ (z : A). T (f z)) (sym q) (true→T (f y) e)))
          (λ m. let r = rest m in (Memᴰ.tail r.0, r.1)) (Memᴰ.cases_cons k)
      go false e k rest = let r = rest k in (Memᴰ.tail r.0, r.1)

  pub kept : (f : A → Bool) {x : A} {xs : List A} → Memᴰ x xs → T (f x) → Memᴰ x (keep f xs)
  unfolding keep
  kept f {x = x} {xs = []} x6 h = elim x6 [ ]
  kept f {x = x} {xs = y ∷ ys} (Memᴰ.head e) h = go (f y) (subst (λ (z : A). T (f z)) e h)
    where
      go : (b : Bool) → T b → Memᴰ x (cond b (y ∷ keep f ys) (keep f ys))
      go true t = Memᴰ.head e
      go false t = absurd t
  kept f {x = x} {xs = y ∷ ys} (Memᴰ.tail m) h = go (f y) (kept f m h)
    where
      go : (b : Bool) → Memᴰ x (keep f ys) → Memᴰ x (cond b (y ∷ keep f ys) (keep f ys))
      go true k = Memᴰ.tail k
      go false k = k

  -- where every member passes all are kept
  pub keep_all : (f : A → Bool) (xs : List A) → ((x : A) → Memᴰ x xs → T (f x)) → keep f xs ≡ xs
  unfolding keep
  keep_all f [] h = refl
  keep_all f (x ∷ xs) h =
      let rest = keep_all f xs (λ y m. h y (Memᴰ.tail m)) in
      rw (T→true (f x) (h x (Memᴰ.head refl)), rest)

  pub any→member : (f : A → Bool) (xs : List A) → T (any_of f xs) → (x : A) × Memᴰ x xs × T (f x)
  unfolding any_of
  any→member f [] h = absurd h
  any→member f (y ∷ ys) h =
      ⊎_elim (λ k. (y, Memᴰ.head refl, k)) (λ k. let r = any→member f ys k in (r.0, Memᴰ.tail r.1, r.2))
      (or_cases (f y) (any_of f ys) h)

  pub member→any : (f : A → Bool) {x : A} {xs : List A} → Memᴰ x xs → T (f x) → T (any_of f xs)
  unfolding any_of
  member→any f {xs = []} x6 h = elim x6 [ ]
  member→any f {xs = y ∷ ys} (Memᴰ.head e) h = or_left (f y) (any_of f ys) (subst (λ (z : A). T (f z)) e h)
  member→any f {xs = y ∷ ys} (Memᴰ.tail m) h = or_right (f y) (any_of f ys) (member→any f m h)

  pub all→member : (f : A → Bool) {x : A} {xs : List A} → T (all_of f xs) → Memᴰ x xs → T (f x)
  unfolding all_of
  all→member f {x = x} {xs = []} h x6 = elim x6 [ ]
  all→member f {x = x} {xs = y ∷ ys} h (Memᴰ.head e) =
      subst (λ (z : A). T (f z)) (sym e) (and_left (f y) (all_of f ys) h)
  all→member f {xs = y ∷ ys} h (Memᴰ.tail m) = all→member f (and_right (f y) (all_of f ys) h) m

  pub members→all : (f : A → Bool) (xs : List A) → ((x : A) → Memᴰ x xs → T (f x)) → T (all_of f xs)
  unfolding all_of
  members→all f [] h = tt
  members→all f (y ∷ ys) h =
      and_both (f y) (all_of f ys) (h y (Memᴰ.head refl)) (members→all f ys (λ x m. h x (Memᴰ.tail m)))

  pub each_member : {B : Type 0} (f : A → List B) (xs : List A) {y : B} → Memᴰ y (each f xs)
      → (x : A) × Memᴰ x xs × Memᴰ y (f x)
  unfolding each
  each_member f [] h = absurd (Memᴰ.not-nil h)
  each_member f (x ∷ xs) h =
      ⊎_elim (λ k. (x, Memᴰ.head refl, k)) (λ k. let r = each_member f xs k in (r.0, Memᴰ.tail r.1, r.2))
      (Memᴰ.append_cases (f x) h)

  pub in-each : {B : Type 0} (f : A → List B) {x : A} {xs : List A} {y : B} → Memᴰ x xs → Memᴰ y (f x)
      → Memᴰ y (each f xs)
  unfolding each
  in-each {B = B} f {xs = []} {y = y} x6 k = elim x6 [ ]
  in-each f {xs = z ∷ zs} {y = y} (Memᴰ.head e) k =
      Memᴰ.append_left (each f zs) (subst (λ w. Memᴰ y (f w)) e k)
  in-each f {xs = z ∷ zs} (Memᴰ.tail m) k = Memᴰ.append_right (f z) (in-each f m k)

-- `is_in` is membership
pub is_in→member : (n : ℕ) (ns : List ℕ) → T (is_in n ns) → Memᴰ n ns
is_in→member n ns h = let r = any→member (eqb n) ns h in Memᴰ.cast (eqb→eq n r.0 r.2) r.1

pub member→is_in : {n : ℕ} {ns : List ℕ} → Memᴰ n ns → T (is_in n ns)
member→is_in {n} m = member→any (eqb n) m (eqb_refl n)

-- one member more at the end
pub is_in-snoc : (m x : ℕ) (xs : List ℕ) → is_in m (xs ++ (x ∷ [])) ≡ eqb x m || is_in m xs
is_in-snoc m x xs =
    same_test (is_in m (xs ++ (x ∷ []))) (eqb x m || is_in m xs)
    (λ t. ⊎_elim (λ k. or_right (eqb x m) (is_in m xs) (member→is_in k))
    (λ k. or_left (eqb x m) (is_in m xs) (eq→T x m (sym (Memᴰ.eq_of_singleton k))))
    (Memᴰ.append_cases xs (is_in→member m (xs ++ (x ∷ [])) t)))
    (λ t. ⊎_elim (λ e. member→is_in (Memᴰ.append_right xs (Memᴰ.head (sym (eqb→eq x m e)))))
    (λ k. member→is_in (Memᴰ.append_left (x ∷ []) (is_in→member m xs k))) (or_cases (eqb x m) (is_in m xs) t))

-- `from a n` has the numbers a to a + n - 1
pub from_member : (a n : ℕ) {k : ℕ} → Memᴰ k (from a n) → (a ≤ k) × (k < a + n)
unfolding from
from_member a zero h = absurd (Memᴰ.not-nil h)
from_member a (suc n) h =
    ⊎_elim (λ e. omega arith) (λ m. let r = from_member (suc a) n m in omega arith) (Memᴰ.cases_cons h)

pub in-from : (a n k : ℕ) → a ≤ k → k < a + n → Memᴰ k (from a n)
unfolding from
in-from a zero k h₁ h₂ = absurd (omega arith)
in-from a (suc n) k h₁ h₂ =
    ⊎_elim Memᴰ.head (λ apart. Memᴰ.tail (in-from (suc a) n k (omega (arith, apart)) (omega arith)))
    (equal? k a)

pub up_to-member : (n : ℕ) {k : ℕ} → Memᴰ k (up_to n) → (1 ≤ k) × (k ≤ n)
up_to-member n m = let r = from_member 1 n m in omega arith

pub in-up_to : (n k : ℕ) → 1 ≤ k → k ≤ n → Memᴰ k (up_to n)
in-up_to n k h₁ h₂ = in-from 1 n k h₁ (omega arith)
