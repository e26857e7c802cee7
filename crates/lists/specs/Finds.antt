-- The first member that passes a test, as an `Option`: it is the head of those that are kept. And what a scan of the
-- places 1 to n from the front has found.
use Rattle.std.specs.Prelude.{ℕ, zero, suc, ◌+◌, ◌≤◌, ◌<◌, ◌≡◌, Bool, cond, Some, None, find, slice_get, T}
use native.Mathlib.Omega.{arith}
use Rattle.std.proofs.Common.{add-one, sym, ◌∙◌, ap, subst}
use Rattle.std.proofs.Math.Path.{refl}
use Rattle.std.proofs.Math.Bool.{true, false}
use mathlib.Core.List.Memᴰ
use mathlib.Core.List.{List, [], ◌∷◌, Memᴰ}
use Rattle.lists.specs.Lists.{keep, up_to, head_or, Lowest}
use Rattle.lists.specs.Members.{keep-member, kept}
use Rattle.lists.specs.Firsts.{FirstKept, no_one, begins, first-kept, Passing, NonePasses}

module _ {A : Type 0} (f : A → Bool) where
  pub find-keep : (xs : List A) → find f xs ≡ slice_get (keep f xs) 0
  unfolding keep
  find-keep [] = refl
  find-keep (x ∷ xs) = go (f x) (find-keep xs)
    where
      go : (b : Bool) → find f xs ≡ slice_get (keep f xs) 0
          → cond b (Some x) (find f xs) ≡ slice_get (cond b (x ∷ keep f xs) (keep f xs)) 0
      go true e = refl
      go false e = e

  pub found-head : (d : A) (xs : List A) {x : A} → find f xs ≡ Some x → head_or d (keep f xs) ≡ x
  unfolding head_or
  found-head d xs {x} e = go (keep f xs) (sym (find-keep xs) ∙ e)
    where
      go : (ys : List A) → slice_get ys 0 ≡ Some x → head_or d ys ≡ x
      go [] h = cc
      go (y ∷ ys) h = cc

  pub not-found : (xs : List A) → find f xs ≡ None → keep f xs ≡ []
  not-found xs e = go (keep f xs) (sym (find-keep xs) ∙ e)
    where
      go : (ys : List A) → slice_get ys 0 ≡ None → ys ≡ []
      go [] h = refl
      go (y ∷ ys) h = cc

  pub not-found-head : (d : A) (xs : List A) → find f xs ≡ None → head_or d (keep f xs) ≡ d
  unfolding head_or
  not-found-head d xs e = rw (not-found xs e)

  -- it is a member that passes; and where none is found no member passes
  pub found-member : {xs : List A} {x : A} → find f xs ≡ Some x → Memᴰ x xs × T (f x)
  found-member {xs} {x} e = keep-member f xs (go (keep f xs) (sym (find-keep xs) ∙ e))
    where
      go : (ys : List A) → slice_get ys 0 ≡ Some x → Memᴰ x ys
      go [] h = cc
      go (y ∷ ys) h = Memᴰ.head (let same : x ≡ y = cc in same)

  pub none-passes : {xs : List A} → find f xs ≡ None → {x : A} → Memᴰ x xs → T (f x) → ⊥
  none-passes {xs} e {x} m t = Memᴰ.not-nil (subst (Memᴰ x) (not-found xs e) (kept f m t))

-- the first of 1 to n
module _ (f : ℕ → Bool) (n : ℕ) where
  pub found-lowest : {p : ℕ} → find f (up_to n) ≡ Some p → Lowest (Passing f 1 n) p
  found-lowest {p} e = go (first-kept f 1 n) (sym (find-keep f (up_to n)) ∙ e)
    where
      go : {ps : List ℕ} → FirstKept f 1 n ps → slice_get ps 0 ≡ Some p → Lowest (Passing f 1 n) p
      go (no_one none) h = cc
      go (begins q m) h = let same : q ≡ p = cc in subst (Lowest (Passing f 1 n)) same m

  pub none-found : find f (up_to n) ≡ None → NonePasses f 1 n
  none-found e = go (first-kept f 1 n) (sym (find-keep f (up_to n)) ∙ e)
    where
      go : {ps : List ℕ} → FirstKept f 1 n ps → slice_get ps 0 ≡ None → NonePasses f 1 n
      go (no_one none) h = none
      go (begins q m) h = cc

  pub lowest-found : {p : ℕ} → Lowest (Passing f 1 n) p → Some p ≡ find f (up_to n)
  lowest-found {p} l = sym (find-keep f (up_to n) ∙ go (first-kept f 1 n))
    where
      go : {ps : List ℕ} → FirstKept f 1 n ps → slice_get ps 0 ≡ Some p
      go (no_one none) = absurd (none p l.holds)
      go (begins q m) =
          let a = m.lowest p l.holds in
          let b = l.lowest q m.holds in
          let same : q ≡ p = omega arith in
          ap Some same

  pub found-none : NonePasses f 1 n → None ≡ find f (up_to n)
  found-none none = sym (find-keep f (up_to n) ∙ go (first-kept f 1 n))
    where
      go : {ps : List ℕ} → FirstKept f 1 n ps → slice_get ps 0 ≡ None
      go (no_one h) = refl
      go (begins q m) = absurd (none q m.holds)

  -- a scan from the front, by places from 0: it stops at the first that passes, or comes to the end
  pub scan-found : (i : ℕ) → i < n → T (f (suc i)) → ((k : ℕ) → k < i → T (f (suc k)) → ⊥) → Some (i + 1) ≡ find f (up_to n)
  scan-found i l t before =
      ap Some (add-one i) ∙ lowest-found (record {
        holds = record { low = omega arith; high = omega arith; passes = t };
        lowest = below;
      })
    where
      below : (q : ℕ) → Passing f 1 n q → suc i ≤ q
      below zero h = let low = h.low in absurd (omega arith)
      below (suc k) h = let out : k < i → ⊥ = λ m. before k m h.passes in omega arith

  pub scan-none : ((k : ℕ) → k < n → T (f (suc k)) → ⊥) → None ≡ find f (up_to n)
  scan-none before = found-none below
    where
      below : (q : ℕ) → Passing f 1 n q → ⊥
      below zero h = let low = h.low in omega arith
      below (suc k) h = let high = h.high in before k (omega arith) h.passes
