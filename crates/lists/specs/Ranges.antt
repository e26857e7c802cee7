-- Lists by their places: a member stands at some place, and what stands at a place is a member; where nothing is kept,
-- and how long `each` is.
use Rattle.std.specs.Prelude.{ℕ, zero, suc, ◌*◌, ◌<◌, ◌≡◌, Bool, length, T}
use native.Mathlib.Omega.{arith}
use Rattle.std.proofs.Math.Path.{refl, ap}
use Rattle.std.proofs.Common.{sym, ◌∙◌, subst}
use mathlib.Core.List.Memᴰ
use mathlib.Core.List.{List, [], ◌∷◌, map, Memᴰ}
use Rattle.std.proofs.Math.Bool.{true, false, cond}
use Rattle.std.proofs.Math.Option.{Option, some, none-ne-some, some-injective}
use Rattle.std.proofs.Math.ListN.{length-append, get_elem?}
use Rattle.std.proofs.lemmas.List.{length-map}
use Rattle.lists.specs.Lists.{keep, each}
use Rattle.lists.specs.Members.{keep-member, kept}

module _ {A : Type 0} where
  pub member-place : {x : A} {xs : List A} → Memᴰ x xs → (k : ℕ) × (get_elem? xs k ≡ some x)
  member-place {xs = []} x3 = elim x3 [ ]
  member-place {xs = y ∷ ys} (Memᴰ.head e) = (zero, ap {B = Option A} some (sym e))
  member-place {xs = y ∷ ys} (Memᴰ.tail m) = let r = member-place m in (suc r.0, r.1)

  pub place-member : (xs : List A) (k : ℕ) {x : A} → get_elem? xs k ≡ some x → Memᴰ x xs
  place-member [] k {x} e = absurd (none-ne-some x e)
  place-member (y ∷ ys) zero {x} e = Memᴰ.head (sym (some-injective y x e))
  place-member (y ∷ ys) (suc k) e = Memᴰ.tail (place-member ys k e)

  pub filled-place : (xs : List A) (k : ℕ) → k < length xs → (x : A) × (get_elem? xs k ≡ some x)
  filled-place [] k h = absurd (omega arith)
  filled-place (y ∷ ys) zero h = (y, refl)
  filled-place (y ∷ ys) (suc k) h = filled-place ys k (omega arith)

  pub no-member→empty : (xs : List A) → ((x : A) → Memᴰ x xs → ⊥) → xs ≡ []
  no-member→empty [] h = refl
  no-member→empty (x ∷ xs) h = absurd (h x (Memᴰ.head refl))

  -- nothing is kept exactly if no member passes
  pub none-kept→fails : (f : A → Bool) {xs : List A} {x : A} → keep f xs ≡ [] → Memᴰ x xs → T (f x) → ⊥
  none-kept→fails f {xs} {x} e m t = Memᴰ.not-nil (subst (λ (l : List A). Memᴰ x l) e (kept f m t))

  pub fails→none-kept : (f : A → Bool) (xs : List A) → ((x : A) → Memᴰ x xs → T (f x) → ⊥) → keep f xs ≡ []
  fails→none-kept f xs h = no-member→empty (keep f xs) (λ x m. let r = keep-member f xs m in h x r.0 r.1)

  pub length-each : {B : Type 0} (n : ℕ) (f : A → List B) (xs : List A) → ((x : A) → length (f x) ≡ n)
      → length (each f xs) ≡ n * length xs
  unfolding each
  length-each n f [] h = omega arith
  length-each n f (x ∷ xs) h =
      let r = length-each n f xs h in let e = h x in omega (arith, length-append (f x) (each f xs))

  -- keeping after `map` is keeping before it
  pub keep-map : {B : Type 0} (f : B → Bool) (g : A → B) (xs : List A)
      → keep f (map g xs) ≡ map g (keep (λ x. f (g x)) xs)
  unfolding keep
  keep-map f g [] = refl
  keep-map {B} f g (x ∷ xs) = go (f (g x)) (keep-map f g xs)
    where
      go : (b : Bool) → keep f (map g xs) ≡ map g (keep (λ y. f (g y)) xs)
          → cond b (g x ∷ keep f (map g xs)) (keep f (map g xs))
          ≡ map g (cond b (x ∷ keep (λ y. f (g y)) xs) (keep (λ y. f (g y)) xs))
      go true e = ap (λ (l : List B). g x ∷ l) e
      go false e = e

  pub length-keep-map : {B : Type 0} (f : B → Bool) (g : A → B) (xs : List A)
      → length (keep f (map g xs)) ≡ length (keep (λ x. f (g x)) xs)
  length-keep-map f g xs = ap length (keep-map f g xs) ∙ length-map (keep (λ x. f (g x)) xs) g
