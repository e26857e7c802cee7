-- Lists by what functions give for their members, the same or undone. Arrays and ranges that change by one number: a
-- store in an array by number, what `keep` has of a range that is one number longer, and the greatest with one member
-- more.
use Rattle.std.specs.Prelude.{ℕ, zero, suc, max, ◌+◌, ◌<◌, ◌≡◌, refl, Bool, ◌||◌, length, get_or, set, T}
use Rattle.std.proofs.Common.{arith, add-one, sym, ◌∙◌, ⊎_elim, eq-eqb, ne_eqb}
use Rattle.std.proofs.Math.Path.{ap}
use mathlib.Core.List.{List, [], ◌∷◌, ◌++◌, map, Memᴰ, append-nil}
use Rattle.std.proofs.Math.Bool.{cond, or-false, or_assoc}
use Rattle.lists.specs.Lists.{keep, any_of, from, up_to, greatest}
use Rattle.lists.specs.Tests.{T→true, fails→false, equal?}
use Rattle.lists.specs.Tallies.{keep_append}
use Rattle.lists.specs.Arrays.{from-snoc, numbered-same, set-numbered}

-- functions that agree on the members give the same
pub map_same : {A B : Type 0} (f g : A → B) (xs : List A) → ((x : A) → Memᴰ x xs → f x ≡ g x) → map f xs ≡ map g xs
map_same f g [] h = refl
map_same f g (x ∷ xs) h =
    let here = h x (Memᴰ.head refl) in
    let rest = map_same f g xs (λ y m. h y (Memᴰ.tail m)) in
    cc

-- what g undoes for the members it undoes for the list
pub map-undone : {A B : Type 0} (f : A → B) (g : B → A) (xs : List A) → ((x : A) → Memᴰ x xs → g (f x) ≡ x)
    → map g (map f xs) ≡ xs
map-undone f g [] h = refl
map-undone f g (x ∷ xs) h =
    let here = h x (Memᴰ.head refl) in
    let rest = map-undone f g xs (λ y m. h y (Memᴰ.tail m)) in
    cc

-- what f gives for the member at a place, and for a store there
pub map_at : (f : ℕ → ℕ) (xs : List ℕ) (i : ℕ) → i < length xs → get_or (map f xs) i 0 ≡ f (get_or xs i 0)
map_at f [] i h = absurd (omega arith)
map_at f (x ∷ xs) zero h = refl
map_at f (x ∷ xs) (suc i) h = map_at f xs i (omega arith)

-- a store at place j of what f gives makes what g gives, if g gives the new number for j and differs from f nowhere
-- else
pub set_gives : (f g : ℕ → ℕ) (m j v : ℕ) → j < m → g j ≡ v → ((k : ℕ) → k < m → (k ≡ j → ⊥) → f k ≡ g k)
    → set (map f (from 0 m)) j v ≡ map g (from 0 m)
set_gives f g m j v inside here there =
    set-numbered f m j v inside ∙ numbered-same _ g m
    (λ k below. ⊎_elim (λ e. rw (eq-eqb k j e) (sym here ∙ ap g (sym e)))
    (λ apart. rw (ne_eqb k j apart) (there k below apart)) (equal? k j))

-- a range that is one number longer
up_to-next : (k : ℕ) → up_to (k + 1) ≡ up_to k ++ ((k + 1) ∷ [])
up_to-next k = ap up_to (add-one k) ∙ (from-snoc 1 k ∙ ap (λ (j : ℕ). up_to k ++ (j ∷ [])) (omega arith))

-- of it `keep` keeps that number at the end, or skips it
module _ (f : ℕ → Bool) (k : ℕ) where
  pub keep-next : keep f (up_to (k + 1)) ≡ keep f (up_to k) ++ keep f ((k + 1) ∷ [])
  keep-next = ap (keep f) (up_to-next k) ∙ keep_append f (up_to k) ((k + 1) ∷ [])

  pub keep-next-passes : T (f (k + 1)) → keep f (up_to (k + 1)) ≡ keep f (up_to k) ++ ((k + 1) ∷ [])
  unfolding keep
  keep-next-passes t = keep-next ∙ ap (λ (b : Bool). keep f (up_to k) ++ cond b ((k + 1) ∷ []) []) (T→true (f (k + 1)) t)

  pub keep-next-fails : (T (f (k + 1)) → ⊥) → keep f (up_to (k + 1)) ≡ keep f (up_to k)
  unfolding keep
  keep-next-fails t =
      keep-next ∙ (ap (λ (b : Bool). keep f (up_to k) ++ cond b ((k + 1) ∷ []) []) (fails→false (f (k + 1)) t)
      ∙ append-nil (keep f (up_to k)))

-- one of them passes if one did before, or that number does
any_last : (f : ℕ → Bool) (xs : List ℕ) (x : ℕ) → any_of f (xs ++ (x ∷ [])) ≡ (any_of f xs || f x)
unfolding any_of
any_last f [] x = or-false (f x)
any_last f (y ∷ ys) x = ap (λ (b : Bool). f y || b) (any_last f ys x) ∙ sym (or_assoc (f y) (any_of f ys) (f x))

pub any_next : (f : ℕ → Bool) (k : ℕ) → any_of f (up_to (k + 1)) ≡ (any_of f (up_to k) || f (k + 1))
any_next f k = ap (any_of f) (up_to-next k) ∙ any_last f (up_to k) (k + 1)

pub greatest-map-last : {A : Type 0} (f : A → ℕ) (xs : List A) (x : A)
    → greatest (map f (xs ++ (x ∷ []))) ≡ max (greatest (map f xs)) (f x)
unfolding greatest
greatest-map-last f [] x = omega arith
greatest-map-last f (y ∷ ys) x = let rest = greatest-map-last f ys x in omega arith

-- the greatest of what is given is that of before, or what that number gives
pub greatest-next : (f : ℕ → ℕ) (k : ℕ)
    → greatest (map f (up_to (k + 1))) ≡ max (greatest (map f (up_to k))) (f (k + 1))
greatest-next f k = ap (λ (l : List ℕ). greatest (map f l)) (up_to-next k) ∙ greatest-map-last f (up_to k) (k + 1)
