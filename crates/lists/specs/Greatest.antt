-- The greatest of what a function gives for the members of a list: none gives more, and if it is not 0 then one of them
-- gives it. The greatest of a row, by its places.
use Prim.Native.Nat.{ℕ, zero, suc, max, ◌≤◌, ◌<◌}
use native.Mathlib.Omega.{arith}
use Rattle.std.proofs.Math.Decide.{dec_le}
use Rattle.std.specs.Prelude.{◌≡◌, get_or}
use Rattle.std.proofs.Math.Path.{refl, subst}
use mathlib.Core.List.{List, [], ◌∷◌, map, Memᴰ}
use Rattle.lists.specs.Lists.{greatest, at}

module _ {A : Type 0} (f : A → ℕ) where
  pub greatest-map-upper : {x : A} {xs : List A} → Memᴰ x xs → f x ≤ greatest (map f xs)
  unfolding greatest
  greatest-map-upper {x = x} {xs = []} x3 = elim x3 [ ]
  greatest-map-upper {x = x} {xs = y ∷ ys} (Memᴰ.head e) =
      subst (λ (z : A). f x ≤ max (f z) (greatest (map f ys))) e (omega arith)
  greatest-map-upper {xs = y ∷ ys} (Memᴰ.tail m) = let h = greatest-map-upper m in omega arith

  pub greatest-map-least : (xs : List A) (k : ℕ) → ((x : A) → Memᴰ x xs → f x ≤ k) → greatest (map f xs) ≤ k
  unfolding greatest
  greatest-map-least [] k h = omega arith
  greatest-map-least (y ∷ ys) k h =
      let here = h y (Memᴰ.head refl) in
      let rest = greatest-map-least ys k (λ x m. h x (Memᴰ.tail m)) in
      omega arith

  pub greatest-map-reached : (xs : List A) → 0 < greatest (map f xs)
      → (x : A) × Memᴰ x xs × (f x ≡ greatest (map f xs))
  unfolding greatest
  greatest-map-reached [] h = absurd (omega arith)
  greatest-map-reached (y ∷ ys) h =
      elim (dec_le (greatest (map f ys)) (f y)) [
        | yes l ↦ (y, Memᴰ.head refl, omega arith)
        | no l ↦
            (let r = greatest-map-reached ys (omega arith) in let e = r.2 in
            (r.0, Memᴰ.tail r.1, omega arith))
      ]

pub member≤greatest : {x : ℕ} {xs : List ℕ} → Memᴰ x xs → x ≤ greatest xs
unfolding greatest
member≤greatest {xs = []} x3 = elim x3 [ ]
member≤greatest {xs = y ∷ ys} (Memᴰ.head e) = omega arith
member≤greatest {xs = y ∷ ys} (Memᴰ.tail m) = let h = member≤greatest m in omega arith

pub greatest-least : (xs : List ℕ) (k : ℕ) → ((x : ℕ) → Memᴰ x xs → x ≤ k) → greatest xs ≤ k
unfolding greatest
greatest-least [] k h = omega arith
greatest-least (y ∷ ys) k h =
    let here = h y (Memᴰ.head refl) in
    let rest = greatest-least ys k (λ x m. h x (Memᴰ.tail m)) in
    omega arith

-- no place of a row has more than its greatest, which is at most what each is at most
pub at≤greatest : (row : List ℕ) (k : ℕ) → at row k ≤ greatest row
unfolding at greatest
at≤greatest row zero = omega arith
at≤greatest [] (suc k) = omega arith
at≤greatest (x ∷ xs) (suc zero) = omega arith
at≤greatest (x ∷ xs) (suc (suc k)) = omega (arith, at≤greatest xs (suc k))

pub greatest≤ : (row : List ℕ) (m : ℕ) → ((k : ℕ) → get_or row k 0 ≤ m) → greatest row ≤ m
unfolding greatest
greatest≤ [] m h = omega arith
greatest≤ (x ∷ xs) m h = omega (arith, h 0, greatest≤ xs m (λ k. h (suc k)))
