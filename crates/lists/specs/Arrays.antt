-- Arrays by number: what a function gives for each number from 0 on stands at that number's place, and a store there
-- changes the function at that number.
use Rattle.std.specs.Prelude.{ℕ, zero, suc, ◌+◌, ◌<◌, ◌≡◌, refl, List, [], ◌∷◌, ◌++◌, map, cond, length, get_or, set, replicate, eqb}
use Rattle.std.proofs.Common.{arith, sym, ◌∙◌, ap, ⊎_elim, length-set, ext_get_or, get_or-set_same, get_or-set_other, eq-eqb, ne_eqb}
use Rattle.std.proofs.lemmas.List.{length-map, length-replicate, get_or-replicate}
use Rattle.std.proofs.Math.ListN.{get_or-map}
use Rattle.lists.specs.Lists.{from}
use Rattle.lists.specs.Tests.{equal?}
use Rattle.lists.specs.Places.{length_from}

-- the range of n + 1 numbers is the range of n and one more
pub from-snoc : (a n : ℕ) → from a (suc n) ≡ from a n ++ ((a + n) ∷ [])
unfolding from
from-snoc a zero = ap (λ (k : ℕ). k ∷ []) (omega arith)
from-snoc a (suc n) =
    ap (λ (l : List ℕ). a ∷ l) (from-snoc (suc a) n ∙ ap (λ (k : ℕ). from (suc a) n ++ (k ∷ [])) (omega arith))

get_or-map-from : (f : ℕ → ℕ) (a m n : ℕ) → n < m → get_or (map f (from a m)) n 0 ≡ f (a + n)
unfolding from
get_or-map-from f a zero n h = absurd (omega arith)
get_or-map-from f a (suc m) zero h = ap f (omega arith)
get_or-map-from f a (suc m) (suc n) h = get_or-map-from f (suc a) m n (omega arith) ∙ ap f (omega arith)

pub length-map-from : (f : ℕ → ℕ) (m : ℕ) → length (map f (from 0 m)) ≡ m
length-map-from f m = length-map (from 0 m) f ∙ length_from 0 m

-- number n stands at place n
pub get_or-numbered : (f : ℕ → ℕ) (m n : ℕ) → n < m → get_or (map f (from 0 m)) n 0 ≡ f n
get_or-numbered f m n h = get_or-map-from f 0 m n h ∙ ap f (omega arith)

pub numbered-at : (f : ℕ → ℕ) (m : ℕ) {xs : List ℕ} → xs ≡ map f (from 0 m) → (n : ℕ) → n < m → get_or xs n 0 ≡ f n
numbered-at f m e n h = rw e (get_or-numbered f m n h)

-- also where what stands there is made of the numbers
pub get_or-made : {B : Type 0} (g : ℕ → B) (f : ℕ → ℕ) (m n : ℕ) → n < m
    → get_or (map g (map f (from 0 m))) n (g 0) ≡ g (f n)
get_or-made g f m n h = get_or-map g (map f (from 0 m)) n 0 ∙ ap g (get_or-numbered f m n h)

pub numbered : (f : ℕ → ℕ) (m : ℕ) (xs : List ℕ) → length xs ≡ m → ((n : ℕ) → n < m → get_or xs n 0 ≡ f n)
    → xs ≡ map f (from 0 m)
numbered f m xs long h =
    let both = length-map-from f m in
    ext_get_or 0 xs (map f (from 0 m)) (long ∙ sym both)
    (λ n below. h n (omega arith) ∙ sym (get_or-numbered f m n (omega arith)))

pub numbered-same : (f g : ℕ → ℕ) (m : ℕ) → ((n : ℕ) → n < m → f n ≡ g n) → map f (from 0 m) ≡ map g (from 0 m)
numbered-same f g m h =
    numbered g m (map f (from 0 m)) (length-map-from f m) (λ n below. get_or-numbered f m n below ∙ h n below)

pub numbered-replicate : (m v : ℕ) → replicate m v ≡ map (λ n. v) (from 0 m)
numbered-replicate m v =
    numbered (λ n. v) m (replicate m v) (length-replicate m v) (λ n below. get_or-replicate m n v 0 below)

-- a store at place n
pub set-numbered : (f : ℕ → ℕ) (m n v : ℕ) → n < m
    → set (map f (from 0 m)) n v ≡ map (λ k. cond (eqb k n) v (f k)) (from 0 m)
set-numbered f m n v inside =
    numbered (λ k. cond (eqb k n) v (f k)) m (set (map f (from 0 m)) n v)
    (length-set (map f (from 0 m)) n v ∙ length-map-from f m) (λ k below. ⊎_elim (same k) (other k below) (equal? k n))
  where
    long : length (map f (from 0 m)) ≡ m
    long = length-map-from f m

    same : (k : ℕ) → k ≡ n → get_or (set (map f (from 0 m)) n v) k 0 ≡ cond (eqb k n) v (f k)
    same k e =
        let hit = get_or-set_same (map f (from 0 m)) n v 0 (omega (arith, long)) in
        rw (e, eq-eqb n n refl) hit

    other : (k : ℕ) → k < m → (k ≡ n → ⊥) → get_or (set (map f (from 0 m)) n v) k 0 ≡ cond (eqb k n) v (f k)
    other k below apart =
        rw (ne_eqb k n apart) (get_or-set_other (map f (from 0 m)) n k v 0 apart ∙ get_or-numbered f m k below)
