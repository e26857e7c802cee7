-- Tables whose places are all free, which is 0, and their fronts.
use Rattle.std.specs.Prelude.{ℕ, zero, suc, ◌≤◌, ◌≡◌, refl, List, [], ◌∷◌, ◌++◌, length, get_or, take, drop, replicate}
use Rattle.std.proofs.Common.{arith, ◌∙◌, length-take-le}
use Rattle.std.proofs.lemmas.List.{length-replicate}
use Rattle.std.proofs.Math.Seq.{length_front}

-- a table of n places, all free
pub record Blank (n : ℕ) (table : List ℕ) : Type 0 where
  pub places : length table ≡ n
  pub free : (i : ℕ) → get_or table i 0 ≡ 0

zeros-free : (n i : ℕ) → ◌≡◌ {A = ℕ} (get_or (replicate n 0) i 0) 0
zeros-free zero i = refl
zeros-free (suc n) zero = refl
zeros-free (suc n) (suc i) = zeros-free n i

pub blank-zeros : (n : ℕ) → Blank n (replicate n 0)
blank-zeros n = record { places = length-replicate n 0; free = zeros-free n }

take-free : (k : ℕ) (table : List ℕ) → ((i : ℕ) → get_or table i 0 ≡ 0) → (i : ℕ) → get_or (take k table) i 0 ≡ 0
take-free zero table h i = refl
take-free (suc k) [] h i = refl
take-free (suc k) (v ∷ table) h zero = h 0
take-free (suc k) (v ∷ table) h (suc i) = take-free k table (λ j. h (suc j)) i

-- the front of such a table
pub front-blank : {n : ℕ} {table : List ℕ} (k : ℕ) → Blank n table → k ≤ n → Blank k (take k table)
front-blank {n} {table} k b h =
    let e = b.places in
    record { places = length-take-le k table (omega arith); free = take-free k table b.free }

again-free : (k : ℕ) (front table : List ℕ) → length front ≡ length (take k table)
    → ((i : ℕ) → get_or front i 0 ≡ 0) → ((i : ℕ) → get_or table i 0 ≡ 0) → (i : ℕ) → get_or (front ++ drop k table) i 0 ≡ 0
again-free zero [] table e f h i = h i
again-free zero (v ∷ front) table e f h i = absurd (omega arith)
again-free (suc k) [] [] e f h i = refl
again-free (suc k) (v ∷ front) [] e f h i = absurd (omega arith)
again-free (suc k) [] (w ∷ table) e f h i = absurd (omega arith)
again-free (suc k) (v ∷ front) (w ∷ table) e f h zero = f 0
again-free (suc k) (v ∷ front) (w ∷ table) e f h (suc i) =
    again-free k front table (omega arith) (λ j. f (suc j)) (λ j. h (suc j)) i

-- and the table with a front that is free again
pub blank-again : {n : ℕ} {table : List ℕ} (front : List ℕ) (k : ℕ) → Blank n table
    → length front ≡ length (take k table) → ((i : ℕ) → get_or front i 0 ≡ 0) → Blank n (front ++ drop k table)
blank-again {n} {table} front k b e f =
    record {
      places = length_front table front k e ∙ b.places;
      free = again-free k front table e f b.free;
    }
