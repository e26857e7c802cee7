-- The first number of a range that passes a test: none passes, or it is the lowest that does. And conditions that hold
-- of the same numbers have the same lowest.
use Rattle.std.specs.Prelude.{ℕ, zero, suc, ◌+◌, ◌≤◌, ◌<◌, ◌≡◌, refl, List, [], ◌∷◌, ◌↔◌, Bool, true, false, cond, T}
use Rattle.std.proofs.Common.{arith, subst, ⊎_elim}
use Rattle.lists.specs.Lists.{keep, from, Lowest}
use Rattle.lists.specs.Tests.{true→T, false→fails, equal?}

-- k is one of the n numbers from a on, and passes
pub record Passing (f : ℕ → Bool) (a n k : ℕ) : Type 0 where
  pub low : a ≤ k
  pub high : k < a + n
  pub passes : T (f k)

abbrev pub NonePasses : (ℕ → Bool) → ℕ → ℕ → Type 0
NonePasses f a n = (k : ℕ) → Passing f a n k → ⊥

-- the list of those that pass is empty, or begins with the lowest
pub data FirstKept (f : ℕ → Bool) (a n : ℕ) : List ℕ → Type 0 where
  no_one : NonePasses f a n → FirstKept f a n []
  begins : (p : ℕ) {ps : List ℕ} → Lowest (Passing f a n) p → FirstKept f a n (p ∷ ps)

pub first-kept : (f : ℕ → Bool) (a n : ℕ) → FirstKept f a n (keep f (from a n))
unfolding keep from
first-kept f a zero = no_one (λ k h. let l = h.low in let u = h.high in absurd (omega arith))
first-kept f a (suc n) = go (f a) refl (first-kept f (suc a) n)
  where
    later : (k : ℕ) → f a ≡ false → Passing f a (suc n) k → Passing f (suc a) n k
    later k e h =
        record {
          low = ⊎_elim (λ q. absurd (false→fails (f a) e (subst (λ (m : ℕ). T (f m)) q h.passes)))
              (λ apart. let l = h.low in omega (arith, apart)) (equal? k a);
          high = let u = h.high in
              omega arith;
          passes = h.passes;
        }

    past : {rest : List ℕ} → f a ≡ false → FirstKept f (suc a) n rest → FirstKept f a (suc n) rest
    past e (no_one none) = no_one (λ k h. none k (later k e h))
    past e (begins p least) =
        let h = least.holds in
        let l = h.low in
        let u = h.high in
        begins p (record {
          holds = record { low = omega arith; high = omega arith; passes = h.passes };
          lowest = λ q k. least.lowest q (later q e k);
        })

    go : (b : Bool) → f a ≡ b → {rest : List ℕ} → FirstKept f (suc a) n rest
        → FirstKept f a (suc n) (cond b (a ∷ rest) rest)
    go true e rest =
        begins a (record {
          holds = record { low = omega arith; high = omega arith; passes = true→T (f a) e };
          lowest = λ q h. h.low;
        })
    go false e rest = past e rest

-- conditions that hold of the same numbers have the same lowest
pub lowest-same : {P Q : ℕ → Type 0} → ((n : ℕ) → P n ↔ Q n) → (p : ℕ) → Lowest P p ↔ Lowest Q p
lowest-same h p = (
  λ l. record { holds = (h p).0 l.holds; lowest = λ q k. l.lowest q ((h q).1 k) },
  λ l. record { holds = (h p).1 l.holds; lowest = λ q k. l.lowest q ((h q).0 k) },
)
