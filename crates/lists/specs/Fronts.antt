-- A list filled place by place from its front.
use Rattle.std.specs.Prelude.{ℕ, ◌+◌, ◌≤◌, ◌<◌, ◌≡◌, refl, List, map, length, get_or, set}
use Rattle.std.proofs.Common.{arith, ◌∙◌, map-id, ⊎_elim, length-set, get_or-set_same, get_or-set_other}
use Rattle.lists.specs.Lists.{from}
use Rattle.lists.specs.Tests.{equal?}
use Rattle.lists.specs.Arrays.{numbered}

-- the front of a list is what a function gives for each place, and what is behind it is as it was
pub record FrontIs (f : ℕ → ℕ) (s₀ : List ℕ) (i : ℕ) (s : List ℕ) : Type 0 where
  pub size : length s ≡ length s₀
  pub front : (j : ℕ) → j < i → get_or s j 0 ≡ f j
  pub rest : (j : ℕ) → i ≤ j → get_or s j 0 ≡ get_or s₀ j 0

pub front-none : (f : ℕ → ℕ) (s : List ℕ) → FrontIs f s 0 s
front-none f s = record { size = refl; front = λ j l. absurd (omega arith); rest = λ j l. refl }

pub front-next : (f : ℕ → ℕ) (s₀ : List ℕ) (i : ℕ) (s : List ℕ) (v : ℕ) {s' : List ℕ} → FrontIs f s₀ i s
    → i < length s₀ → v ≡ f i → s' ≡ set s i v → FrontIs f s₀ (i + 1) s'
front-next f s₀ i s v h l e e' =
    let z = h.size in
    rw e' (record {
      size = length-set s i v ∙ z;
      front =
          λ j k. ⊎_elim (λ (q : j ≡ i). rw q (get_or-set_same s i v 0 (omega arith) ∙ e))
          (λ n. get_or-set_other s i j v 0 n ∙ h.front j (omega arith)) (equal? j i);
      rest = λ j k. get_or-set_other s i j v 0 (λ q. omega arith) ∙ h.rest j (omega arith);
    })

pub front-whole : (f : ℕ → ℕ) (s₀ : List ℕ) (i : ℕ) (s : List ℕ) → FrontIs f s₀ i s → length s₀ ≤ i
    → s ≡ map f (from 0 (length s₀))
front-whole f s₀ i s h l = numbered f (length s₀) s h.size (λ j k. h.front j (omega arith))

pub front-numbers : (s₀ : List ℕ) (i : ℕ) (s : List ℕ) → FrontIs (λ j. j) s₀ i s → length s₀ ≤ i
    → s ≡ from 0 (length s₀)
front-numbers s₀ i s h l = front-whole (λ j. j) s₀ i s h l ∙ map-id (from 0 (length s₀))
