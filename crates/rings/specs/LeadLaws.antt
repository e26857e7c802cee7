-- Where steps lead, over any steps: no step leads from a to a, and k + 1 steps are one step and then k.
use Rattle.std.specs.Prelude.{ℕ, suc, ◌≡◌, refl, T}
use mathlib.Core.List.{List, Memᴰ}
use Rattle.std.proofs.Math.Dec.{eqb→eq}
use Rattle.lists.specs.Tests.{eq→T}
use Rattle.lists.specs.Members.{any→member, member→any}
use Rattle.rings.specs.Fewest.{leads}

module _ (under : ℕ → List ℕ) where
  -- no step
  pub leads-none : {a z : ℕ} → a ≡ z → T (leads under 0 a z)
  unfolding leads
  leads-none {a} {z} e = eq→T a z e

  pub none-leads : (a z : ℕ) → T (leads under 0 a z) → a ≡ z
  unfolding leads
  none-leads a z t = eqb→eq a z t

  -- one step, and then k
  pub leads-step : (k z : ℕ) {a b : ℕ} → Memᴰ b (under a) → T (leads under k b z) → T (leads under (suc k) a z)
  unfolding leads
  leads-step k z m t = member→any (λ c. leads under k c z) m t

  pub leads-once : {a z : ℕ} → Memᴰ z (under a) → T (leads under 1 a z)
  leads-once {z = z} m = leads-step 0 z m (leads-none refl)

  pub step-leads : (k a z : ℕ) → T (leads under (suc k) a z) → (b : ℕ) × Memᴰ b (under a) × T (leads under k b z)
  unfolding leads
  step-leads k a z t = any→member (λ c. leads under k c z) (under a) t
