-- Walks down: steps that descend lead from their first net to their end, and a walk that meets a net twice holds a
-- shorter one that leads from that net back to it.
use Rattle.std.specs.Prelude.{ℕ, suc, ◌<◌, ◌≡◌, ◌⊎◌, length, T}
use Rattle.std.proofs.Common.{arith, sym, inr}
use Rattle.std.proofs.Math.Path.{refl}
use mathlib.Core.List.Memᴰ
use mathlib.Core.List.{List, [], ◌∷◌, Memᴰ}
use Rattle.std.proofs.Math.Logic.{inl, ⊎_elim}
use Rattle.lists.specs.Lists.{head_or, Distinct}
use Rattle.lists.specs.Pigeonhole.{distinct_cons}
use Rattle.lists.specs.Orders.{member?}
use Rattle.channel.specs.Channel.{Channel}
use Rattle.channel.specs.Constraints.{Above, below, Step, nets_of, Descends, last, next}
use Rattle.channel.specs.Answers.{Escapes}
use Rattle.channel.specs.Nets.{IsNet}
use Rattle.channel.proofs.SpanLaws.{pin→net, upper-pin}
use Rattle.channel.proofs.PathLaws.{above→below, below→above}
use Rattle.rings.specs.Fewest.{leads}
use Rattle.rings.specs.LeadLaws.{leads-none, leads-step, step-leads}

module _ (ch : Channel) where
  -- one step down, then k of them
  lead-on : (k z : ℕ) {a b c : ℕ} → Above ch a b c → T (leads (below ch) k b z) → T (leads (below ch) (suc k) a z)
  lead-on k z h t = leads-step (below ch) k z (above→below ch h) t

  lead-once : (z : ℕ) {a b c : ℕ} → Above ch a b c → b ≡ z → T (leads (below ch) 1 a z)
  lead-once z h e = lead-on 0 z h (leads-none (below ch) e)

  -- steps that descend lead from their first net to the end, as many as they are
  pub walk→leads : {end : ℕ} {steps : List Step} → Descends (Above ch) end steps
      → T (leads (below ch) (length steps) (head_or 0 (nets_of steps)) end)
  unfolding head_or
  walk→leads {end} (last h) = lead-once end h refl
  walk→leads {end} (next {rest = rest} h d) = lead-on (suc (length rest)) end h (walk→leads d)

  -- from where a step or more lead down there is a net
  pub leads→net : Escapes ch → (k a z : ℕ) → T (leads (below ch) (suc k) a z) → IsNet ch a
  leads→net esc k a z t =
      let r = step-leads (below ch) k a z t in
      let down = below→above ch a r.0 r.1 in
      pin→net ch esc a down.0 (upper-pin ch esc down.1)

  -- a walk that meets net n after its first net leads there in no more steps than it has left
  meets→leads : {end : ℕ} {s : Step} {rest : List Step} (n : ℕ) → Descends (Above ch) end (s ∷ rest)
      → Memᴰ n (nets_of rest) → (j : ℕ) × (j < length rest) × T (leads (below ch) (suc j) s.net n)
  meets→leads n (last h) m = absurd (Memᴰ.not-nil m)
  meets→leads n (next h d) m =
      ⊎_elim (λ e. (0, omega arith, lead-once n h (sym e)))
      (λ k. let r = meets→leads n d k in (suc r.0, (let l = r.1 in omega arith), lead-on (suc r.0) n h r.2))
      (Memᴰ.cases_cons m)

  -- fewer steps than `most` lead from some net back to it
  abbrev pub Shorter : ℕ → Type 0
  Shorter most = (j n : ℕ) × (suc j < most) × T (leads (below ch) (suc j) n n)

  -- a walk meets no net twice, or fewer steps than it has lead from some net back to it
  pub distinct-or-shorter : {end : ℕ} {steps : List Step} → Descends (Above ch) end steps
      → Distinct (nets_of steps) ⊎ Shorter (length steps)
  unfolding Distinct
  distinct-or-shorter (last {s = s} h) = inl (distinct_cons s.net [] Memᴰ.not-nil tt)
  distinct-or-shorter (next {s = s} {t = t} {rest = rest} h d) =
      ⊎_elim again (fresh (distinct-or-shorter d)) (member? s.net (nets_of (t ∷ rest)))
    where
      steps : List Step
      steps = s ∷ (t ∷ rest)

      again : Memᴰ s.net (nets_of (t ∷ rest)) → Distinct (nets_of steps) ⊎ Shorter (length steps)
      again m =
          let r = meets→leads s.net (next h d) m in inr (r.0, s.net, (let l = r.1 in omega arith), r.2)

      fresh : Distinct (nets_of (t ∷ rest)) ⊎ Shorter (length (t ∷ rest)) → (Memᴰ s.net (nets_of (t ∷ rest)) → ⊥)
          → Distinct (nets_of steps) ⊎ Shorter (length steps)
      fresh later out =
          ⊎_elim (λ e. inl (distinct_cons s.net (nets_of (t ∷ rest)) out e))
          (λ r. inr (r.0, r.1, (let l = r.2 in omega arith), r.3)) later
