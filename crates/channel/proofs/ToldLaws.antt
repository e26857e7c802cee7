-- The check of rows and the bounds are told by their refusal, of number 3 to 5; and the bounds are small, since each
-- counts different nets.
use Rattle.std.specs.Prelude.{ℕ, suc, ◌≤◌, ◌≡◌, List, [], ◌∷◌, Bool}
use native.Mathlib.Omega.{arith}
use Rattle.std.proofs.Math.Decide.{dec_lt, dec_le}
use Rattle.std.proofs.Common.{ap}
use Rattle.std.proofs.Math.Logic.{⊎_elim}
use Rattle.std.proofs.Math.Option.{some}
use Rattle.std.proofs.Math.ListN.{length}
use Rattle.std.proofs.lemmas.List.{length-map}
use Rattle.lists.specs.Pigeonhole.{length-keep, pigeonhole}
use Rattle.refusal.specs.declared.Refusal.{Refusal}
use Rattle.refusal.specs.declared.Refusal.TheVariants.{TooWide, Uneven, HighNet}
use Rattle.refusal.specs.Refusals.{number_of, told_by, refuse_if, refuse_at_first, ◌or_else◌}
use Rattle.refusal.specs.ChainLaws.{or_else_some, refuse-if-some, refuse-at-first-some}
use Rattle.refusal.specs.ToldLaws.{told-ok_unless}
use Rattle.channel.specs.Channel.{Channel, width, highest_net, widest, nets, spanning}
use Rattle.channel.specs.Density.{density}
use Rattle.channel.specs.Constraints.{chain, Step, nets_of, Ring}
use Rattle.channel.specs.Answers.{
  too_wide,
  uneven,
  high_net,
  rows_refusal,
  Escapes,
  rows_answer,
  rows_told,
  bounds_of,
  bounds_answer,
  bounds_told,
}
use Rattle.channel.proofs.SpanLaws.{upper-spans}
use Rattle.channel.specs.CountLaws.{nets-few}
use Rattle.channel.specs.Nets.{nets_over}
use Rattle.channel.proofs.DensityLaws.{density-reached}
use Rattle.channel.proofs.ChainLaws.{ring-next, deepest, chain-counts, chain-overruns}

module _ (ch : Channel) where
  pub rows_told_lem : rows_told (rows_answer ch) ≡ told_by (rows_refusal ch) []
  unfolding rows_answer
  rows_told_lem = told-ok_unless _ (rows_refusal ch) tt

  pub bounds-told : bounds_told (bounds_answer ch) ≡ told_by (rows_refusal ch) (density ch ∷ chain ch ∷ [])
  unfolding bounds_answer
  bounds-told = told-ok_unless _ (rows_refusal ch) (bounds_of ch)

  spans-few : length (spanning ch) ≤ highest_net
  unfolding spanning
  spans-few = let kept : length (spanning ch) ≤ length (nets ch) = length-keep _ (nets ch) in omega (arith, nets-few ch)

  pub density-small : density ch ≤ highest_net
  unfolding nets_over
  density-small = elim (dec_lt 0 (density ch)) [ yes h ↦ reached (density-reached ch h) | no h ↦ omega arith ]
    where
      reached : (c : ℕ) × (1 ≤ c) × (c ≤ width ch) × (length (nets_over ch c) ≡ density ch) → density ch ≤ highest_net
      reached r =
          let kept : length (nets_over ch r.0) ≤ length (spanning ch) = length-keep _ (spanning ch) in
          let e = r.3 in
          omega (arith, spans-few)

  pub chain-small : chain ch ≤ highest_net
  chain-small =
      elim (dec_le (deepest ch) (length (nets ch))) [
        | yes h ↦ (let e = chain-counts ch h in omega (arith, nets-few ch))
        | no h ↦ (let e = chain-overruns ch (omega arith) in omega arith)
      ]

  pub ring-small : Escapes ch → {steps : List Step} → Ring ch steps → length steps ≤ highest_net
  ring-small esc {steps} ring =
      let fits =
      pigeonhole (nets_of steps) (spanning ch) ring.distinct (λ n m. upper-spans ch esc (ring-next ring m).2) in
      let counted = length-map steps (λ (s : Step). s.net) in
      omega (arith, spans-few)

  -- 3 to 5: what rows are refused for
  module _ (q : Refusal) where
    abbrev Between : Type 0
    Between = (3 ≤ number_of q) × (number_of q ≤ 5)

    by-test : (c : Bool) (r : Refusal) → 3 ≤ number_of r → number_of r ≤ 5 → refuse_if c r ≡ some q → Between
    by-test c r low high e = let n = ap number_of (refuse-if-some c r q e).1 in (omega arith, omega arith)

    by_place : (r : ℕ → Refusal) (ps : List ℕ) → ((p : ℕ) → (3 ≤ number_of (r p)) × (number_of (r p) ≤ 5))
        → refuse_at_first r ps ≡ some q → Between
    by_place r ps between e =
        let s = refuse-at-first-some r ps q e in
        let n = ap number_of s.2 in
        let b = between s.0 in
        (omega arith, omega arith)

    pub rows-numbers : rows_refusal ch ≡ some q → Between
    unfolding rows_refusal too_wide uneven high_net
    rows-numbers e =
        ⊎_elim (by-test _ (TooWide (suc widest)) (omega arith) (omega arith)) (λ h.
        ⊎_elim (by-test _ (Uneven _) (omega arith) (omega arith)) (λ g.
        by_place HighNet _ (λ p. (omega arith, omega arith)) g.1) (or_else_some (uneven ch) (high_net ch) q h.1))
        (or_else_some (too_wide ch) (uneven ch or_else high_net ch) q e)
