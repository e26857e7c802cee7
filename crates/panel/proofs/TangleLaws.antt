-- A net is as deep on a panel as it is alone. So a ring of either list keeps the panel tangled, where neither has one
-- the panel is filled, and the chain of an untangled panel is the larger of both.
use Prim.Native.Nat.{ℕ, zero, suc, max, ◌≤◌, ◌<◌}
use Rattle.std.proofs.Common.{arith, sym, ◌∙◌, subst, inl, inr, ⊎_elim}
use Rattle.std.proofs.Math.Decide.{dec_lt}
use Rattle.std.specs.Prelude.{◌≡◌, ◌⊎◌, length, T}
use Rattle.std.proofs.Math.Path.{refl, ap}
use mathlib.Core.List.Memᴰ
use mathlib.Core.List.{List, map, Memᴰ}
use Rattle.std.proofs.lemmas.Simd.{map-map}
use Rattle.lists.specs.Lists.{greatest}
use Rattle.lists.specs.Updates.{map_same}
use Rattle.channel.specs.Channel.{Channel, width, is_net, spanning}
use Rattle.channel.specs.Constraints.{below, depth, chain, Tangled}
use Rattle.channel.specs.Answers.{Escapes}
use Rattle.channel.proofs.PathLaws.{below→above}
use Rattle.channel.proofs.SpanLaws.{spanning→, upper-spans}
use Rattle.channel.proofs.ChainLaws.{descends-member, ring-next, ring-depth, depth≤chain, chain-deep, endless-tangled}
use Rattle.leftedge.proofs.NetFill.{tangled?}
use Rattle.panel.specs.Joined.{highest, raised, joined, Fits}
use Rattle.panel.proofs.PartLaws.{below-first, below-second}
use Rattle.panel.proofs.NetLaws.{spanning-both}

module _ {ch dh : Channel} (fit : Fits ch dh) (esc : Escapes (joined ch dh)) where
  abbrev both : Channel
  both = joined ch dh

  abbrev up : ℕ → ℕ
  up = raised (highest ch)

  even₁ : length ch.bot ≡ width ch
  even₁ = fit.first.even

  depth-first : (fuel n : ℕ) → T (is_net ch n) → depth fuel both n ≡ depth fuel ch n
  unfolding depth
  depth-first zero n net = refl
  depth-first (suc fuel) n net =
      ap (λ (l : List ℕ). suc (greatest l)) (ap (map (depth fuel both)) (below-first ch dh even₁ n net)
      ∙ map_same (depth fuel both) (depth fuel ch) (below ch n)
      (λ b m. depth-first fuel b (below→above ch n b m).1.lower))

  depth-second : (fuel n : ℕ) → T (is_net dh n) → depth fuel both (up n) ≡ depth fuel dh n
  unfolding depth
  depth-second zero n net = refl
  depth-second (suc fuel) n net =
      ap (λ (l : List ℕ). suc (greatest l)) (ap (map (depth fuel both)) (below-second ch dh even₁ n net)
      ∙ (map-map (depth fuel both) up (below dh n)
      ∙ map_same (λ b. depth fuel both (up b)) (depth fuel dh) (below dh n)
      (λ b m. depth-second fuel b (below→above dh n b m).1.lower)))

  in-first : {n : ℕ} → Memᴰ n (spanning ch) → Memᴰ n (spanning both)
  in-first {n} m =
      subst (λ (l : List ℕ). Memᴰ n l) (sym (spanning-both fit)) (Memᴰ.append_left (map up (spanning dh)) m)

  in-second : {n : ℕ} → Memᴰ n (spanning dh) → Memᴰ (up n) (spanning both)
  in-second {n} m =
      subst (λ (l : List ℕ). Memᴰ (up n) l) (sym (spanning-both fit))
      (Memᴰ.append_right (spanning ch) (Memᴰ.map up m))

  -- a net with a span is of one list or the other, and as deep as it is there
  pub deep-part : (fuel n : ℕ) → Memᴰ n (spanning both)
      → (Memᴰ n (spanning ch) × (depth fuel both n ≡ depth fuel ch n))
      ⊎ ((m : ℕ) × Memᴰ m (spanning dh) × (depth fuel both n ≡ depth fuel dh m))
  deep-part fuel n s =
      ⊎_elim (λ m. inl (m, depth-first fuel n (spanning→ ch n m).0.is_net))
      (λ m. let r = Memᴰ.of_map up (spanning dh) m in
      let deep = depth-second fuel r.0 (spanning→ dh r.0 r.1).0.is_net in
      inr (r.0, r.1, ap (depth fuel both) (sym r.2) ∙ deep))
      (Memᴰ.append_cases (spanning ch) (subst (λ (l : List ℕ). Memᴰ n l) (spanning-both fit) s))

  -- a ring of either list
  kept-first : Tangled ch → (Tangled both → ⊥) → ⊥
  kept-first (steps, ring) =
      let a = descends-member ring.closed in
      let above = (ring-next ring a.1).2 in
      endless-tangled esc a.0 (in-first (upper-spans ch fit.first above))
      (λ fuel. let deep = ring-depth ring fuel a.1 in let e = depth-first fuel a.0 above.upper in omega arith)

  kept_second : Tangled dh → (Tangled both → ⊥) → ⊥
  kept_second (steps, ring) =
      let a = descends-member ring.closed in
      let above = (ring-next ring a.1).2 in
      endless-tangled esc (up a.0) (in-second (upper-spans dh fit.second above))
      (λ fuel. let deep = ring-depth ring fuel a.1 in let e = depth-second fuel a.0 above.upper in omega arith)

  pub tangled-kept : Tangled ch ⊎ Tangled dh → Tangled both
  tangled-kept t =
      ⊎_elim (λ r. r) (λ none. absurd (⊎_elim (λ r. kept-first r none) (λ r. kept_second r none) t)) (tangled? both esc)

  module _ (untangled : Tangled both → ⊥) where
    untangled₁ : Tangled ch → ⊥
    untangled₁ t = untangled (tangled-kept (inl t))

    untangled₂ : Tangled dh → ⊥
    untangled₂ t = untangled (tangled-kept (inr t))

    first≤both : chain ch ≤ chain both
    first≤both =
        elim (dec_lt 0 (chain ch)) [
          | yes h ↦
              (let r = chain-deep fit.first untangled₁ h in
              let e = depth-first (chain ch) r.0 (spanning→ ch r.0 r.1).0.is_net in
              let l = r.2 in
              let b = depth≤chain esc untangled (chain ch) r.0 (in-first r.1) in
              omega arith)
          | no h ↦ omega arith
        ]

    second≤both : chain dh ≤ chain both
    second≤both =
        elim (dec_lt 0 (chain dh)) [
          | yes h ↦
              (let r = chain-deep fit.second untangled₂ h in
              let e = depth-second (chain dh) r.0 (spanning→ dh r.0 r.1).0.is_net in
              let l = r.2 in
              let b = depth≤chain esc untangled (chain dh) (up r.0) (in-second r.1) in
              omega arith)
          | no h ↦ omega arith
        ]

    both≤larger : chain both ≤ max (chain ch) (chain dh)
    both≤larger =
        elim (dec_lt 0 (chain both)) [
          | yes h ↦ reached h
          | no h ↦ omega arith
        ]
      where
        reached : 0 < chain both → chain both ≤ max (chain ch) (chain dh)
        reached h =
            let r = chain-deep esc untangled h in
            let l = r.2 in
            ⊎_elim (λ p. let e = p.1 in
            let b = depth≤chain fit.first untangled₁ (chain both) r.0 p.0 in omega arith)
            (λ p. let e = p.2 in
            let b = depth≤chain fit.second untangled₂ (chain both) p.0 p.1 in omega arith)
            (deep-part (chain both) r.0 r.1)

    pub chain-both : chain both ≡ max (chain ch) (chain dh)
    chain-both = let a = first≤both in let b = second≤both in let c = both≤larger in omega arith
