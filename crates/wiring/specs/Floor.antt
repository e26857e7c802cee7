-- The density is a floor. Each net over a column has a trunk there, by crossing; the trunks of different nets lie on
-- different tracks, or they touch; so there are as many tracks as nets over the column, by pigeonhole. Nothing is asked
-- of how many trunks a net has.
use Rattle.std.specs.Prelude.{ℕ, ◌-◌, ◌≤◌, ◌<◌, ◌≡◌, refl, length}
use Rattle.std.proofs.Common.{arith, ◌∙◌}
use Rattle.std.proofs.Math.Decide.{dec_lt}
use Rattle.std.proofs.Math.Path.{sym, subst}
use mathlib.Core.List.{Memᴰ}
use Rattle.lists.specs.Lists.{up_to}
use Rattle.lists.specs.Members.{in-up_to}
use Rattle.lists.specs.Places.{length_from}
use Rattle.lists.specs.Pigeonhole.{injection}
use Rattle.grid.specs.declared.Piece.{Piece}
use Rattle.grid.specs.Pieces.{kind_of, trunk_kind, left, right, low, high, Layout}
use Rattle.grid.specs.Touching.{Touch}
use Rattle.grid.proofs.TouchLaws.{one-row, same-kind-meets}
use Rattle.channel.specs.Channel.{Channel, width, last_column}
use Rattle.channel.specs.Density.{density}
use Rattle.channel.specs.Answers.{Escapes}
use Rattle.channel.specs.Nets.{nets_over, Over}
use Rattle.channel.proofs.Laws.{net→pin, pin-in-first, pin-in-last}
use Rattle.channel.proofs.SpanLaws.{span-strict, spanning→}
use Rattle.channel.proofs.DensityLaws.{over→, over-distinct, density-reached}
use Rattle.wiring.specs.Pins.{Pin, net_of, IsPin}
use Rattle.wiring.specs.Layouts.{pin, copper, Present, Touching, Joined, Good}
use Rattle.wiring.specs.Chains.{joined-trans, joined_snoc, joined-sym}
use Rattle.wiring.specs.Crossing.{right_of, TrunkOver, crossing}
use Rattle.wiring.specs.Order.{pin_of_lem}

module _ (ch : Channel) (esc : Escapes ch) (l : Layout) (g : Good ch l) where
  -- net n has a trunk on track k that covers column c
  pub record TrunkAt (c n k : ℕ) : Type 0 where
    pub trunk : Piece
    pub is_trunk : kind_of trunk ≡ trunk_kind
    pub present : Memᴰ trunk l.pieces
    pub over : (left trunk ≤ c) × (c ≤ right trunk)
    pub on_track : low trunk ≡ k
    pub place : Pin
    pub is_pin : IsPin ch place
    pub net : net_of ch place ≡ n
    pub joined : Joined ch l (pin place) (copper trunk)

  pub trunk-track : (p : Piece) → kind_of p ≡ trunk_kind → Memᴰ p l.pieces
      → (low p ≡ high p) × (1 ≤ low p) × (low p ≤ l.tracks)
  trunk-track p k m = one-row (width ch) l.tracks p (g.on_grid p m) (λ e. absurd (omega arith))

  -- a trunk that a pin of net n is joined to, over column c
  seen : (c n : ℕ) (x : Pin) → IsPin ch x → net_of ch x ≡ n → (d : ℕ) (q : TrunkOver ch l (pin x) d)
      → left q.trunk ≤ c → c ≤ right q.trunk → (k : ℕ) × TrunkAt c n k
  seen c n x isX e d q h₁ h₂ = (
    low q.trunk,
    record {
      trunk = q.trunk;
      is_trunk = q.is_trunk;
      present = q.present;
      over = (h₁, h₂);
      on_track = refl;
      place = x;
      is_pin = isX;
      net = e;
      joined = q.joined;
    },
  )

  -- a net whose span holds a column has a trunk over it: the chain from its first pin to its last crosses to the right
  -- of the column, or into it
  pub over-trunk : (c n : ℕ) → Over ch c n → (k : ℕ) × TrunkAt c n k
  unfolding right_of
  over-trunk c n o =
      let net = spanning→ ch n o.spans in
      let some-pin = net→pin ch n esc.even net.0.is_net in
      let x = pin_of_lem (pin-in-first ch n some-pin.0 some-pin.1) in
      let y = pin_of_lem (pin-in-last ch n some-pin.0 some-pin.1) in
      let isX : IsPin ch x.place = subst (λ (k : ℕ). 0 < k) (sym x.net) net.0.positive in
      let isY : IsPin ch y.place = subst (λ (k : ℕ). 0 < k) (sym y.net) net.0.positive in
      let j = (g.joins x.place y.place isX isY).1 (x.net ∙ sym y.net) in
      let ex = x.column in
      let ey = y.column in
      let b = o.begins in
      let e = o.ends in
      let rises = span-strict ch n net.1 in
      elim (dec_lt c (last_column ch n)) [
        | yes h ↦ (let q = crossing ch l c j (omega arith) (omega arith) in
            let q₁ = q.begins in let q₂ = q.ends in seen c n x.place isX x.net c q (omega arith) (omega arith))
        | no h
            ↦ (let q = crossing ch l (c - 1) j (omega arith) (omega arith) in let q₁ = q.begins in let q₂ = q.ends in
            seen c n x.place isX x.net (c - 1) q (omega arith) (omega arith))
      ]

  -- trunks of two nets over one column lie on different tracks
  pub tracks-apart : (c m n k : ℕ) → TrunkAt c m k → TrunkAt c n k → m ≡ n
  unfolding Present Touching
  tracks-apart c m n k p q =
      let a = trunk-track p.trunk p.is_trunk p.present in
      let b = trunk-track q.trunk q.is_trunk q.present in
      let ka = p.on_track in
      let kb = q.on_track in
      let oa = p.over in
      let ob = q.over in
      let meets : Touch p.trunk q.trunk =
      record {
        column = c;
        row = k;
        covers₁ = omega arith;
        covers₂ = omega arith;
        meets = same-kind-meets (p.is_trunk ∙ sym q.is_trunk);
      } in
      let j = joined-trans (joined_snoc p.joined meets q.present)
      (joined-sym {ch = ch} {l = l} {x = pin q.place} q.is_pin q.joined) in
      sym p.net ∙ ((g.joins p.place q.place p.is_pin q.is_pin).0 j ∙ q.net)

  column-floor : (c : ℕ) → length (nets_over ch c) ≤ l.tracks
  column-floor c =
      let gives : (n : ℕ) → Memᴰ n (nets_over ch c)
      → (k : ℕ) × TrunkAt c n k × Memᴰ k (up_to l.tracks) = λ n m.
      let r = over-trunk c n (over→ ch c n m) in
      let on = r.1.on_track in
      let t = trunk-track r.1.trunk r.1.is_trunk r.1.present in
      (r.0, r.1, in-up_to l.tracks r.0 (omega arith) (omega arith)) in
      let fits = injection (TrunkAt c) (nets_over ch c) (up_to l.tracks)
      (record { gives = gives; apart = tracks-apart c }) (over-distinct ch c) in
      let counted = length_from 1 l.tracks in
      omega arith

pub density-floor : (ch : Channel) → Escapes ch → (l : Layout) → Good ch l → density ch ≤ l.tracks
density-floor ch esc l g =
    elim (dec_lt 0 (density ch)) [
      | yes h ↦ (let r = density-reached ch h in let e = r.3 in
          let f = column-floor ch esc l g r.0 in omega arith)
      | no h ↦ omega arith
    ]
