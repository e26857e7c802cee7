-- The chain is a floor for good layouts with at most one trunk piece per net: down a path their trunks fall, from net
-- to net by a track or more, and the last of them lies on track 1 or above.
use Rattle.std.specs.Prelude.{ℕ, ◌≤◌, ◌<◌}
use Rattle.std.proofs.Common.{arith}
use Rattle.std.proofs.Math.Decide.{dec_lt}
use mathlib.Core.List.{Memᴰ}
use Rattle.lists.specs.Ranges.{place-member}
use Rattle.grid.specs.Pieces.{Layout}
use Rattle.channel.specs.Channel.{Channel, spanning}
use Rattle.channel.specs.Constraints.{Path↓, alone, down, chain}
use Rattle.channel.specs.Answers.{Escapes}
use Rattle.channel.proofs.Laws.{net→pin, pin-in-first, pin-in-last}
use Rattle.channel.proofs.SpanLaws.{spanning→, span-strict}
use Rattle.channel.proofs.ChainLaws.{chain-promise}
use Rattle.wiring.specs.Layouts.{Good, OneTrunkEach}
use Rattle.wiring.specs.Floor.{trunk-track}
use Rattle.wiring.specs.Order.{pin_of_lem, leaves-column, HasTrack, leaves→track, above→lower, one-track, no-ring}

module _ (ch : Channel) (esc : Escapes ch) (l : Layout) (g : Good ch l) where
  on-a-track : {n k : ℕ} → HasTrack ch esc l g n k → (1 ≤ k) × (k ≤ l.tracks)
  on-a-track h =
      let on = h.on_track in
      let present = place-member l.pieces h.place h.owned.place in
      let r = trunk-track ch esc l g h.owned.piece h.owned.trunk present in
      (omega (arith, r.1), omega (arith, r.2))

  -- a net with a span has pins in two columns, and so a trunk
  has-track : (n : ℕ) → Memᴰ n (spanning ch) → (k : ℕ) × HasTrack ch esc l g n k
  has-track n m =
      let net = spanning→ ch n m in
      let some-pin = net→pin ch n esc.even net.0.is_net in
      let x = pin_of_lem (pin-in-first ch n some-pin.0 some-pin.1) in
      let end = pin-in-last ch n some-pin.0 some-pin.1 in
      let rises = span-strict ch n net.1 in
      let here = x.column in
      let q = leaves-column ch esc l g x.place n _ net.0.positive x.net end (λ e. omega arith) in
      (_, leaves→track ch esc l g x.place n net.0.positive x.net q)

  module _ (one : OneTrunkEach ch l) where
    -- the first net of a path of k nets has its trunk on track k or above
    path-track : {k a z : ℕ} → Path↓ ch k a z → (m : ℕ) × HasTrack ch esc l g a m × (k ≤ m)
    path-track (alone {a = a} s) =
        let r = has-track a s in let inside = on-a-track r.1 in (r.0, r.1, inside.0)
    path-track (down {a = a} {b = b} c h p) =
        let here = above→lower ch esc l g a b c h in
        let rest = path-track p in
        let same = one-track ch esc l g one b here.lower_track rest.0 here.lower rest.1 in
        let falls = here.falls in
        let long = rest.2 in
        (here.upper_track, here.upper, omega arith)

-- SCOPE, Req 02: "every good layout with at most one trunk piece per net has at least chain tracks"
pub chain-floor : (ch : Channel) → Escapes ch → (l : Layout) → Good ch l → OneTrunkEach ch l → chain ch ≤ l.tracks
chain-floor ch esc l g one = elim (dec_lt 0 (chain ch)) [ yes h ↦ reached h | no h ↦ omega arith ]
  where
    reached : 0 < chain ch → chain ch ≤ l.tracks
    reached h =
        let p = (chain-promise ch esc).reached (λ r. no-ring ch esc l g one r.0 r.1) h in
        let first = path-track ch esc l g one p.2 in
        let long = first.2 in
        let inside = on-a-track ch esc l g first.1 in
        omega arith
