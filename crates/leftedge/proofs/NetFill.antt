-- The fill of a channel's nets: what `FilledBy` and `StuckWith` say in the words of nets, spans and rings.
use Rattle.std.specs.Prelude.{ℕ, zero, suc, ◌≤◌, ◌<◌, ◌≡◌, ◌⊎◌, length}
use native.Mathlib.Omega.{arith}
use Rattle.std.proofs.Math.Path.{subst}
use mathlib.Core.List.{List, Memᴰ}
use Rattle.std.proofs.Common.{inl, inr, ⊎_elim}
use Rattle.lists.specs.Ranges.{no-member→empty}
use Rattle.lists.specs.Pigeonhole.{pigeonhole}
use Rattle.channel.specs.Channel.{Channel, width, first_column, last_column, nets, spanning}
use Rattle.channel.specs.Density.{density}
use Rattle.channel.specs.Constraints.{drops, Above, Step, nets_of, Descends, last, next, Ring, Tangled}
use Rattle.channel.specs.Constraints.{Unconstrained}
use Rattle.channel.specs.Answers.{Escapes}
use Rattle.channel.proofs.Laws.{drop→above, above→drop}
use Rattle.channel.proofs.SpanLaws.{spanning→, →nets, upper-spans}
use Rattle.channel.proofs.ChainLaws.{descends-member, ring-next}
use Rattle.items.specs.DensityLaws.{densest-within}
use Rattle.channel.proofs.DensityLaws.{density-densest}
use Rattle.leftedge.specs.Items.{Place, track_of}
use Rattle.leftedge.specs.Fill.{filled, stuck}
use Rattle.leftedge.specs.FillEnds.{filled-or-stuck}
use Rattle.leftedge.specs.Walk.{ring_of}
use Rattle.leftedge.specs.Looks.{item_looks, ceiling}
use Rattle.leftedge.proofs.LookLaws.{looks-few}
use Rattle.leftedge.specs.Nets.{net_items, fill, looks}
use Rattle.leftedge.specs.Invariants.{Falls, FilledBy, StuckWith}
use Rattle.leftedge.proofs.FillLaws.{fill-filled, fill-stuck}
use Rattle.leftedge.proofs.WalkLaws.{walk-ring}
use Rattle.leftedge.specs.SpanFill.{Spanning, tracks≤density as fewest}
use Rattle.leftedge.proofs.NetLaws.{nets-orderly, order→spanning, spanning→order, starts-inside}
use Rattle.leftedge.proofs.NetLaws.{order-length, before-starts, →fits-after}
use Rattle.leftedge.proofs.NetLaws.{falls→above}

module _ (ch : Channel) (esc : Escapes ch) where
  pub nets-filled : (t : ℕ) (ps : List Place) → fill ch ≡ filled t ps → FilledBy (net_items ch) t ps
  unfolding fill
  nets-filled t ps e = fill-filled (net_items ch) (nets-orderly ch esc) t ps e

  pub nets-stuck : (left : List ℕ) → fill ch ≡ stuck left → StuckWith (net_items ch) left
  unfolding fill
  nets-stuck left e = fill-stuck (net_items ch) (nets-orderly ch esc) left e

  -- SCOPE, Req 07: "For n nets with spans it is at most n times (n + 1), halved."
  pub looks≤ceiling : looks ch ≤ ceiling (length (spanning ch))
  unfolding looks net_items
  looks≤ceiling =
      subst (λ (n : ℕ). item_looks (net_items ch) ≤ ceiling n) (order-length ch esc) (looks-few (net_items ch))

  falls→descends : {end : ℕ} {steps : List Step} → Descends (Falls (net_items ch)) end steps
      → Descends (Above ch) end steps
  falls→descends {end} (last {s = s} h) = last (falls→above ch s.net end s.column h)
  falls→descends (next {s = s} {t = t} h d) = next (falls→above ch s.net t.net s.column h) (falls→descends d)

  -- the walk shows a ring
  pub stuck-ring : (left : List ℕ) → fill ch ≡ stuck left → Ring ch (ring_of (net_items ch) left)
  stuck-ring left e =
      let r = walk-ring (net_items ch) left (nets-stuck left e) in
      record { distinct = r.distinct; closed = falls→descends r.closed }

  -- a channel that is filled has no ring: along one the tracks would fall without end
  pub filled-untangled : (t : ℕ) (ps : List Place) → fill ch ≡ filled t ps → Tangled ch → ⊥
  unfolding net_items
  filled-untangled t ps e (steps, ring) =
      let a = descends-member ring.closed in
      falls (track_of ps a.0) a.0 a.1 (omega arith)
    where
      lower : (a : ℕ) → Memᴰ a (nets_of steps)
          → (b : ℕ) × Memᴰ b (nets_of steps) × (track_of ps b < track_of ps a)
      lower a m =
          let r = ring-next ring m in
          let inside = spanning→order ch esc.even a (upper-spans ch esc r.2) in
          (r.0, r.3, (nets-filled t ps e).lower a r.0 r.1 inside (above→drop ch a r.0 r.1 r.2))

      falls : (k a : ℕ) → Memᴰ a (nets_of steps) → track_of ps a ≤ k → ⊥
      falls zero a m h = let r = lower a m in let l = r.2 in omega arith
      falls (suc k) a m h = let r = lower a m in let l = r.2 in falls k r.0 r.1 (omega arith)

  -- a channel is tangled or not: its fill tells
  pub tangled? : Tangled ch ⊎ (Tangled ch → ⊥)
  tangled? =
      ⊎_elim (λ r. inr (filled-untangled r.0 r.1 r.2))
      (λ r. inl (ring_of (net_items ch) r.0, stuck-ring r.0 r.1)) (filled-or-stuck (fill ch))

  -- and has no more steps than there are nets
  pub ring-length : (left : List ℕ) → fill ch ≡ stuck left
      → length (nets_of (ring_of (net_items ch) left)) ≤ length (nets ch)
  ring-length left e =
      let s = nets-stuck left e in
      let r = walk-ring (net_items ch) left s in
      pigeonhole (nets_of (ring_of (net_items ch) left)) (nets ch) r.distinct
      (λ n m. →nets ch n (spanning→ ch n (order→spanning ch n (s.items n (r.inside n m)))).0)

  module _ (t : ℕ) (ps : List Place) (f : FilledBy (net_items ch) t ps) where
    pub tracks≤nets : t ≤ length (nets ch)
    tracks≤nets =
        let few = f.few in
        let fit = pigeonhole (net_items ch).order (nets ch) (nets-orderly ch esc).distinct
        (λ n m. →nets ch n (spanning→ ch n (order→spanning ch n m)).0) in
        omega arith

    -- where no net is above another, the fill takes no more tracks than the density
    pub tracks≤density : Unconstrained ch → t ≤ density ch
    unfolding net_items
    tracks≤density free =
        let few = fewest (net_items ch) (first_column ch) (last_column ch) (width ch) net-spans
        (λ m. no-member→empty (drops ch m) (λ d k. free m d.lower d.column (drop→above ch m d k))) t ps f in
        let same = densest-within (first_column ch) (last_column ch) (net_items ch).order (spanning ch)
        (nets-orderly ch esc).distinct (order→spanning ch) (width ch) in
        let e = density-densest ch in
        omega arith
      where
        net-spans : Spanning (net_items ch) (first_column ch) (last_column ch) (width ch)
        net-spans =
            record {
              inside = λ n m. starts-inside ch esc.even n (order→spanning ch n m);
              span = λ n m. (spanning→ ch n (order→spanning ch n m)).2;
              sorted = before-starts ch;
              fits = →fits-after ch;
            }
