-- The columns kept are those of the first drops, so the walk stays within the nets left (`left-confines`), and from the
-- net met again on it is the ring (`ring-shown`).
use Rattle.std.proofs.Common.{ℕ, sym, subst}
use Rattle.grid.specs.Numbers.{track_numbers}
use Rattle.leftedge.specs.Ring.{net_below, Confines, Closes}
use Rattle.leftedge.proofs.RingLaws.{left-some, left-confines, again-confines, pairs-few, pairs-fit, ring-shown}
use Rattle.leftedge.proofs.ring.show_ring.Goals as goal

pub lowest_net-requires : goal.lowest_net-requires
lowest_net-requires c = left-some _ _ _ (rw (← c.nets.view_is) at c.requires.0)

pub walk_down-walked-requires : goal.walk_down-walked-requires
walk_down-walked-requires c =
    let left = c.args.left.now in (
      left,
      subst (λ (n : ℕ). Confines c.nets.inside.bot.now c.lowest_drops-columns.result n left) (sym c.lowest_net.ensures)
          (left-confines _ (track_numbers c.args.tracks.now) left
          (rw (← c.nets.view_is) at c.requires.0) c.lowest_drops-columns.result
          (rw (← c.nets.view_is) at c.lowest_drops-columns.ensures)),
    )

pub store_pairs-requires : goal.store_pairs-requires
store_pairs-requires c =
    let w = c.walk_down-walked.result in
    let closes = subst (λ (n : ℕ). Closes (net_below c.nets.inside.bot.now c.lowest_drops-columns.result) n w.again.0 w.count)
    c.lowest_net.ensures c.walk_down-walked.ensures in
    let kept = rw (← c.nets.view_is) at c.lowest_drops-columns.ensures in
    let from = rw (← c.nets.view_is) at c.requires.0 in (
      (c.args.left.now, again-confines _ _ _ from _ kept closes),
      pairs-few _ _ _ from _ kept closes,
      pairs-fit _ _ _ from _ kept closes c.requires.1,
    )

pub returns : goal.returns
returns c =
    let w = c.walk_down-walked.result in
    let closes = subst (λ (n : ℕ). Closes (net_below c.nets.inside.bot.now c.lowest_drops-columns.result) n w.again.0 w.count)
    c.lowest_net.ensures c.walk_down-walked.ensures in
    rw (← c.nets.view_is) (ring-shown _ _ _ (rw (← c.nets.view_is) at c.requires.0) _
    (rw (← c.nets.view_is) at c.lowest_drops-columns.ensures) closes c.store_pairs.ensures)
