-- The search begins with `turn-start`, a turn is `turn-next`, and the end is `turn_end`.
use Rattle.std.proofs.Common.{arith}
use Rattle.lists.specs.Members.{up_to-member}
use Rattle.channel.specs.Channel.{highest_net}
use Rattle.rings.specs.SearchTurns.{start-notes, turn-start, turn-few, turn_end, turn-net, turn-notes, turn-next}
use Rattle.rings.proofs.search.search.Goals as goal

pub offset_bounds-head-to : goal.offset_bounds-head-to
offset_bounds-head-to c = omega (arith, up_to-member highest_net c.requires.start)

pub bounds-head-to : goal.bounds-head-to
bounds-head-to c = omega (arith, up_to-member highest_net c.requires.start, c.requires.known.long)

pub note_above-queued-requires : goal.note_above-queued-requires
note_above-queued-requires c =
    let p = c.requires in
    start-notes p.known.below _ _ _ _ p.known.stepped p.start _ _ p.unknown p.room

pub loop-done-init : goal.loop-done-init
loop-done-init c below s =
    let p = c.requires in
    turn-start below _ _ _ _ s p.start _ _ p.unknown p.room _ _ _ c.note_above-queued.ensures

pub bounds-far-n : goal.bounds-far-n
bounds-far-n c =
    let k = c.loop-done.invariant _ c.requires.known.stepped in
    let n = turn-net _ _ _ _ _ _ k c.loop-done-test.true in
    omega (arith, n.0, k.searching.long)

pub bounds-head-n : goal.bounds-head-n
bounds-head-n c =
    let k = c.loop-done.invariant _ c.requires.known.stepped in
    let n = turn-net _ _ _ _ _ _ k c.loop-done-test.true in
    omega (arith, n.0, c.requires.known.long)

pub note_above-queued-requires-in-loop-done : goal.note_above-queued-requires-in-loop-done
note_above-queued-requires-in-loop-done c =
    turn-notes _ _ _ _ _ _ (c.loop-done.invariant _ c.requires.known.stepped) c.loop-done-test.true _ _ _
    c.requires.known.stepped

pub overflow_add-done : goal.overflow_add-done
overflow_add-done c =
    omega (arith, turn-few _ _ _ _ _ _ (c.loop-done.invariant _ c.requires.known.stepped))

pub loop-done-smaller : goal.loop-done-smaller
loop-done-smaller c =
    omega (arith, turn-few _ _ _ _ _ _ (c.loop-done.invariant _ c.requires.known.stepped))

pub loop-done-preserved : goal.loop-done-preserved
loop-done-preserved c below s =
    turn-next _ _ _ _ _ _ (c.loop-done.invariant below s) c.loop-done-test.true _ _ _ s _ _ _
    c.note_above-queued-in-loop-done.ensures

pub returns : goal.returns
returns c below s = turn_end below _ _ _ _ _ (c.loop-done.invariant below s) c.loop-done-test.false
