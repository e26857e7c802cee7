-- The net is one of those that the walk never leaves (`walk-passed`). A turn is `walk_step`; where the net has a mark, the
-- walk closes (`walk-closed`).
use Rattle.std.proofs.Common.{arith}
use Rattle.leftedge.specs.TrailLaws.{walk-starts, walk-passed, walk-counts, walk-falls, walk_step, walk-closed}
use Rattle.leftedge.proofs.ring.walk_down.Goals as goal

pub loop-visits-init : goal.loop-visits-init
loop-visits-init c = walk-starts

pub overflow_add-mark : goal.overflow_add-mark
overflow_add-mark c = omega (arith, walk-counts c.requires c.loop-visits.invariant)

pub loop-visits-smaller : goal.loop-visits-smaller
loop-visits-smaller c = walk-falls c.requires c.loop-visits.invariant

pub loop-visits-preserved : goal.loop-visits-preserved
loop-visits-preserved c = walk_step c.requires c.loop-visits.invariant c.loop-visits-test.true

pub overflow_sub-result : goal.overflow_sub-result
overflow_sub-result c = (walk-closed c.requires c.loop-visits.invariant c.loop-visits-test.false).1

pub returns : goal.returns
returns c = (walk-closed c.requires c.loop-visits.invariant c.loop-visits-test.false).0

pub offset_bounds-visits-n : goal.offset_bounds-visits-n
offset_bounds-visits-n c = omega (arith, (walk-passed c.requires c.loop-visits.invariant).scaled)

pub offset_bounds-visits-n-in-loop-visits : goal.offset_bounds-visits-n-in-loop-visits
offset_bounds-visits-n-in-loop-visits c = omega (arith, (walk-passed c.requires c.loop-visits.invariant).scaled)

pub offset_bounds-columns-n : goal.offset_bounds-columns-n
offset_bounds-columns-n c = omega (arith, (walk-passed c.requires c.loop-visits.invariant).scaled)

pub offset_bounds-visits-n-2 : goal.offset_bounds-visits-n-2
offset_bounds-visits-n-2 c = omega (arith, (walk-passed c.requires c.loop-visits.invariant).scaled)

pub bounds-visits-n : goal.bounds-visits-n
bounds-visits-n c = (walk-passed c.requires c.loop-visits.invariant).low

pub bounds-visits-n-in-loop-visits : goal.bounds-visits-n-in-loop-visits
bounds-visits-n-in-loop-visits c = (walk-passed c.requires c.loop-visits.invariant).low

pub bounds-columns-n : goal.bounds-columns-n
bounds-columns-n c = (walk-passed c.requires c.loop-visits.invariant).low

pub bounds-visits-n-2 : goal.bounds-visits-n-2
bounds-visits-n-2 c = (walk-passed c.requires c.loop-visits.invariant).low

pub overflow_sub-n : goal.overflow_sub-n
overflow_sub-n c = (walk-passed c.requires c.loop-visits.invariant).first

pub bounds-bot-columns : goal.bounds-bot-columns
bounds-bot-columns c = (walk-passed c.requires c.loop-visits.invariant).last

pub overflow_cast-result : goal.overflow_cast-result
overflow_cast-result c = omega (arith, (walk-passed c.requires c.loop-visits.invariant).small)
