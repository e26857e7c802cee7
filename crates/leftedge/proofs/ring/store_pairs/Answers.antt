-- The net is one of those that the walk never leaves (`passed`), and its pair has room. A turn is `stored_more`.
use Rattle.leftedge.specs.TrailLaws.{passed}
use Rattle.leftedge.specs.RingLists.{stored-none, stored_more}
use Rattle.leftedge.proofs.ring.store_pairs.Goals as goal

pub loop-i-init : goal.loop-i-init
loop-i-init c = stored-none

pub bounds-columns-n : goal.bounds-columns-n
bounds-columns-n c = (passed c.requires.0 c.loop-i.i c.loop-i.invariant.here).low

pub overflow_sub-n : goal.overflow_sub-n
overflow_sub-n c = (passed c.requires.0 c.loop-i.i c.loop-i.invariant.here).first

pub bounds-bot-c : goal.bounds-bot-c
bounds-bot-c c = (passed c.requires.0 c.loop-i.i c.loop-i.invariant.here).last

pub loop-i-preserved : goal.loop-i-preserved
loop-i-preserved c =
    stored_more c.loop-i.invariant c.loop-i-test.true c.requires.1 c.requires.2
    (passed c.requires.0 c.loop-i.i c.loop-i.invariant.here).down
