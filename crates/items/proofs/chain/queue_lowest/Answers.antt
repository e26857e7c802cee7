use Rattle.std.proofs.Common.{arith, eq-eqb, ne_eqb}
use Rattle.lists.specs.Ends.{get_or-member}
use Rattle.lists.specs.Collects.{collected-none, collected-few, collected-takes, collected-skips}
use Rattle.items.proofs.chain.queue_lowest.Goals as goal
use Rattle.items.proofs.chain.queue_lowest.Goals.{then-under-n-eq0, else-under-n-eq0}

pub loop-n-init : goal.loop-n-init
loop-n-init c = collected-none _ _ _

pub bounds-under-n : goal.bounds-under-n
bounds-under-n c = c.requires.1 _ (get_or-member _ c.loop-n.n-index c.loop-n-test.true)

pub bounds-queue-queued : goal.bounds-queue-queued
bounds-queue-queued c =
    let few = collected-few _ _ _ _ _ _ c.loop-n.invariant c.loop-n-test.true in omega arith

pub loop-n-preserved : goal.loop-n-preserved
loop-n-preserved c =
    elim c.if-under-n-eq0.branch [
      | then-under-n-eq0 w ↦ rw (w.queued-is, w.queue-is) (collected-takes _ _ _ _ _ _ c.loop-n.invariant c.loop-n-test.true
          c.requires.0 (eq-eqb _ 0 w.if-under-n-eq0.true))
      | else-under-n-eq0 w ↦ rw (w.queued-is, w.queue-is) (collected-skips _ _ _ _ _ _ c.loop-n.invariant c.loop-n-test.true
          (ne_eqb _ 0 w.if-under-n-eq0.false))
    ]
