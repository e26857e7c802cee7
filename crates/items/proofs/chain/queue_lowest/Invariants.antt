-- Of the items looked at those with nothing below stand at the front of the queue.
use Rattle.std.proofs.Common.{get_or, eqb}
use Rattle.lists.specs.Collects.{Collected}
use Rattle.items.proofs.chain.queue_lowest.Given as goal

abbrev pub invariant-loop-n : goal.invariant-loop-n
invariant-loop-n l = Collected (λ n. eqb (get_or l.under n 0) 0) l.items l.fn.queue l.n-index l.queued l.queue
