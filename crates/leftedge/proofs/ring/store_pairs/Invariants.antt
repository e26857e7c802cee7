-- The loop's invariant is `Stored`: the front of `ring` holds the pairs of the first i steps, the rest is as it was.
use Rattle.leftedge.specs.RingLists.{Stored}
use Rattle.leftedge.proofs.ring.store_pairs.Given as goal

abbrev pub invariant-loop-i : goal.invariant-loop-i
invariant-loop-i l = Stored l.bot l.columns l.initial.n l.count l.fn.ring l.ring l.n l.i
