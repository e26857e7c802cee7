-- The loop's invariant is `Lowest`: `least` is the least of the first net and of those looked at behind it.
use Rattle.std.proofs.Common.{◌+◌, length}
use Rattle.leftedge.specs.RingLists.{Lowest}
use Rattle.leftedge.proofs.ring.lowest_net.Given as goal

abbrev pub invariant-loop-n : goal.invariant-loop-n
invariant-loop-n l = Lowest l.left (length l.left) l.least (l.n-index + 1)
