-- The loop's invariant is `Walks`: the nets met are different, and `visits` has the place of each. They are among those
-- that the walk never leaves, so they are at most 511, and 513 less the mark falls.
use Rattle.std.proofs.Common.{◌-◌}
use Rattle.leftedge.specs.TrailLaws.{Walks}
use Rattle.leftedge.proofs.ring.walk_down.Given as goal

abbrev pub invariant-loop-visits : goal.invariant-loop-visits
invariant-loop-visits l = Walks l.bot l.columns l.initial.n l.visits l.n l.mark

abbrev pub decreases-loop-visits : goal.decreases-loop-visits
decreases-loop-visits l = 513 - l.mark
