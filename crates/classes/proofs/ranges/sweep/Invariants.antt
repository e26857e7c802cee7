-- What the sweep has done before the place.
use Rattle.classes.specs.SweepLaws.{SweptTo}
use Rattle.classes.proofs.ranges.sweep.Given as goal

abbrev pub invariant-loop-start : goal.invariant-loop-start
invariant-loop-start l = SweptTo l.initial.starts l.initial.forest l.start l.furthest l.starts l.forest
