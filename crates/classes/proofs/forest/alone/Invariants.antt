-- The first i numbers are their places.
use Rattle.lists.specs.Fronts.{FrontIs}
use Rattle.classes.proofs.forest.alone.Given as goal

abbrev pub invariant-loop-i : goal.invariant-loop-i
invariant-loop-i l = FrontIs (λ j. j) l.initial.forest l.i l.forest
