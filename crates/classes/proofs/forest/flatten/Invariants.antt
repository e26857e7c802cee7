-- The first i numbers are the roots of their elements.
use Rattle.classes.specs.Forest.{root_of}
use Rattle.lists.specs.Fronts.{FrontIs}
use Rattle.classes.proofs.forest.flatten.Given as goal

abbrev pub invariant-loop-i : goal.invariant-loop-i
invariant-loop-i l = FrontIs (root_of l.initial.forest) l.initial.forest l.i l.forest
