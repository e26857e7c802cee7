-- `find` meets its contract. The invariant: the element reached is of the class of i, `up` is its parent, and the
-- forest has the classes that it had. What is reached falls, since a parent that is not its child is below it.
use Prim.Native.Nat.{◌<◌}
use mathlib.Core.Path.{◌≡◌}
use lib.ListN.{length}
use Rattle.classes.specs.Forest.{parent_of, root_of, Kept}
use Rattle.classes.proofs.forest.find.Given as goal

abbrev pub invariant-loop-up : goal.invariant-loop-up
invariant-loop-up l =
    (l.at < length l.initial.forest) × (l.up ≡ parent_of l.forest l.at) × (root_of l.initial.forest l.at ≡ root_of l.initial.forest l.i) × Kept l.initial.forest l.forest

abbrev pub decreases-loop-up : goal.decreases-loop-up
decreases-loop-up l = l.at
