-- The loop's invariant is `NearestOf` over the numbers looked at.
use Rattle.std.proofs.Common.{ℕ, ◌-◌, List}
use Rattle.items.specs.Steps.{Stepped}
use Rattle.rings.specs.Search.{numbers, NearestOf}
use Rattle.rings.proofs.fewest.nearest.Given as goal

abbrev pub invariant-loop-n : goal.invariant-loop-n
invariant-loop-n l =
    (below : ℕ → List ℕ) → Stepped below numbers l.upper l.head l.next → NearestOf below (l.n - 1) l.found
