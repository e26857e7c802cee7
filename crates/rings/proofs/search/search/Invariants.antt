-- The loop's invariant is `SearchTurn`, for whatever is below the nets: the queue's front has the nets that are walked up
-- from and those that are not yet. The net numbers not yet walked up from fall.
use Rattle.std.proofs.Common.{ℕ, ◌-◌, List}
use Rattle.items.specs.Steps.{Stepped}
use Rattle.rings.specs.Search.{numbers}
use Rattle.rings.specs.SearchTurns.{SearchTurn}
use Rattle.rings.proofs.search.search.Given as goal

abbrev pub invariant-loop-done : goal.invariant-loop-done
invariant-loop-done l =
    (below : ℕ → List ℕ) → Stepped below numbers l.upper l.head l.next
    → SearchTurn below l.to l.far l.queue l.queued l.done

abbrev pub decreases-loop-done : goal.decreases-loop-done
decreases-loop-done l = 512 - l.done
