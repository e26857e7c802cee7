-- The loop's invariant is `PeelTurn`, for whatever is below the items: the queue has those peeled, those of the present
-- level and those of the next. The items still to be peeled fall.
use Rattle.std.proofs.Common.{ℕ, ◌-◌, ◌≡◌, length, List}
use Rattle.items.specs.Depths.{StepsCounted}
use Rattle.items.specs.PeelTurns.{PeelTurn}
use Rattle.items.proofs.chain.longest_chain.Given as goal

abbrev pub invariant-loop-done : goal.invariant-loop-done
invariant-loop-done l =
    (length l.under ≡ length l.fn.under) × (length l.queue ≡ length l.fn.queue)
    × ((below : ℕ → List ℕ) → StepsCounted below l.items l.upper l.head l.next l.fn.under
    → PeelTurn below l.items l.fn.queue l.under l.queue l.queued l.done l.level l.levels l.done)

abbrev pub decreases-loop-done : goal.decreases-loop-done
decreases-loop-done l = length l.items - l.done
