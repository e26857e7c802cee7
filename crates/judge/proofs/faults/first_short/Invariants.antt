-- `first_short` meets its contract. The invariant: the marks are those of the start, their owners are the nets of the
-- pins before place i, and no two of them differ.
use mathlib.Core.Path.{◌≡◌}
use Rattle.judge.specs.Searches.{Owned}
use Rattle.judge.specs.FaultSteps.{marks_in, owners_in}
use Rattle.judge.proofs.faults.first_short.Given as goal

abbrev pub invariant-loop-i : goal.invariant-loop-i
invariant-loop-i l =
    (marks_in l.scratch ≡ marks_in l.initial.scratch)
    × Owned l.case.channel (marks_in l.initial.scratch) (owners_in l.scratch) l.i
