-- `first_open` meets its contract. The invariant: `firsts` has the mark of the first pin of each net before place i,
-- and each pin of the net has it.
use Rattle.judge.proofs.SearchLaws.{FirstsKnown}
use Rattle.judge.specs.FaultSteps.{marks_in}
use Rattle.judge.proofs.faults.first_open.Given as goal

abbrev pub invariant-loop-i : goal.invariant-loop-i
invariant-loop-i l =
    FirstsKnown l.case.channel (marks_in l.scratch) l.firsts l.i
