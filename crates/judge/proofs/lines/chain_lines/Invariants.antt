-- `chain_lines` meets its contract. The invariant: the elements before i are in their chains, and the forest has the
-- classes that it had.
use Rattle.judge.specs.LineSteps.{ranges}
use Rattle.classes.specs.ChainSteps.{ChainedTo}
use Rattle.judge.proofs.lines.chain_lines.Given as goal

abbrev pub invariant-loop-i : goal.invariant-loop-i
invariant-loop-i g l =
    ChainedTo (ranges g.L.Lines.across l.case) l.initial.heads l.initial.forest l.i l.heads l.forest
