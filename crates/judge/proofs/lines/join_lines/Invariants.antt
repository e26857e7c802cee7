-- `join_lines` meets its contract. The invariant: the lines below `line` are joined, and no range is entered.
use Rattle.judge.specs.JoinSteps.{Joining}
use Rattle.judge.proofs.lines.join_lines.Given as goal

abbrev pub invariant-loop-line : goal.invariant-loop-line
invariant-loop-line g l =
    Joining l.case g.L.Lines.across l.heads l.initial.starts l.initial.forest l.line l.starts l.forest
