-- `enter_line` meets its contract. The invariant: the line's elements from `after` on are entered, and the one before
-- `after`, if there is one, is of the line too. `after` falls, since the chain leads down.
use Rattle.judge.specs.LineSteps.{ranges}
use Rattle.judge.proofs.EnterSteps.{Entering}
use Rattle.judge.proofs.lines.enter_line.Given as goal

abbrev pub invariant-loop-after : goal.invariant-loop-after
invariant-loop-after g l =
    Entering (ranges g.L.Lines.across l.case) l.line l.after l.initial.starts l.starts l.initial.forest l.forest

abbrev pub decreases-loop-after : goal.decreases-loop-after
decreases-loop-after g l = l.after
