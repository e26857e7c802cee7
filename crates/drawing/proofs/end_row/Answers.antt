-- Each way of the test is the one that `cond` takes.
use Rattle.std.proofs.Common.{eq-eqb, ne_eqb}
use Rattle.drawing.proofs.end_row.Goals as goal

pub returns-then-pin-n : goal.returns-then-pin-n
returns-then-pin-n c = simp (eq-eqb _ _ c.if-pin-n.true)

pub returns-else-pin-n : goal.returns-else-pin-n
returns-else-pin-n c = simp (ne_eqb _ _ c.if-pin-n.false)
