-- 0 stays, and any other number is raised.
use Rattle.std.proofs.Common.{sym, ◌∙◌, ap, arith}
use Rattle.panel.specs.Joined.{raised}
use Rattle.panel.specs.RaiseLaws.{raised-zero, raised-some}
use Rattle.panel.proofs.raising.raise.Goals as goal

pub returns-then-n-eq0 : goal.returns-then-n-eq0
returns-then-n-eq0 c = sym (ap (raised c.args.by) c.if-n-eq0.true ∙ raised-zero c.args.by)

pub returns-else-n-eq0 : goal.returns-else-n-eq0
returns-else-n-eq0 c = sym (raised-some c.args.by c.args.n (omega (arith, c.if-n-eq0.false)))
