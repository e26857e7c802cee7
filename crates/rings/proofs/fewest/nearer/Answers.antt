-- `nearer` meets its contract: `home` is one step below a net whose distance is 1, and another net is one step nearer
-- if its distance is one less.
use mathlib.Core.Path.{sym}
use Rattle.rings.specs.NearerLaws.{nearer-home, nearer-tested}
use Rattle.rings.proofs.fewest.nearer.Goals as goal

pub returns-then-b-home : goal.returns-then-b-home
returns-then-b-home c =
    let a = c.args in
    rw c.from-steps.ensures (sym (nearer-home a.far.now a.home a.a a.b c.if-b-home.true))

pub returns : goal.returns
returns c =
    let a = c.args in
    rw (c.from-left.ensures, c.from-steps.ensures)
    (nearer-tested a.far.now a.home a.a a.b c.if-b-home.false)
