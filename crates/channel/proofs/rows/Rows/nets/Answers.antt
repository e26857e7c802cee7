-- Rows without parked pins show nets only (`none-parked`).
use Rattle.std.proofs.Common.{sym, ◌∙◌}
use Rattle.channel.proofs.OnceLaws.{none-parked}
use Rattle.channel.proofs.rows.Rows.nets.Goals as goal

pub invariant_of-result : goal.invariant_of-result
invariant_of-result c =
    none-parked _ c.self.invariant
    (rw (← c.self.view_is) at (sym c.has_parked.ensures ∙ c.if-has_parked.false))
