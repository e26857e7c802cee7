-- What is left at the front of the rows lent is the channel without its parked pins (`left-rows`), which shows nets only.
use Rattle.channel.specs.Channel.{rows}
use Rattle.channel.proofs.RemoveLaws.{left-only, left-rows}
use Rattle.channel.proofs.rows.Rows.without_parked.Goals as goal

pub invariant_of-result : goal.invariant_of-result
invariant_of-result c =
    left-only (rows c.self.inside.top.now c.self.inside.bot.now) c.self.invariant
    (rw (← c.self.view_is) at c.remove_parked.ensures)

pub returns : goal.returns
returns c =
    rw (← c.self.view_is) (left-rows (rows c.self.inside.top.now c.self.inside.bot.now) c.self.invariant
    (rw (← c.self.view_is) at c.remove_parked.ensures))
