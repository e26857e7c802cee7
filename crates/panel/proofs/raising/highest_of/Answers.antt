-- The greatest of both rows is the greatest of the list.
use Rattle.std.proofs.Common.{arith}
use Rattle.channel.specs.Channel.{rows}
use Rattle.panel.proofs.JoinLaws.{highest-rows}
use Rattle.panel.proofs.raising.highest_of.Goals as goal

pub returns : goal.returns
returns c =
    let upper = c.highest_number-upper.ensures in
    let both = c.highest_number.ensures in
    omega (arith, highest-rows (rows c.args.top.now c.args.bot.now))
