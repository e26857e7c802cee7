-- Column c, counted from 1, is place c - 1 of each row.
use Rattle.std.proofs.Common.{arith, sym}
use Rattle.channel.specs.Channel.{rows}
use Rattle.drawing.proofs.CodeLaws.{stands-array}
use Rattle.drawing.proofs.has_pin.Goals as goal

pub returns : goal.returns
returns c =
    rw (← c.rows.view_is)
    (sym (stands-array (rows c.rows.inside.top.now c.rows.inside.bot.now) c.args.n.0 c.args.c.0 (omega arith)))
