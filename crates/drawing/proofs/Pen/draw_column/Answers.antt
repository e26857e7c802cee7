-- `draw_column` meets its contract: the branch as the code makes it is that of the definition, and the contact is put
-- behind it.
use native.Mathlib.Omega.{arith}
use mathlib.Core.Path.{subst, subst⁻¹}
use Rattle.drawing.specs.Putting.{Room, Put, put_then, room-first, room-rest}
use Rattle.channel.specs.Channel.{rows}
use Rattle.drawing.proofs.CodeLaws.{column-array}
use Rattle.drawing.proofs.Pen.draw_column.Goals as goal

pub put-requires : goal.put-requires
put-requires c =
    let drawn = column-array (rows c.rows.inside.top.now c.rows.inside.bot.now) c.args.net.number.0 c.args.c.0 (omega arith) c.args.t c.args.net.track.0
    _ _ c.end_row-low.ensures c.end_row-high.ensures in
    room-first _ (subst (Room _ _) drawn (rw (← c.rows.view_is) at c.requires.3))

pub put-requires-2 : goal.put-requires-2
put-requires-2 c =
    let drawn = column-array (rows c.rows.inside.top.now c.rows.inside.bot.now) c.args.net.number.0 c.args.c.0 (omega arith) c.args.t c.args.net.track.0
    _ _ c.end_row-low.ensures c.end_row-high.ensures in
    room-rest c.put.ensures.drawn (subst (Room _ _) drawn (rw (← c.rows.view_is) at c.requires.3))

pub returns-clause-drawn : goal.returns-clause-drawn
returns-clause-drawn c =
    let drawn = column-array (rows c.rows.inside.top.now c.rows.inside.bot.now) c.args.net.number.0 c.args.c.0 (omega arith) c.args.t c.args.net.track.0
    _ _ c.end_row-low.ensures c.end_row-high.ensures in
    rw (← c.rows.view_is) (subst⁻¹ (Put _ _ _ _) drawn (put_then c.put.ensures.drawn c.put-2.ensures.drawn))
