-- At the end the first i columns are all of them, and number 0, which is no net's, is cleared (`firsts-whole`,
-- `lasts-whole`).
use Rattle.std.proofs.Common.{◌≡◌, arith, sym, ap, ◌∙◌}
use Rattle.grid.specs.Pieces.{column}
use Rattle.grid.specs.Numbers.{column_numbers, column-set, columns-none}
use Rattle.lists.specs.Ends.{at_next}
use Rattle.channel.specs.Channel.{width, rows}
use Rattle.channel.proofs.EscapeLaws.{top-low, bot-low}
use Rattle.channel.proofs.NoteLaws.{firsts-none, lasts-none, firsts-whole, lasts-whole, firsts-noted, lasts-noted}
use Rattle.channel.proofs.spans.find_columns.Goals as goal

pub loop-i-init : goal.loop-i-init
loop-i-init c = (ap column_numbers c.requires.0 ∙ (columns-none ∙ firsts-none _), ap column_numbers c.requires.1 ∙ (columns-none ∙ lasts-none _))

pub note-requires : goal.note-requires
note-requires c = top-low (rows c.nets.inside.top.now c.nets.inside.bot.now) c.loop-i.i c.nets.invariant.escapes

pub note-requires-in-loop-i : goal.note-requires-in-loop-i
note-requires-in-loop-i c = bot-low (rows c.nets.inside.top.now c.nets.inside.bot.now) c.loop-i.i c.nets.invariant.escapes

pub loop-i-preserved : goal.loop-i-preserved
loop-i-preserved c =
    let l = c.loop-i in
    let ch = rows c.nets.inside.top.now c.nets.inside.bot.now in
    let esc = c.nets.invariant.escapes in
    let one = c.note.ensures in
    let two = c.note-in-loop-i.ensures in
    let top = sym (at_next ch.top l.i) in
    let bot = sym (at_next ch.bot l.i) in
    let t = top-low ch l.i esc in
    let b = bot-low ch l.i esc in (
      rw (two.0, one.0, l.invariant.0) (firsts-noted ch l.i _ _ top bot (omega arith) (omega arith)),
      rw (two.1, one.1, l.invariant.1) (lasts-noted ch l.i _ _ top bot (omega arith) (omega arith)),
    )

pub returns : goal.returns
returns c =
    let l = c.loop-i in
    let ch = rows c.nets.inside.top.now c.nets.inside.bot.now in
    let all : l.i ≡ width ch = omega arith in
    rw (← c.nets.view_is) (
      rw (column-set l.first 0 (column 0), l.invariant.0, all) (firsts-whole ch c.nets.invariant),
      rw (column-set l.last 0 (column 0), l.invariant.1, all) (lasts-whole ch c.nets.invariant),
    )
