-- A pin place of either row, or a piece: each of the three cases is a law of `RangeSteps`.
use native.Mathlib.Omega.{arith}
use mathlib.Core.Path.{sym, ap, ◌∙◌}
use Rattle.judge.specs.Ranges.{cover_column, range_on}
use Rattle.judge.specs.RangeSteps.{top-column, bot-column, piece-column, box-small}
use Rattle.judge.proofs.FitLaws.{file-small}
use Rattle.judge.proofs.ranges.ColumnsLines.range_of.Goals as goal

pub returns-then-i-width : goal.returns-then-i-width
unfolding range_on
returns-then-i-width c =
    let k = c.case.inside in
    rw (← c.case.view_is) (c.pin_range.ensures
    ∙ sym (top-column k.top.now k.bot.now k.board.now c.args.i k.tracks c.if-i-width.true))

pub returns-then-i-pins : goal.returns-then-i-pins
unfolding range_on
returns-then-i-pins c =
    let k = c.case.inside in
    rw (← c.case.view_is) (c.pin_range-then-i-pins.ensures
    ∙ sym (bot-column k.top.now k.bot.now k.board.now c.args.i k.tracks c.if-i-width.false c.if-i-pins.true))

pub overflow_add-tracks : goal.overflow_add-tracks
overflow_add-tracks c = omega (arith, (file-small _ _ _ c.case.invariant.0).0)

pub pin_range-requires : goal.pin_range-requires
pin_range-requires c =
    let small = (file-small _ _ _ c.case.invariant.0).0 in
    let narrow = c.case.invariant.0.escapes.narrow in
    (omega arith, omega arith)

pub cover_in_column-requires : goal.cover_in_column-requires
cover_in_column-requires c = rw c.cover_at.ensures (box-small _).0

pub returns : goal.returns
unfolding range_on
returns c =
    let k = c.case.inside in
    rw (← c.case.view_is) (c.cover_in_column.ensures ∙ ap cover_column (rw (← c.case.view_is) at c.cover_at.ensures)
    ∙ sym (piece-column k.top.now k.bot.now k.board.now c.args.i k.tracks c.if-i-pins.false))
