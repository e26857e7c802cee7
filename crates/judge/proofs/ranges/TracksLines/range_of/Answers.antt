-- A pin place, or a piece: each of the two cases is a law of `RangeSteps`.
use mathlib.Core.Path.{sym, ap, ◌∙◌}
use Rattle.judge.specs.Ranges.{cover_track, range_on}
use Rattle.judge.specs.RangeSteps.{pin-track, piece-track, box-small}
use Rattle.judge.proofs.ranges.TracksLines.range_of.Goals as goal

pub returns-then-i-pins : goal.returns-then-i-pins
unfolding range_on
returns-then-i-pins c =
    let k = c.case.inside in
    rw (← c.case.view_is) (sym (pin-track k.top.now k.bot.now k.board.now c.args.i c.if-i-pins.true))

pub cover_on_track-requires : goal.cover_on_track-requires
cover_on_track-requires c = rw c.cover_at.ensures (box-small _).1

pub returns : goal.returns
unfolding range_on
returns c =
    let k = c.case.inside in
    rw (← c.case.view_is) (c.cover_on_track.ensures ∙ ap cover_track (rw (← c.case.view_is) at c.cover_at.ensures)
    ∙ sym (piece-track k.top.now k.bot.now k.board.now c.args.i c.if-i-pins.false))
