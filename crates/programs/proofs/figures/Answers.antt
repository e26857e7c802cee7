-- Rows that escape have bounds (`bounds-told`) and 511 tracks have a blank (`blank-told`), so neither refusal comes, and
-- the figures are those of the channel.
use Rattle.std.proofs.Common.{◌≡◌, refl, ◌∙◌}
use Rattle.channel.specs.Answers.{bounds_of}
use Rattle.blanks.specs.Stock.{smallest_for, stock}
use Rattle.programs.specs.Code.{channel_of}
use Rattle.programs.specs.CodeLaws.{bounds-told, blank-told}
use Rattle.programs.proofs.figures.Goals as goal

pub returns-in_err-density : goal.returns-in_err-density
returns-in_err-density c =
    let told = rw (c.top.ensures, c.bot.ensures) at c.in_err-density.ensures in
    let same = told ∙ bounds-told _ c.args.pins.now.escape in
    cc

pub returns-in_err-blank : goal.returns-in_err-blank
returns-in_err-blank c =
    let same = c.in_err-blank.ensures ∙ blank-told _ c.requires in
    cc

pub returns : goal.returns
returns c =
    let bounds = (rw (c.top.ensures, c.bot.ensures) at c.in_ok-density.ensures) ∙ bounds-told _ c.args.pins.now.escape in
    let blanks = c.in_ok-blank.ensures ∙ blank-told _ c.requires in
    let told-bounds : c.in_ok-density.field-0 ≡ bounds_of (channel_of c.args.pins.now) = cc in
    let told-blank : c.in_ok-blank.blank ≡ smallest_for stock c.args.drawn.tracks = cc in
    rw (told-bounds, told-blank, c.top-2.ensures) refl
