-- Each test leads to the answer that the chain of refusals gives at it.
use Rattle.std.proofs.Common.{◌∙◌}
use Rattle.refusal.specs.ChainLaws.{handed-on}
use Rattle.judge.proofs.JudgeSteps.{board-rows, board-open, board-width, board-good}
use Rattle.judge.proofs.open_for.Goals as goal

pub returns-in_err-check : goal.returns-in_err-check
returns-in_err-check c = handed-on _ c.from_residual.ensures.1 ∙ board-rows _ _ c.in_err-check.ensures.answer

pub returns-in_err-opened : goal.returns-in_err-opened
returns-in_err-opened c =
    handed-on _ c.from_residual-in_err-opened.ensures.1
    ∙ board-open _ _ c.in_ok-check.ensures.answer c.in_err-opened.ensures

pub returns-then-opened-top : goal.returns-then-opened-top
returns-then-opened-top c =
    board-width _ _ c.in_ok-check.ensures.answer c.in_ok-opened.ensures c.if-opened-top.true

pub returns : goal.returns
returns c = board-good _ _ c.in_ok-check.ensures.answer c.in_ok-opened.ensures c.if-opened-top.false
