-- `panel::join` meets its contract, by the laws of AnswerLaws: short rows are refused first, then what the check of the
-- lists refuses, and else the answer is that of lists that each pass alone.
use mathlib.Core.Path.{◌∙◌}
use Rattle.refusal.specs.ChainLaws.{handed-on}
use mathlib.Core.Logic.{inl, inr}
use Rattle.channel.proofs.BoundLaws.{err→checked, ok→checked, ok→same}
use Rattle.panel.proofs.AnswerLaws.{join-short, join-lists, join-checked, one-refused, one-accepted}
use Rattle.panel.proofs.join.Goals as goal
use Rattle.panel.proofs.join.Goals.{then-top-lt-ROW_TRAY-via-then-top-lt-ROW_TRAY, then-top-lt-ROW_TRAY-via-else-top-lt-ROW_TRAY+then-bot-lt-ROW_TRAY}

pub returns-then-top-lt-ROW_TRAY : goal.returns-then-top-lt-ROW_TRAY
returns-then-top-lt-ROW_TRAY c =
    join-short _ _ _ _ (
    elim c.then-top-lt-ROW_TRAY.branch [
      | then-top-lt-ROW_TRAY-via-then-top-lt-ROW_TRAY w ↦ inl w.if-top-lt-ROW_TRAY.true
      | then-top-lt-ROW_TRAY-via-else-top-lt-ROW_TRAY+then-bot-lt-ROW_TRAY w ↦ inr w.if-bot-lt-ROW_TRAY.true
    ]
    )

pub returns-in_err-first : goal.returns-in_err-first
returns-in_err-first c =
    rw (handed-on _ c.from_residual.ensures.1)
    (join-lists _ _ _ _ (c.if-top-lt-ROW_TRAY.false, c.if-bot-lt-ROW_TRAY.false)
    (one-refused _ _ (err→checked _ c.in_err-first.ensures)))

pub returns-in_err-second : goal.returns-in_err-second
returns-in_err-second c =
    rw (handed-on _ c.from_residual-in_err-second.ensures.1)
    (join-lists _ _ _ _ (c.if-top-lt-ROW_TRAY.false, c.if-bot-lt-ROW_TRAY.false)
    (err→checked _ c.in_err-second.ensures ∙ one-accepted _ _ (ok→checked _ c.in_ok-first.ensures)))

pub returns : goal.returns
returns c =
    join-checked _ _ _ _ (c.if-top-lt-ROW_TRAY.false, c.if-bot-lt-ROW_TRAY.false)
    (ok→checked _ c.in_ok-second.ensures ∙ one-accepted _ _ (ok→checked _ c.in_ok-first.ensures))
    (rw (ok→same _ c.in_ok-first.ensures, ok→same _ c.in_ok-second.ensures) at c.join_checked.ensures)
