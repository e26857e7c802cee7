-- Each return is a law of ReadLaws about the test that led there; the rows are written after the last of them.
use mathlib.Core.Logic.{inl, inr, ⊎_elim}
use Rattle.refusal.specs.ChainLaws.{handed-on}
use Rattle.pinlist.proofs.ReadLaws.{BothRows, parsed-garbled, parsed-rows, short-rows, text-garbled, rows-wide, check-refuses, check-accepts}
use Rattle.pinlist.proofs.read.Goals as goal
use Rattle.pinlist.proofs.read.Goals.{In_ok-a}

-- the rows that were parsed
both : (c : In_ok-a) → BothRows c.args.text.now c.parse.new.top c.parse.new.bot c.in_ok-a.a c.in_ok-a.b
both c = parsed-rows _ _ _ _ _ c.in_ok-a.ensures

pub returns-then-top-lt-ROW_TRAY : goal.returns-then-top-lt-ROW_TRAY
returns-then-top-lt-ROW_TRAY c = short-rows _ _ _ (⊎_elim inl (λ w. inr w.1) c.then-top-lt-ROW_TRAY.either)

pub returns-in_err-a : goal.returns-in_err-a
returns-in_err-a c =
    rw (handed-on _ c.from_residual.ensures.1)
    (text-garbled _ _ _ c.if-top-lt-ROW_TRAY.false c.if-bot-lt-ROW_TRAY.false _
    (parsed-garbled _ _ _ _ _ c.in_err-a.ensures))

pub returns-then-a-gt-WIDEST : goal.returns-then-a-gt-WIDEST
returns-then-a-gt-WIDEST c =
    rows-wide _ _ _ c.if-top-lt-ROW_TRAY.false c.if-bot-lt-ROW_TRAY.false
    (both (goal.at.returns-then-a-gt-WIDEST c).In_ok-a) (⊎_elim inl (λ w. inr w.1) c.then-a-gt-WIDEST.either)

pub returns-in_err-check : goal.returns-in_err-check
returns-in_err-check c =
    rw (handed-on _ c.from_residual-in_err-check.ensures.1)
    (check-refuses _ _ _ c.if-top-lt-ROW_TRAY.false c.if-bot-lt-ROW_TRAY.false
    (both (goal.at.returns-in_err-check c).In_ok-a) c.if-a-gt-WIDEST.false c.if-b-gt-WIDEST.false
    c.in_err-check.ensures.answer)

pub returns : goal.returns
returns c =
    check-accepts _ _ _ c.if-top-lt-ROW_TRAY.false c.if-bot-lt-ROW_TRAY.false (both (goal.at.returns c).In_ok-a)
    c.if-a-gt-WIDEST.false c.if-b-gt-WIDEST.false _ _ c.in_ok-check.ensures.answer c.copy_row.ensures c.copy_row-2.ensures
