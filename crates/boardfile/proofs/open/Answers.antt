-- `open` meets its contract: each return is the answer that the law of its way through the tests names, in the order of
-- the refusals.
use mathlib.Core.Path.{sym, ap, ◌∙◌}
use mathlib.Core.Logic.{inl, inr}
use Rattle.boardfile.specs.Open.{header_of}
use Rattle.boardfile.specs.CodeLaws.{open-short, open-torn, open-header, open-piece, open-whole}
use Rattle.boardfile.proofs.open.Goals.{then-width-lt1-via-then-width-lt1, then-width-lt1-via-else-width-lt1+then-width-gt-WIDEST, then-width-lt1-via-else-width-lt1+else-width-gt-WIDEST+then-spare-eq1}
use Rattle.boardfile.proofs.open.Goals as goal

pub returns-then-board-lt4 : goal.returns-then-board-lt4
returns-then-board-lt4 c = sym (open-short c.args.board.now c.if-board-lt4.true)

pub returns-then-board-due : goal.returns-then-board-due
returns-then-board-due c =
    sym (open-torn c.args.board.now c.header_of-width.result (c.header_of-width.ensures ∙ ap header_of c.word_at.ensures) c.if-board-lt4.false c.if-board-due.true)

pub returns-then-width-lt1 : goal.returns-then-width-lt1
returns-then-width-lt1 c =
    sym (open-header c.args.board.now c.header_of-width.result (c.header_of-width.ensures ∙ ap header_of c.word_at.ensures) c.if-board-due.false
    (elim c.then-width-lt1.branch [
      | then-width-lt1-via-then-width-lt1 w ↦ inl w.if-width-lt1.true
      | then-width-lt1-via-else-width-lt1+then-width-gt-WIDEST w ↦ inr (inl w.if-width-gt-WIDEST.true)
      | then-width-lt1-via-else-width-lt1+else-width-gt-WIDEST+then-spare-eq1 w ↦ inr (inr w.if-spare-eq1.true)
    ]))

pub returns-in-Some : goal.returns-in-Some
returns-in-Some c =
    sym (open-piece c.args.board.now c.header_of-width.result (c.header_of-width.ensures ∙ ap header_of c.word_at.ensures) c.if-board-due.false c.if-width-lt1.false
    c.if-width-gt-WIDEST.false c.if-spare-eq1.false c.in-Some.ensures)

pub returns : goal.returns
returns c =
    sym (open-whole c.args.board.now c.header_of-width.result (c.header_of-width.ensures ∙ ap header_of c.word_at.ensures) c.if-board-due.false c.if-width-lt1.false
    c.if-width-gt-WIDEST.false c.if-spare-eq1.false c.in_default.ensures)
