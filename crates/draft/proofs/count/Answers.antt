use Rattle.std.proofs.Common.{ℕ, ◌∙◌, List, ap, sym, arith}
use Rattle.lists.specs.Tests.{true→T, false→fails, within→}
use Rattle.channel.specs.Channel.{widest}
use Rattle.draft.specs.Marks.{marks_of, column_words}
use Rattle.draft.specs.CountLaws.{count-inside, count-outside}
use Rattle.draft.specs.FrontLaws.{front-marks}
use Rattle.draft.specs.AnswerLaws.{none-handed}
use Rattle.draft.specs.DoneLaws.{count-refused, count-done}
use Rattle.draft.proofs.count.Goals as goal

pub returns-in_err-words : goal.returns-in_err-words
returns-in_err-words c =
    let short = rw c.in_err-words.ensures.ok_part at c.first_chunk.ensures.cases in
    rw (none-handed _ _ c.from_residual.ensures.1 c.in_err-words.ensures.value)
    (count-refused _ _ short)

pub marks_of-requires : goal.marks_of-requires
marks_of-requires c = within→ 1 _ widest (true→T _ c.if-c.true)

pub returns-then-c : goal.returns-then-c
returns-then-c c =
    let words = c.args.words.now in
    let front = rw c.in_ok-words.ensures.ok_part at c.first_chunk.ensures.cases in
    let inside = within→ 1 c.args.c.0 widest (true→T _ c.if-c.true) in
    let k = c.marks_of.ensures in
    count-done _ _ front.enough (λ i below. omega (arith, c.type_inv.words i))
    (k.0 ∙ (ap (λ (ws : List ℕ). marks_of (column_words ws c.args.c.0)) front.same
    ∙ (ap marks_of (front-marks words c.args.c.0 inside) ∙ sym (count-inside words c.args.c.0 inside)))) k.1

pub returns-else-c : goal.returns-else-c
returns-else-c c =
    let front = rw c.in_ok-words.ensures.ok_part at c.first_chunk.ensures.cases in
    count-done _ _ front.enough (λ i below. omega (arith, c.type_inv.words i))
    (sym (count-outside _ _ (false→fails _ c.if-c.false))) (omega arith)
