use Rattle.std.proofs.Common.{◌∙◌, ◌%◌, sym, arith, refl}
use Rattle.std.proofs.lemmas.List.{take-append-drop}
use Rattle.lists.specs.Tests.{true→T, within→}
use Rattle.refusal.specs.Trays.{draft_tray}
use Rattle.channel.specs.Channel.{highest_net, widest}
use Rattle.draft.specs.Marks.{without_mark}
use Rattle.draft.specs.AnswerLaws.{none-handed, leave-short, leave-bad, leave-absent, leave-silent}
use Rattle.draft.specs.CodeLaws.{nothing_left}
use Rattle.draft.specs.FrontLaws.{front-here, front-changed}
use Rattle.draft.specs.DoneLaws.{leave-refused, leave-done}
use Rattle.draft.proofs.leave.Goals as goal

pub returns-in_err-words : goal.returns-in_err-words
returns-in_err-words c =
    let short = rw c.in_err-words.ensures.ok_part at c.first_chunk_mut.ensures.cases in
    rw (none-handed _ _ c.from_residual.ensures.1 c.in_err-words.ensures.value)
    (leave-refused _ _ (leave-short _ _ short) refl)

pub returns-then-not-is_number : goal.returns-then-not-is_number
returns-then-not-is_number c =
    let words = c.args.words.now in
    let front = rw c.in_ok-words.ensures.ok_part at c.first_chunk_mut.ensures.cases in
    rw (front.same, take-append-drop draft_tray words)
    (leave-refused _ _ (leave-bad _ _ front.enough (sym c.if-not-is_number.ensures)) refl)

pub take_out-requires : goal.take_out-requires
take_out-requires c = (within→ 1 c.args.net.0 highest_net (true→T _ (sym c.if-not-is_number.ensures))).1

pub returns-then-not-take_out : goal.returns-then-not-take_out
returns-then-not-take_out c =
    let words = c.args.words.now in
    let n = c.args.net.0 in
    let front = rw c.in_ok-words.ensures.ok_part at c.first_chunk_mut.ensures.cases in
    let good = sym c.if-not-is_number.ensures in
    let high = (within→ 1 n highest_net (true→T _ good)).1 in
    let out = rw front.same at c.if-not-take_out.ensures in
    let absent = rw (front-here words n high) at out.0 in
    leave-refused _ _ (leave-absent _ _ front.enough good (sym absent))
    (rw out.1 (front-changed words front.enough (without_mark (n % 64)) n 1 widest (omega arith)) ∙ nothing_left n words high (sym absent))

pub returns : goal.returns
returns c =
    let words = c.args.words.now in
    let n = c.args.net.0 in
    let front = rw c.in_ok-words.ensures.ok_part at c.first_chunk_mut.ensures.cases in
    let good = sym c.if-not-is_number.ensures in
    let high = (within→ 1 n highest_net (true→T _ good)).1 in
    let out = rw front.same at c.if-not-take_out.ensures in
    let here = rw (front-here words n high) at out.0 in
    leave-done _ _ (leave-silent _ _ front.enough good (sym here))
    (rw out.1 (front-changed words front.enough (without_mark (n % 64)) n 1 widest (omega arith)))
