use Rattle.std.proofs.Common.{◌%◌, sym}
use Rattle.std.proofs.lemmas.List.{take-append-drop}
use Rattle.refusal.specs.Trays.{draft_tray}
use Rattle.draft.specs.Marks.{with_mark}
use Rattle.draft.specs.AnswerLaws.{none-handed, arrive-short, arrive-bad, arrive-here, arrive-silent}
use Rattle.draft.specs.FrontLaws.{front-here, front-changed}
use Rattle.draft.specs.HistoryLaws.{span-fits}
use Rattle.draft.specs.DoneLaws.{arrive-refused, arrive-done}
use Rattle.draft.proofs.arrive.Goals as goal

pub returns-in_err-words : goal.returns-in_err-words
returns-in_err-words c =
    let short = rw c.in_err-words.ensures.ok_part at c.first_chunk_mut.ensures.cases in
    rw (none-handed _ _ c.from_residual.ensures.1 c.in_err-words.ensures.value)
    (arrive-refused _ _ _ _ (arrive-short _ _ _ _ short))

pub returns-in_err-span : goal.returns-in_err-span
returns-in_err-span c =
    let words = c.args.words.now in
    let front = rw c.in_ok-words.ensures.ok_part at c.first_chunk_mut.ensures.cases in
    let bad = rw c.in_err-span.ensures.ok_part at c.new.ensures in
    rw (none-handed _ _ c.from_residual-in_err-span.ensures.1 c.in_err-span.ensures.value, front.same, take-append-drop draft_tray words)
    (arrive-refused _ _ _ _ (arrive-bad _ _ _ _ front.enough bad))

pub is_here-requires : goal.is_here-requires
is_here-requires c =
    let span = rw c.in_ok-span.ensures.ok_part at c.new.ensures in
    let good = rw (span.0, span.1, span.2) at c.in_ok-span.span.good in
    (span-fits c.args.net.0 c.args.first.0 c.args.last.0 good).high

pub returns-then-is_here : goal.returns-then-is_here
returns-then-is_here c =
    let words = c.args.words.now in
    let front = rw c.in_ok-words.ensures.ok_part at c.first_chunk_mut.ensures.cases in
    let span = rw c.in_ok-span.ensures.ok_part at c.new.ensures in
    let good = rw (span.0, span.1, span.2) at c.in_ok-span.span.good in
    let here = rw (front.same, front-here words c.args.net.0 (span-fits c.args.net.0 c.args.first.0 c.args.last.0 good).high) at c.if-is_here.ensures in
    rw (front.same, take-append-drop draft_tray words)
    (arrive-refused _ _ _ _ (arrive-here _ _ _ _ front.enough good (sym here)))

pub returns : goal.returns
returns c =
    let words = c.args.words.now in
    let n = c.args.net.0 in
    let front = rw c.in_ok-words.ensures.ok_part at c.first_chunk_mut.ensures.cases in
    let span = rw c.in_ok-span.ensures.ok_part at c.new.ensures in
    let good = rw (span.0, span.1, span.2) at c.in_ok-span.span.good in
    let here = rw (front.same, front-here words n (span-fits c.args.net.0 c.args.first.0 c.args.last.0 good).high) at c.if-is_here.ensures in
    arrive-done _ _ _ _ (arrive-silent _ _ _ _ front.enough good (sym here))
    (rw (c.mark_span.ensures, span.0, span.1, span.2, front.same)
    (front-changed words front.enough (with_mark (n % 64)) n c.args.first.0 c.args.last.0 (span-fits c.args.net.0 c.args.first.0 c.args.last.0 good).ends))
