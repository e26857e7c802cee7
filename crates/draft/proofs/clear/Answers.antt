use Rattle.std.proofs.Common.{ℕ, ◌≡◌, ◌∙◌, ◌++◌, drop, length, replicate, length-take-le, ap, sym}
use Rattle.refusal.specs.Trays.{draft_tray}
use Rattle.draft.specs.Marks.{zeros}
use Rattle.draft.specs.MarkLaws.{length-zeros}
use Rattle.draft.specs.AnswerLaws.{none-handed}
use Rattle.draft.specs.DoneLaws.{clear-refused, clear-done}
use Rattle.draft.proofs.clear.Goals as goal

pub returns-in_err-words : goal.returns-in_err-words
returns-in_err-words c =
    let short = rw c.in_err-words.ensures.ok_part at c.first_chunk_mut.ensures.cases in
    rw (none-handed _ _ c.from_residual.ensures.1 c.in_err-words.ensures.value)
    (clear-refused _ short)

pub returns : goal.returns
unfolding zeros
returns c =
    let words = c.args.words.now in
    let front = rw c.in_ok-words.ensures.ok_part at c.first_chunk_mut.ensures.cases in
    let long : length c.in_ok-words.words.now ≡ draft_tray = rw front.same (length-take-le draft_tray words front.enough) in
    let filled : c.fill.new.self ≡ replicate 4096 0 = c.fill.ensures.after (λ y k. k) ∙ ap (λ (n : ℕ). replicate n 0) long in
    clear-done words front.enough
    (rw filled (ap (λ (n : ℕ). zeros 4096 ++ drop n words) (sym (length-zeros 4096))))
