use Rattle.std.proofs.Common.{ℕ, ◌∙◌, List, ap}
use Rattle.draft.specs.Marks.{greatest_of}
use Rattle.draft.specs.FrontLaws.{front-greatest}
use Rattle.draft.specs.AnswerLaws.{none-handed}
use Rattle.draft.specs.DoneLaws.{greatest-refused, greatest-done}
use Rattle.draft.proofs.greatest.Goals as goal

pub returns-in_err-words : goal.returns-in_err-words
returns-in_err-words c =
    let short = rw c.in_err-words.ensures.ok_part at c.first_chunk.ensures.cases in
    rw (none-handed _ _ c.from_residual.ensures.1 c.in_err-words.ensures.value)
    (greatest-refused _ short)

pub returns : goal.returns
returns c =
    let words = c.args.words.now in
    let front = rw c.in_ok-words.ensures.ok_part at c.first_chunk.ensures.cases in
    let most = c.greatest_of.ensures in
    greatest-done words front.enough
    (most.0 ∙ (ap (λ (ws : List ℕ). greatest_of ws) front.same ∙ front-greatest words)) most.1
