-- `cabjirt_draft_arrive` meets its contract: the number is that of what `arrive` answers, and the words are as it left
-- them.
use Rattle.std.proofs.Common.{◌≡◌, rules, ◌∙◌, arith}
use Rattle.refusal.specs.Refusals.{told_refusal, told}
use Rattle.screen_api.specs.Numbers.{entry_number}
use Rattle.screen_api.proofs.NumberLaws.{each-answer}
use Rattle.screen_api.proofs.DraftLaws.{arrive-entry, done-number}
use Rattle.screen_api.proofs.cabjirt_draft_arrive.Goals as goal

pub returns : goal.returns
unfolding told
returns c =
    each-answer _ c.map_or_else.ensures
    (λ v is p. let same : c.map_or_else.result ≡ 0 = search rules in arrive-entry (same ∙ done-number is) (omega arith) c.arrive.ensures)
    (λ q is p. let same : c.map_or_else.result ≡ entry_number (told_refusal q) = search rules in arrive-entry (rw is same) (omega arith) c.arrive.ensures)
