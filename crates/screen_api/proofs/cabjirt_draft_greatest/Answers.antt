-- `cabjirt_draft_greatest` meets its contract: the number is that of what `greatest` answers.
use Rattle.std.proofs.Common.{◌≡◌, rules, ◌∙◌}
use Rattle.refusal.specs.Refusals.{told_refusal, told}
use Rattle.screen_api.specs.Numbers.{entry_number}
use Rattle.screen_api.proofs.NumberLaws.{each-answer}
use Rattle.screen_api.proofs.DraftLaws.{greatest-entry, count-number}
use Rattle.screen_api.proofs.cabjirt_draft_greatest.Goals as goal

pub returns : goal.returns
unfolding told
returns c =
    each-answer _ c.map_or_else.ensures
    (λ v is p. let same : c.map_or_else.result ≡ v = search rules in greatest-entry (same ∙ count-number c.greatest.ensures.few is) c.greatest.ensures)
    (λ q is p. let same : c.map_or_else.result ≡ entry_number (told_refusal q) = search rules in greatest-entry (rw is same) c.greatest.ensures)
