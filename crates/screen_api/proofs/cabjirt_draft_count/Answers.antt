-- `cabjirt_draft_count` meets its contract: the number is that of what `count` answers.
use Rattle.std.proofs.Common.{◌≡◌, rules, ◌∙◌}
use Rattle.refusal.specs.Refusals.{told_refusal, told}
use Rattle.screen_api.specs.Numbers.{entry_number}
use Rattle.screen_api.proofs.NumberLaws.{each-answer}
use Rattle.screen_api.proofs.DraftLaws.{count-entry, count-number}
use Rattle.screen_api.proofs.cabjirt_draft_count.Goals as goal

pub returns : goal.returns
unfolding told
returns c =
    each-answer _ c.map_or_else.ensures
    (λ v is p. let same : c.map_or_else.result ≡ v = search rules in count-entry (same ∙ count-number c.count.ensures.few is) c.count.ensures)
    (λ q is p. let same : c.map_or_else.result ≡ entry_number (told_refusal q) = search rules in count-entry (rw is same) c.count.ensures)
