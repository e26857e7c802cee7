-- `cabjirt_looks` meets its contract: in both cases the number is that of what `looks` answers.
use Rattle.std.proofs.Common.{◌≡◌, rules, sym, ◌∙◌}
use Rattle.refusal.specs.Refusals.{told_refusal, told}
use Rattle.screen_api.specs.Numbers.{entry_number}
use Rattle.screen_api.proofs.NumberLaws.{each-answer}
use Rattle.screen_api.proofs.CodeLaws.{looks-entry, looks-given}
use Rattle.screen_api.proofs.cabjirt_looks.Goals as goal

pub returns : goal.returns
unfolding told
returns c =
    each-answer _ c.map_or_else.ensures
    (λ v is p. let same : c.map_or_else.result ≡ v = search rules in rw same (looks-given _ (sym c.looks.ensures ∙ is)))
    (λ q is p. let same : c.map_or_else.result ≡ entry_number (told_refusal q) = search rules in looks-entry _ (rw (sym c.looks.ensures ∙ is) same))
