-- `cabjirt_bounds` meets its contract: in both cases the number is that of what `bounds` answers.
use Rattle.std.proofs.Common.{◌≡◌, rules, sym, ◌∙◌}
use Rattle.std.specs.Prelude.{◌+◌, ◌*◌}
use Rattle.refusal.specs.Refusals.{told_refusal, told}
use Rattle.screen_api.specs.Numbers.{entry_number}
use Rattle.screen_api.proofs.NumberLaws.{each-answer}
use Rattle.screen_api.proofs.CodeLaws.{bounds-entry, bounds-given}
use Rattle.screen_api.proofs.cabjirt_bounds.Goals as goal

pub returns : goal.returns
unfolding told
returns c =
    each-answer _ c.map_or_else.ensures
    (λ v is p. let same : c.map_or_else.result ≡ v.density * 65536 + v.chain = search rules in rw same (bounds-given _ (sym c.bounds.ensures ∙ is)))
    (λ q is p. let same : c.map_or_else.result ≡ entry_number (told_refusal q) = search rules in bounds-entry _ (rw (sym c.bounds.ensures ∙ is) same))
