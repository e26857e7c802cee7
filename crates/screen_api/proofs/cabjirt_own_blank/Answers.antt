-- `cabjirt_own_blank` meets its contract: in both cases the number is that of what `own_blank` answers.
use Rattle.std.proofs.Common.{◌≡◌, ◌<◌, rules, arith}
use Rattle.refusal.specs.Refusals.{told_refusal, told}
use Rattle.screen_api.specs.Numbers.{entry_number}
use Rattle.screen_api.proofs.NumberLaws.{each-answer}
use Rattle.screen_api.proofs.CodeLaws.{own-entry, own_held}
use Rattle.screen_api.proofs.cabjirt_own_blank.Goals as goal

pub returns : goal.returns
unfolding told
returns c =
    let fits : c.args.tracks < 4294967296 = omega arith in
    each-answer _ c.map_or_else.ensures
    (λ v is p. let same : c.map_or_else.result ≡ v = search rules in rw same (own_held c.own_blank.ensures fits is))
    (λ q is p. let same : c.map_or_else.result ≡ entry_number (told_refusal q) = search rules in own-entry c.own_blank.ensures fits (rw is same))
