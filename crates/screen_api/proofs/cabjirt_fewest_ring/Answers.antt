-- `cabjirt_fewest_ring` meets its contract: in each case the number is that of what `fewest_ring` answers, and the ring
-- is as `fewest_ring` left it.
use Rattle.std.proofs.Common.{◌≡◌, rules}
use Rattle.refusal.specs.Refusals.{told_refusal, told}
use Rattle.screen_api.specs.Numbers.{entry_number}
use Rattle.screen_api.proofs.NumberLaws.{each-answer}
use Rattle.std.specs.Prelude.{unwrap_or}
use Rattle.screen_api.proofs.CodeLaws.{fewest-entry, fewest-pairs}
use Rattle.screen_api.proofs.cabjirt_fewest_ring.Goals as goal

pub returns : goal.returns
unfolding told
returns c =
    each-answer _ c.map_or_else.ensures
    (λ v is p. let same : c.map_or_else.result ≡ unwrap_or v 0 = search rules in rw same (fewest-pairs c.fewest_ring.ensures is))
    (λ q is p. let same : c.map_or_else.result ≡ entry_number (told_refusal q) = search rules in fewest-entry c.fewest_ring.ensures (rw is same))
