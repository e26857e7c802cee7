-- `cabjirt_read` meets its contract: in both cases the number is that of what `read` answers, and the rows are as
-- `read` left them.
use Rattle.std.proofs.Common.{◌≡◌, rules}
use Rattle.refusal.specs.Refusals.{told_refusal, told}
use Rattle.screen_api.specs.Numbers.{entry_number}
use Rattle.screen_api.proofs.NumberLaws.{each-answer}
use Rattle.screen_api.proofs.CodeLaws.{read-entry, read-width}
use Rattle.screen_api.proofs.cabjirt_read.Goals as goal

pub returns : goal.returns
unfolding told
returns c =
    each-answer _ c.map_or_else.ensures
    (λ v is p. let same : c.map_or_else.result ≡ v = search rules in rw same (read-width c.read.ensures is))
    (λ q is p. let same : c.map_or_else.result ≡ entry_number (told_refusal q) = search rules in read-entry c.read.ensures (rw is same))
