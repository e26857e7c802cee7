-- `cabjirt_route` meets its contract: in both cases the number is that of what `route_rows` answers, and the buffers
-- are as it left them.
use Rattle.std.proofs.Common.{◌≡◌, rules}
use Rattle.refusal.specs.Refusals.{told_refusal, told}
use Rattle.screen_api.specs.Numbers.{entry_number}
use Rattle.screen_api.proofs.NumberLaws.{each-answer}
use Rattle.std.specs.Prelude.{◌+◌, ◌*◌}
use Rattle.screen_api.proofs.CodeLaws.{route-entry, route-routed}
use Rattle.screen_api.proofs.cabjirt_route.Goals as goal

pub returns : goal.returns
unfolding told
returns c =
    each-answer _ c.map_or_else.ensures
    (λ v is p. let same : c.map_or_else.result ≡ v.pieces * 65536 + v.tracks = search rules in rw same (route-routed c.route_rows.ensures is))
    (λ q is p. let same : c.map_or_else.result ≡ entry_number (told_refusal q) = search rules in route-entry c.route_rows.ensures (rw is same))
