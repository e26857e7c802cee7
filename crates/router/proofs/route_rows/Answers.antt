-- `router::route_rows` meets its contract: `rows-done` takes what the callees say to the contract.
use Rattle.std.proofs.Common.{refl}
use Rattle.router.proofs.LentLaws.{rows-done}
use Rattle.router.proofs.route_rows.Goals as goal

pub returns : goal.returns
returns c = rows-done c.blank_records-records.ensures c.route-routed.ensures (refl, refl, refl, refl)
