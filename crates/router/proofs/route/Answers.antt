-- `router::route` meets its contract: what is held is within both tables (`held_fits`), and the contract follows by
-- `lent-done`.
use native.Mathlib.Omega.{arith}
use Rattle.std.proofs.Common.{refl, length-take}
use Rattle.router.proofs.LentLaws.{held_fits, lent-done}
use Rattle.router.proofs.route.Goals as goal

pub shared_ref_as_front-store_records : goal.shared_ref_as_front-store_records
shared_ref_as_front-store_records c = (held_fits c.route_with_room-routing.ensures).0

pub store_records-requires : goal.store_records-requires
store_records-requires c =
    let fits = held_fits c.route_with_room-routing.ensures in
    let cut = length-take c.route_with_room-routing.result.count c.route_with_room-routing.result.records in
    omega arith

pub returns : goal.returns
returns c = lent-done c.route_with_room-routing.ensures c.store_records.ensures (refl, refl, refl)
