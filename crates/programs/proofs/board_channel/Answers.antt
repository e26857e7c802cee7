-- The router puts the board file into `out` itself (`routed`); where it refuses it has left `out` as it was, and the
-- lines of a tangled channel are written there (`unrouted`).
use Rattle.std.proofs.Common.{arith}
use Rattle.text.specs.PutLaws.{put_same}
use Rattle.programs.specs.Programs.{board_bytes}
use Rattle.programs.specs.RouteLaws.{unrouted, routed}
use Rattle.programs.proofs.board_channel.Goals as goal

pub put_unrouted-requires : goal.put_unrouted-requires
put_unrouted-requires c =
    let done = rw (c.top.ensures, c.bot.ensures) at c.route_rows-routing.ensures in
    let told = unrouted _ c.args.pins.now.escape (omega arith) (omega (arith, c.requires)) done c.in-Err.is in
    (told.few, omega arith, omega (arith, c.requires))

pub returns-in-Err-clause-put : goal.returns-in-Err-clause-put
returns-in-Err-clause-put c =
    let done = rw (c.top.ensures, c.bot.ensures) at c.route_rows-routing.ensures in
    let told = unrouted _ c.args.pins.now.escape (omega arith) (omega (arith, c.requires)) done c.in-Err.is in
    put_same (rw told.kept at c.put_unrouted.ensures.put) (told.output board_bytes)

pub returns-in-Ok : goal.returns-in-Ok
returns-in-Ok c =
    let done = rw (c.top.ensures, c.bot.ensures) at c.route_rows-routing.ensures in
    let told = routed _ c.args.pins.now.escape (omega arith) (omega (arith, c.requires)) done c.in-Ok.is in
    record { put = told.put; upper_bound = omega (arith, told.few-pieces) }
