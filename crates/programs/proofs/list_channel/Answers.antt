-- The router's refusal is the lines of a tangled channel (`unrouted`), and its answer makes the listing (`routed`).
use Rattle.std.proofs.Common.{arith}
use Rattle.text.specs.PutLaws.{put_same}
use Rattle.programs.specs.Programs.{listing}
use Rattle.programs.specs.RouteLaws.{unrouted, routed}
use Rattle.programs.proofs.list_channel.Goals as goal

pub put_routed-requires : goal.put_routed-requires
put_routed-requires c =
    let done = rw (c.top.ensures, c.bot.ensures) at c.route_rows-routing.ensures in
    let told = routed _ c.args.pins.now.escape (omega arith) (omega arith) done c.in-Ok.is in
    (told.few-tracks, told.few-records, c.requires)

pub put_unrouted-requires : goal.put_unrouted-requires
put_unrouted-requires c =
    let done = rw (c.top.ensures, c.bot.ensures) at c.route_rows-routing.ensures in
    let told = unrouted _ c.args.pins.now.escape (omega arith) (omega arith) done c.in-Err.is in
    (told.few, omega arith, c.requires)

pub returns-in-Ok-clause-put : goal.returns-in-Ok-clause-put
returns-in-Ok-clause-put c =
    let done = rw (c.top.ensures, c.bot.ensures) at c.route_rows-routing.ensures in
    let told = routed _ c.args.pins.now.escape (omega arith) (omega arith) done c.in-Ok.is in
    put_same c.put_routed.ensures.put told.listed

pub returns-in-Err-clause-put : goal.returns-in-Err-clause-put
returns-in-Err-clause-put c =
    let done = rw (c.top.ensures, c.bot.ensures) at c.route_rows-routing.ensures in
    let told = unrouted _ c.args.pins.now.escape (omega arith) (omega arith) done c.in-Err.is in
    put_same c.put_unrouted.ensures.put (told.output listing)
