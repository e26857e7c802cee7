-- `router::route_with_room` meets its contract: a table that is too short is refused first, and one that is long enough
-- changes nothing in the chain (`widened`). Assumes nothing.
use native.Mathlib.Omega.{arith}
use lib.ListN.{length}
use Rattle.channel.specs.Channel.{rows}
use Rattle.router.proofs.HeldLaws.{refused-held}
use Rattle.router.proofs.LentLaws.{short-table, widened}
use Rattle.router.proofs.route_with_room.Goals as goal

pub returns-then-room-lt-RECORD_TRAY : goal.returns-then-room-lt-RECORD_TRAY
returns-then-room-lt-RECORD_TRAY c =
    let ring = c.args.ring.now in
    let board = c.args.board.now in
    let ch = rows c.args.top.now c.args.bot.now in
    let short = short-table ch c.args.room (length ring) (length board) c.if-room-lt-RECORD_TRAY.true in
    refused-held _ ch ring board short (λ seven. omega arith) c.refused.ensures

pub returns : goal.returns
returns c =
    widened _ c.args.room _ _ c.if-room-lt-RECORD_TRAY.false c.route_by_value.ensures
