-- `router::route_by_value` meets its contract. A buffer that is too short and rows that the check refuses leave what is
-- lent as it was (`refused-held`, `rows-held`); rows that it accepts escape the refusals, which is what `route_checked`
-- asks. Assumes nothing.
use native.Mathlib.Omega.{arith}
use Rattle.channel.specs.Channel.{rows}
use Rattle.channel.proofs.BoundLaws.{err→checked, ok→same}
use Rattle.router.proofs.HeldLaws.{refused-held, short-ring, short-board}
use Rattle.router.proofs.Outcomes.{rows-held}
use Rattle.router.proofs.route_by_value.Goals as goal

pub returns-then-ring-lt-RING_TRAY : goal.returns-then-ring-lt-RING_TRAY
returns-then-ring-lt-RING_TRAY c =
    let ch = rows c.args.top.now c.args.bot.now in
    let short = short-ring ch c.args.ring.now c.args.board.now c.if-ring-lt-RING_TRAY.true in
    refused-held _ ch c.args.ring.now c.args.board.now short (λ seven. omega arith) c.refused.ensures

pub returns-then-board-lt-BOARD_TRAY : goal.returns-then-board-lt-BOARD_TRAY
returns-then-board-lt-BOARD_TRAY c =
    let ch = rows c.args.top.now c.args.bot.now in
    let short = short-board ch c.args.ring.now c.args.board.now c.if-ring-lt-RING_TRAY.false
    c.if-board-lt-BOARD_TRAY.true in
    refused-held _ ch c.args.ring.now c.args.board.now short (λ seven. omega arith) c.refused-then-board-lt-BOARD_TRAY.ensures

pub returns-in-Err : goal.returns-in-Err
returns-in-Err c =
    rows-held _ _ _ c.if-ring-lt-RING_TRAY.false c.if-board-lt-BOARD_TRAY.false (err→checked _ c.in-Err.ensures) c.refused-in-Err.ensures

pub returns-in-Ok : goal.returns-in-Ok
returns-in-Ok c = rw (ok→same _ c.in-Ok.ensures) at c.route_checked.ensures
