-- A short ring buffer is refused first (`short-held`), then rows that are not accepted (`rows-held`), and else the pairs
-- or none are answered (`found-held`), by the two equations (`fewest-done`).
use Rattle.refusal.specs.ChainLaws.{handed-on}
use Rattle.channel.specs.Channel.{rows}
use Rattle.channel.proofs.BoundLaws.{err→checked, ok→checked, ok→same}
use Rattle.rings.proofs.AnswerLaws.{short-held, rows-held, found-held, fewest-done}
use Rattle.rings.proofs.fewest_ring.Goals as goal

pub returns-then-ring-lt-RING_TRAY : goal.returns-then-ring-lt-RING_TRAY
returns-then-ring-lt-RING_TRAY c = fewest-done _ _ (short-held _ _ c.if-ring-lt-RING_TRAY.true)

pub returns-in_err-rows : goal.returns-in_err-rows
returns-in_err-rows c =
    let ch = rows c.args.top.now c.args.bot.now in
    rw (handed-on _ c.from_residual.ensures.1) (fewest-done ch c.args.ring.now
    (rows-held ch c.args.ring.now c.if-ring-lt-RING_TRAY.false _ (err→checked ch c.in_err-rows.ensures)))

pub returns : goal.returns
returns c =
    let ch = rows c.args.top.now c.args.bot.now in
    let f = rw (ok→same ch c.in_ok-rows.ensures) at c.fewest_of.ensures in
    fewest-done ch c.args.ring.now
    (found-held ch c.args.ring.now c.if-ring-lt-RING_TRAY.false (ok→checked ch c.in_ok-rows.ensures) f.0 f.1)
