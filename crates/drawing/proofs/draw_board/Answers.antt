use Prim.Native.Nat.{◌≤◌}
use native.Mathlib.Omega.{arith}
use Rattle.std.proofs.Common.{rules}
use Rattle.drawing.specs.Code.{column_in}
use mathlib.Core.Path.{◌≡◌, refl, ◌∙◌, sym}
use Rattle.grid.specs.Numbers.{column_numbers, column-at, track-at}
use Rattle.channel.specs.Channel.{highest_net}
use Rattle.channel.specs.Spans.{spans}
use Rattle.channel.proofs.SpanningLaws.{highest-of}
use Rattle.drawing.specs.Putting.{put-length, next-put, next-passed}
use Rattle.drawing.proofs.CodeLaws.{spans→net, spans→none, spans→stands}
use Rattle.drawing.proofs.CodeLaws.{drawing-begun, net-room, drawing-ended, drawing-done}
use Rattle.drawing.proofs.draw_board.Goals as goal
use Rattle.drawing.proofs.draw_board.Goals.{then-begin-ne0, else-begin-ne0}

pub loop-n-init : goal.loop-n-init
loop-n-init c = (refl, drawing-begun _ _ _ c.requires.0)

pub draw_net-requires : goal.draw_net-requires
draw_net-requires c =
    let high = rw c.rows.view_is at (highest-of _ c.rows.invariant _ _ c.highest_number-upper.ensures c.highest_number-highest.ensures) in
    let low : c.loop-n.n ≤ highest_net = omega (arith, c.loop-n-test.true, high.low) in
    let pre = c.requires in
    let inv = c.loop-n.invariant.1 in
    let esc = pre.0.tracked.escapes in
    let begins = column-at c.args.first.now c.loop-n.n in
    let first : column_in (column_numbers c.args.first.now) c.loop-n.n ≡ 0 → ⊥ = λ z. c.if-begin-ne0.true (sym begins ∙ z) in
    let net = spans→net _ esc _ pre.1 _ low first in (
      pre.0.tracked.few,
      rw (← begins, ← column-at c.args.last.now c.loop-n.n) (spans→stands _ esc _ pre.1 _ low (omega arith) first),
      rw (← track-at c.args.tracks.now c.loop-n.n) (net-room _ _ _ pre.0 _ inv (omega arith) low net),
    )

pub loop-n-preserved : goal.loop-n-preserved
loop-n-preserved c =
    let high = rw c.rows.view_is at (highest-of _ c.rows.invariant _ _ c.highest_number-upper.ensures c.highest_number-highest.ensures) in
    let low : c.loop-n.n ≤ highest_net = omega (arith, c.loop-n-test.true, high.low) in
    let pre = c.requires in
    let inv = c.loop-n.invariant.1 in
    let esc = pre.0.tracked.escapes in
    let begins = column-at c.args.first.now c.loop-n.n in
    let net = spans→net _ esc (spans (column_numbers c.args.first.now) (column_numbers c.args.last.now)) pre.1 c.loop-n.n low in
    let none = spans→none _ esc (spans (column_numbers c.args.first.now) (column_numbers c.args.last.now)) pre.1 c.loop-n.n low in
    elim c.if-begin-ne0.branch [
      | then-begin-ne0 w ↦ rw w.pen-is (w.draw_net.ensures.same_board ∙ c.loop-n.invariant.0, next-put _ _ _ (omega arith) inv (net (λ z. w.if-begin-ne0.true (sym begins ∙ z))) (rw (← track-at c.args.tracks.now c.loop-n.n) at w.draw_net.ensures.drawn))
      | else-begin-ne0 w ↦ rw w.pen-is (c.loop-n.invariant.0, next-passed _ _ _ (omega arith) inv (none (begins ∙ w.if-begin-ne0.false)))
    ]

pub put_header-requires : goal.put_header-requires
put_header-requires c =
    let high = rw c.rows.view_is at (highest-of _ c.rows.invariant _ _ c.highest_number-upper.ensures c.highest_number-highest.ensures) in
    let ended = drawing-ended _ _ _ c.requires.0 _ c.loop-n.invariant.1 high (omega arith) in
    let pre = c.requires in
    let narrow = pre.0.tracked.escapes.narrow in
    let low = pre.0.tracked.few in
    let few = pre.0.few in
    let long = pre.0.long in
    let count = ended.counted in
    (omega (arith, put-length ended), omega arith, omega arith, omega arith)

pub shape_of-board : goal.shape_of-board
shape_of-board c =
    let name = c.loop-n.invariant.0 in search rules

pub returns : goal.returns
returns c =
    let high = rw c.rows.view_is at (highest-of _ c.rows.invariant _ _ c.highest_number-upper.ensures c.highest_number-highest.ensures) in
    let ended = drawing-ended _ _ _ c.requires.0 _ c.loop-n.invariant.1 high (omega arith) in
    rw (← c.rows.view_is)
    (drawing-done _ _ _ (rw (← c.rows.view_is) at c.requires.0) (rw (← c.rows.view_is) at ended) (let e = c.put_header.ensures in let name = c.loop-n.invariant.0 in search rules))

pub bounds-first-i : goal.bounds-first-i
bounds-first-i c =
    let high = rw c.rows.view_is at (highest-of _ c.rows.invariant _ _ c.highest_number-upper.ensures c.highest_number-highest.ensures) in
    omega (arith, high.low)

pub overflow_add-n-end : goal.overflow_add-n-end
overflow_add-n-end c =
    let high = rw c.rows.view_is at (highest-of _ c.rows.invariant _ _ c.highest_number-upper.ensures c.highest_number-highest.ensures) in
    omega (arith, high.low)
