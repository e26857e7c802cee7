use Prim.Native.Nat.{ℕ, ◌+◌, ◌<◌}
use native.Mathlib.Omega.{arith}
use mathlib.Core.Path.{◌≡◌, subst}
use lib.ListN.{get_or}
use Rattle.channel.specs.Channel.{width}
use Rattle.classes.specs.Halves.{half, low_small}
use Rattle.judge.proofs.SearchLaws.{FirstsKnown, firsts-skip, no-open}
use Rattle.judge.specs.FaultSteps.{marks_in}
use Rattle.judge.proofs.FaultStepsLaws.{mark-at, firsts-next, firsts-refused, net-low}
use Rattle.judge.proofs.faults.first_open.Goals.{else-net-ne0-via-then-net-ne0+else-not-claim, else-net-ne0-via-else-net-ne0}
use Rattle.judge.proofs.faults.first_open.Goals as goal

pub overflow_add-low : goal.overflow_add-low
overflow_add-low c = let small : c.low.result < half = rw c.low.ensures (low_small _) in omega arith

pub claim-requires : goal.claim-requires
claim-requires c =
    let low = net-low c.args.case.now.channel c.width-width.ensures.known.escapes c.loop-i.i in
    omega (arith, c.requires.1.places, c.net_at-net.ensures)

pub returns-then-not-claim : goal.returns-then-not-claim
returns-then-not-claim c =
    let turn = c.loop-i in
    let s = c.args.scratch.now in
    let w = c.width-width.ensures.value in
    let long = c.requires.0.long in
    let e = mark-at s turn.i (omega arith) in
    firsts-refused c.args.case.now.channel (marks_in s) turn.i turn.invariant (omega arith)
    (omega (arith, c.net_at-net.ensures))
    (rw (c.low.ensures, ← e, c.net_at-net.ensures) at c.claim.ensures) c.if-not-claim.true

pub loop-i-preserved : goal.loop-i-preserved
loop-i-preserved c =
    let turn = c.loop-i in
    let ready = c.requires.0 in
    let ch = c.args.case.now.channel in
    let s = c.args.scratch.now in
    let k = c.width-width.ensures in
    let low = net-low ch k.known.escapes turn.i in
    let long = ready.long in
    let e = mark-at s turn.i (omega arith) in
    let marked : (q : ℕ) → q < width ch + width ch
    → 0 < get_or (marks_in s) q 0 = λ q l. let m = mark-at s q (omega arith) in omega arith in
    elim c.else-net-ne0.branch [
      | else-net-ne0-via-then-net-ne0+else-not-claim w ↦ rw w.firsts-is (
          firsts-next ch (marks_in s) turn.i turn.invariant (omega arith)
          (omega (arith, c.net_at-net.ensures, w.if-net-ne0.true)) k.known.escapes marked (omega arith)
          (rw (w.low.ensures, ← e, c.net_at-net.ensures) at w.claim.ensures) w.if-not-claim.false)
      | else-net-ne0-via-else-net-ne0 w ↦ rw w.firsts-is (
          firsts-skip ch (marks_in s) turn.firsts turn.i turn.invariant
          (omega (arith, c.net_at-net.ensures, w.if-net-ne0.false)))
    ]

pub returns : goal.returns
returns c =
    let ch = c.args.case.now.channel in
    let ms = marks_in c.args.scratch.now in
    let w = c.width-width.ensures.value in
    let end : c.loop-i.i ≡ width ch + width ch = omega arith in
    no-open ch ms c.loop-i.firsts (subst (FirstsKnown ch ms c.loop-i.firsts) end c.loop-i.invariant)
