use native.Mathlib.Omega.{arith}
use mathlib.Core.Path.{refl}
use Rattle.judge.proofs.EnterSteps.{entering-none, entering-place, entering-ready, entering-next}
use Rattle.judge.proofs.lines.enter_line.Goals as goal

pub loop-after-init : goal.loop-after-init
loop-after-init g c = entering-none c.requires refl

pub range_of-r-requires : goal.range_of-r-requires
range_of-r-requires g c =
    entering-place c.requires c.loop-after.invariant (omega arith)

pub enter-requires : goal.enter-requires
enter-requires g c =
    let some = c.loop-after-test.true in
    entering-ready c.requires c.loop-after.invariant (omega arith) c.range_of-r.ensures

pub loop-after-smaller : goal.loop-after-smaller
loop-after-smaller g c =
    let some = c.loop-after-test.true in
    let range = c.range_of-r in
    (entering-next c.requires c.loop-after.invariant (omega arith) range.ensures
    c.enter.ensures c.next-after.ensures).less

pub loop-after-preserved : goal.loop-after-preserved
loop-after-preserved g c =
    let some = c.loop-after-test.true in
    let range = c.range_of-r in
    (entering-next c.requires c.loop-after.invariant (omega arith) range.ensures
    c.enter.ensures c.next-after.ensures).entering
