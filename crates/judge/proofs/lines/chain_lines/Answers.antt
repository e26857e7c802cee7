use native.Mathlib.Omega.{arith}
use Rattle.classes.specs.ChainSteps.{chained-to-none, push-ready, chained-to-next}
use Rattle.judge.proofs.lines.chain_lines.Goals as goal

pub loop-i-init : goal.loop-i-init
loop-i-init g c =
    let pre = c.requires in
    chained-to-none _ _ _ pre.elements.forest pre.blank

pub push-requires : goal.push-requires
push-requires g c =
    let l = c.loop-i in
    let z = l.invariant.size in
    push-ready _ _ _ _ _ _ l.invariant (omega arith) (c.requires.lined l.i (omega arith)) _
    c.range_of-r.ensures

pub loop-i-preserved : goal.loop-i-preserved
loop-i-preserved g c =
    let l = c.loop-i in
    let z = l.invariant.size in
    let push = c.push in
    chained-to-next _ _ _ _ _ _ l.invariant (omega arith)
    (c.requires.lined l.i (omega arith)) _ c.range_of-r.ensures _ _ push.ensures.0 push.ensures.1
