use native.Mathlib.Omega.{arith}
use mathlib.Core.Path.{refl, ◌∙◌}
use Rattle.lists.specs.Fronts.{front-next, front-whole}
use Rattle.classes.specs.FlatLaws.{flat_up, flat-root}
use Rattle.classes.proofs.forest.flatten.Goals as goal

-- the parent stands before its child, or is the child
pub offset_bounds-forest-up : goal.offset_bounds-forest-up
offset_bounds-forest-up c =
    let l = c.loop-i in
    let up = flat_up _ c.requires l.i _ l.invariant (omega arith) in
    omega (arith, c.parent-up.ensures)

pub bounds-forest-up : goal.bounds-forest-up
bounds-forest-up c =
    let l = c.loop-i in
    let z = l.invariant.size in
    let up = flat_up _ c.requires l.i _ l.invariant (omega arith) in
    omega (arith, c.parent-up.ensures)

pub loop-i-preserved : goal.loop-i-preserved
loop-i-preserved c =
    let l = c.loop-i in
    let pre = c.requires in
    let root = flat-root _ pre l.i _ l.invariant (omega arith) c.parent-up.result
    c.parent-up.ensures in
    front-next _ _ _ _ _ l.invariant (omega arith) (c.low.ensures ∙ root) refl

pub returns : goal.returns
returns c = front-whole _ _ _ _ c.loop-i.invariant (omega arith)
