use native.Mathlib.Omega.{arith}
use mathlib.Core.Path.{sym, ◌∙◌}
use Rattle.classes.specs.ForestLaws.{own_root, higher-up}
use Rattle.classes.proofs.forest.find.Goals as goal

pub loop-up-preserved : goal.loop-up-preserved
loop-up-preserved c =
    let l = c.loop-up in
    let h = higher-up _ _ _ _ _ _ l.invariant.3 l.invariant.0 l.invariant.1
    c.loop-up-test.true
    c.parent-higher.ensures
    c.hang.ensures in
    let b = h.below in
    (omega (arith, l.invariant.0), c.parent-up-in-loop-up.ensures, h.root ∙ l.invariant.2, h.kept)

pub returns : goal.returns
returns c =
    let l = c.loop-up in
    let k = l.invariant.3 in
    let own = own_root _ k.forest l.at (sym l.invariant.1 ∙ omega arith) in
    (sym own ∙ k.roots l.at l.invariant.0 ∙ l.invariant.2, k)
