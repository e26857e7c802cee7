use native.Mathlib.Omega.{arith}
use Rattle.classes.specs.SweepLaws.{furthest-inside, swept-inside, swept-next}
use Rattle.classes.proofs.ranges.sweep.Goals as goal

pub pass-furthest-requires : goal.pass-furthest-requires
pass-furthest-requires c =
    let l = c.loop-start in
    let z = l.invariant.size in (
      swept-inside _ _ _ _ _ _ c.requires.0 l.invariant,
      omega arith,
      omega arith,
      furthest-inside _ _ _ _ _ _ c.requires.0 l.invariant (omega arith),
    )

pub loop-start-preserved : goal.loop-start-preserved
loop-start-preserved c =
    swept-next _ _ _ _ _ _ c.requires.0 c.loop-start.invariant _ _ _ (omega arith) c.pass-furthest.ensures
