use Rattle.std.proofs.Common.{arith}
use Rattle.lists.specs.Fronts.{front-numbers}
use Rattle.classes.proofs.forest.alone.Goals as goal

pub returns : goal.returns
returns c = front-numbers _ _ _ c.loop-i.invariant (omega arith)
