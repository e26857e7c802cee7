-- Every piece below i is right.
use Rattle.boardfile.specs.CodeLaws.{RightBelow}
use Rattle.boardfile.proofs.first_bad.Given as goal

abbrev pub invariant-loop-i : goal.invariant-loop-i
invariant-loop-i l = RightBelow l.board l.width l.tracks l.count l.i
