-- `pinlist::line::read_numbers` meets its contract. The loop's invariant, `SoFar`: the line goes on at `at` behind
-- `count` numbers, which the row holds. What is left of the text falls. Each way out of a turn is a law of RowLaws
-- about the byte behind the number.
use Prim.Native.Nat.{◌-◌}
use lib.ListN.{length}
use Rattle.pinlist.proofs.RowLaws.{SoFar}
use Rattle.pinlist.proofs.line.read_numbers.Given as goal

abbrev pub invariant-loop-value : goal.invariant-loop-value
invariant-loop-value l = SoFar l.text l.from l.initial.row l.row l.at l.count

abbrev pub decreases-loop-value : goal.decreases-loop-value
decreases-loop-value l = length l.text - l.at
