-- The first i numbers stand at the front.
use Rattle.std.specs.Prelude.{◌≡◌, length, take}
use Rattle.cases.specs.Cases.{numbers_at}
use Rattle.cases.proofs.row.Row.read.Given as goal

abbrev pub invariant-loop-i : goal.invariant-loop-i
invariant-loop-i l = (take l.i l.numbers ≡ numbers_at l.bytes l.at l.i) × (length l.numbers ≡ 1024)
