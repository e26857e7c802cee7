-- The greater of `highest` and the greatest of what is left of the row is what is to be answered.
use Rattle.std.proofs.Common.{◌≡◌, max, drop}
use Rattle.lists.specs.Lists.{greatest}
use Rattle.channel.proofs.spanning.highest_number.Given as goal

abbrev pub invariant-loop-n : goal.invariant-loop-n
invariant-loop-n l = max l.highest (greatest (drop l.n-index l.row)) ≡ max l.fn.highest (greatest l.row)
