-- The run of spaces from `at` on ends where the one from `end` on does.
use Rattle.std.proofs.Common.{◌≡◌, drop}
use Rattle.pinlist.specs.Code.{spaces_end}
use Rattle.pinlist.proofs.number.spaces_end.Given as goal

abbrev pub invariant-loop-end : goal.invariant-loop-end
invariant-loop-end l = spaces_end l.at (drop l.at l.text) ≡ spaces_end l.end (drop l.end l.text)
