-- The numbers of the row before i, raised, are stored from `at` on.
use Rattle.std.proofs.Common.{◌≡◌, map, take}
use Rattle.std.proofs.lemmas.List.Edits.{sets}
use Rattle.panel.specs.Joined.{raised}
use Rattle.panel.proofs.raising.put_raised.Given as goal

abbrev pub invariant-loop-i : goal.invariant-loop-i
invariant-loop-i l = l.to ≡ sets l.initial.to l.at (take l.i (map (raised l.by) l.row))
