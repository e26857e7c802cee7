-- The entries before this one are as they have to be, and `before` is the last of them.
use Rattle.std.specs.Prelude.{◌≡◌}
use Rattle.lists.specs.Lists.{at}
use Rattle.blanks.specs.LaminateLaws.{SoundBefore}
use Rattle.blanks.proofs.laminate.first_bad.Given as goal

abbrev pub invariant-loop-i : goal.invariant-loop-i
invariant-loop-i l = record { last : l.before ≡ at l.table l.i; sound : SoundBefore l.table l.i }
