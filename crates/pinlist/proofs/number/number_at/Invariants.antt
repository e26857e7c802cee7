-- The number that is read at `at` is the one whose digits go on at `next` behind a number that is kept as `value`.
use Rattle.std.specs.Prelude.{◌≤◌, ◌≡◌, drop}
use Rattle.pinlist.specs.Code.{number_read, digits_behind}
use Rattle.pinlist.proofs.number.number_at.Given as goal

abbrev pub invariant-loop-next : goal.invariant-loop-next
invariant-loop-next l = (l.value ≤ 512) × (number_read l.text l.at ≡ digits_behind l.value l.next (drop l.next l.text))
