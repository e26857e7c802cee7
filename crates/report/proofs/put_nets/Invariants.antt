-- The lines of the records so far are put from `at` on, and take at most 100 bytes each.
use Rattle.std.specs.Prelude.{◌+◌, ◌*◌, ◌≤◌, take}
use Rattle.lists.specs.Lists.{each}
use Rattle.report.specs.Lines.{net_line}
use Rattle.text.specs.Lines.{Put}
use Rattle.report.proofs.put_nets.Given as goal

abbrev pub invariant-loop-record : goal.invariant-loop-record
invariant-loop-record l =
    Put l.initial.out l.at (each net_line (take l.record-index l.records)) l.out l.next
    × (l.next ≤ l.at + 100 * l.record-index)
