-- The lines of the pairs so far are put from `at` on, and take at most 64 bytes each.
use Rattle.std.specs.Prelude.{◌+◌, ◌*◌, ◌≤◌}
use Rattle.text.specs.Lines.{Put}
use Rattle.report.specs.Code.{ring_text}
use Rattle.report.proofs.put_ring.Given as goal

abbrev pub invariant-loop-net : goal.invariant-loop-net
invariant-loop-net l =
    Put l.initial.out l.at (ring_text l.ring l.net-index) l.out l.next × (l.next ≤ l.at + 64 * l.net-index)
