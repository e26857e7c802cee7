-- The numbers so far are put from `at` on, and take at most 21 bytes each.
use Rattle.std.specs.Prelude.{◌+◌, ◌*◌, ◌≤◌, take}
use Rattle.lists.specs.Lists.{each}
use Rattle.text.specs.Lines.{field, Put}
use Rattle.text.proofs.put_numbers.Given as goal

abbrev pub invariant-loop-n : goal.invariant-loop-n
invariant-loop-n g l =
    Put l.initial.out l.at (each (λ n. field (g.N.Number.value n)) (take l.n-index l.numbers)) l.out l.next × (l.next ≤ l.at + 21 * l.n-index)
