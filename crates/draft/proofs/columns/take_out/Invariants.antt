-- The net's mark is off the columns before c, and was found if it stood in one of them.
use Rattle.std.proofs.Common.{◌≡◌, ◌-◌, ◌%◌}
use Rattle.lists.specs.Lists.{any_of, up_to}
use Rattle.draft.specs.Marks.{without_mark, marked, changed}
use Rattle.draft.proofs.columns.take_out.Given as goal

abbrev pub invariant-loop-c : goal.invariant-loop-c
invariant-loop-c l =
    (l.found ≡ any_of (λ k. marked l.fn.words k l.net.0) (up_to (l.c - 1)))
    × (l.words ≡ changed (without_mark (l.net.0 % 64)) l.net.0 1 (l.c - 1) l.fn.words)
