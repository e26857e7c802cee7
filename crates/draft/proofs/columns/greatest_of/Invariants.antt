-- The greatest so far is that of the columns before c.
use Rattle.std.proofs.Common.{◌≡◌, ◌≤◌, ◌-◌, map}
use Rattle.lists.specs.Lists.{up_to, greatest}
use Rattle.draft.specs.Marks.{count_of}
use Rattle.draft.proofs.columns.greatest_of.Given as goal

abbrev pub invariant-loop-c : goal.invariant-loop-c
invariant-loop-c l = (l.greatest ≡ greatest (map (count_of l.words) (up_to (l.c - 1)))) × (l.greatest ≤ 512)
