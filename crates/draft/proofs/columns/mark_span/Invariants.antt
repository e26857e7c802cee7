-- The net is marked in the columns of its span before c.
use Rattle.std.proofs.Common.{◌≡◌, ◌-◌}
use Rattle.draft.specs.Marks.{arrived_in}
use Rattle.draft.proofs.columns.mark_span.Given as goal

abbrev pub invariant-loop-c : goal.invariant-loop-c
invariant-loop-c l = l.words ≡ arrived_in l.span.net.0 l.span.first.0 (l.c - 1) l.fn.words
