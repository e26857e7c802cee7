-- The net is marked in none of the first columns.
use Rattle.std.proofs.Common.{◌≡◌, false}
use Rattle.lists.specs.Lists.{any_of, up_to}
use Rattle.draft.specs.Marks.{marked}
use Rattle.draft.proofs.columns.is_here.Given as goal

abbrev pub invariant-loop-before : goal.invariant-loop-before
invariant-loop-before l = any_of (λ k. marked l.words k l.net.0) (up_to l.before) ≡ false
