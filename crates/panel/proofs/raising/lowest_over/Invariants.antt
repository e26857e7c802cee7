-- `panel::raising::lowest_over` meets its contract. The loop's invariant: from `lowest` on, what is left of the row
-- gives what is to be answered.
use mathlib.Core.Path.{◌≡◌}
use lib.ListN.{drop}
use Rattle.panel.specs.Code.{lowest_over}
use Rattle.panel.proofs.raising.lowest_over.Given as goal

abbrev pub invariant-loop-n : goal.invariant-loop-n
invariant-loop-n l =
    lowest_over l.limit (drop l.n-index l.row) l.lowest ≡ lowest_over l.limit l.row l.initial.lowest
