-- Counting what is left of the items gives what counting them all gives, and no count has grown by more than one a turn.
use Rattle.std.proofs.Common.{ℕ, ◌≤◌, ◌≡◌, map, get_or, drop}
use Rattle.lists.specs.Counts.{tally}
use Rattle.grid.specs.Numbers.{column_numbers}
use Rattle.items.specs.Order.{by_number}
use Rattle.items.proofs.density.count_columns.Given as goal

abbrev pub invariant-loop-n : goal.invariant-loop-n
invariant-loop-n l =
    ((n : ℕ) → get_or l.counts n 0 ≤ l.n-index)
    × (tally (map (by_number (column_numbers l.columns)) (drop l.n-index l.items)) l.counts
    ≡ tally (map (by_number (column_numbers l.columns)) l.items) l.fn.counts)
