-- The loop's invariant is `Collected`: of the numbers before n those with spans, by the tables, stand at the front of
-- `items`.
use Rattle.std.proofs.Common.{◌-◌}
use Rattle.lists.specs.Lists.{up_to}
use Rattle.lists.specs.Collects.{Collected}
use Rattle.grid.specs.Numbers.{column_numbers}
use Rattle.channel.proofs.SpanningLaws.{spans_by}
use Rattle.channel.proofs.spans.Columns.list_spanning.Given as goal

abbrev pub invariant-loop-n : goal.invariant-loop-n
invariant-loop-n l = Collected (spans_by (column_numbers l.first) (column_numbers l.last)) (up_to l.highest) l.fn.items (l.n - 1) l.count l.items
