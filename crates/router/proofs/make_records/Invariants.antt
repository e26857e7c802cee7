-- The loop's invariant: the table has the records of the numbers below n that have a first column. `one-made` and
-- `no-more-made` take the table over number n.
use Rattle.std.proofs.Common.{◌-◌}
use Rattle.grid.specs.Numbers.{column_numbers, track_numbers}
use Rattle.channel.specs.Spans.{spans}
use Rattle.router.specs.Tables.{records_to, Listed}
use Rattle.router.proofs.make_records.Given as goal

abbrev pub invariant-loop-n : goal.invariant-loop-n
invariant-loop-n l =
    Listed (records_to (spans (column_numbers l.first) (column_numbers l.last)) (track_numbers l.tracks) (l.n - 1)) l.records l.count
