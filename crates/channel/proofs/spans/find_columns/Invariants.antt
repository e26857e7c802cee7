-- The loop's invariant: after i columns the arrays hold the first and the last column of every number among those.
use Rattle.std.proofs.Common.{◌≡◌}
use Rattle.grid.specs.Numbers.{column_numbers}
use Rattle.channel.specs.Channel.{rows}
use Rattle.channel.specs.Spans.{each512}
use Rattle.channel.proofs.NoteLaws.{first_by, last_by}
use Rattle.channel.proofs.spans.find_columns.Given as goal

abbrev pub invariant-loop-i : goal.invariant-loop-i
invariant-loop-i l =
    (column_numbers l.first ≡ each512 (first_by (rows l.top l.bot) l.i))
    × (column_numbers l.last ≡ each512 (last_by (rows l.top l.bot) l.i))
