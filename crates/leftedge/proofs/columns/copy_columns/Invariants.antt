-- The loop's invariant: the columns of the nets of the first i columns are copied.
use Rattle.channel.specs.Channel.{rows, first_column, last_column}
use Rattle.leftedge.specs.ColumnLaws.{CopiedTo}
use Rattle.leftedge.proofs.columns.copy_columns.Given as goal

abbrev pub invariant-loop-i : goal.invariant-loop-i
invariant-loop-i l =
    CopiedTo (rows l.top l.bot) (first_column (rows l.top l.bot)) l.i l.begins
    × CopiedTo (rows l.top l.bot) (last_column (rows l.top l.bot)) l.i l.ends
