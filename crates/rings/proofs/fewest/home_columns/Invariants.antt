-- The loop's invariant: `columns` has for each number its lowest column past i over a net that is one step nearer.
use Rattle.std.proofs.Common.{◌≡◌}
use Rattle.channel.specs.Channel.{rows}
use Rattle.channel.specs.Spans.{each512}
use Rattle.leftedge.specs.DropLaws.{lowest_past}
use Rattle.rings.specs.Search.{nearer}
use Rattle.rings.proofs.fewest.home_columns.Given as goal

abbrev pub invariant-loop-i : goal.invariant-loop-i
invariant-loop-i l = l.columns ≡ each512 (lowest_past (rows l.top l.bot) (nearer l.far l.home) l.i)
