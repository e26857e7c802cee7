-- The loop's invariant: `columns` has for each number its lowest column past i over an unplaced net.
use Rattle.std.proofs.Common.{◌≡◌}
use Rattle.grid.specs.Numbers.{track_numbers}
use Rattle.channel.specs.Channel.{rows}
use Rattle.channel.specs.Spans.{each512}
use Rattle.leftedge.specs.Ring.{bare}
use Rattle.leftedge.specs.DropLaws.{lowest_past}
use Rattle.leftedge.proofs.ring.lowest_drops.Given as goal

abbrev pub invariant-loop-i : goal.invariant-loop-i
invariant-loop-i l =
    l.columns ≡ each512 (lowest_past (rows l.top l.bot) (bare (track_numbers l.tracks)) l.i)
