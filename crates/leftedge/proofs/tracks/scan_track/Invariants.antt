-- The loop's invariant is `SoFar`, of all items that the tables tell of: those left so far stand at the front, and the
-- scan of those ahead makes the rest.
use Rattle.std.proofs.Common.{List}
use Rattle.grid.specs.Numbers.{track_numbers}
use Rattle.leftedge.specs.Items.{Items, Place}
use Rattle.leftedge.specs.Tables.{ScanBegins}
use Rattle.leftedge.proofs.ScanTurns.{SoFar}
use Rattle.leftedge.proofs.tracks.scan_track.Given as goal

abbrev pub invariant-loop-i : goal.invariant-loop-i
invariant-loop-i l =
    (it : Items) (ps : List Place)
    → ScanBegins it ps l.tables.first.now l.tables.last.now l.tables.nets.now l.tables.upper.now
    l.tables.head.now l.tables.next.now l.fn.under l.fn.left l.count (track_numbers l.fn.tracks)
    → SoFar it ps l.tables.first.now l.tables.nets.now l.fn.under l.fn.left l.count (track_numbers l.fn.tracks) l.k.0 l.under l.left (track_numbers l.tracks) l.end l.net l.rest
    l.looks l.i
