-- The loop's invariant is `Underway`, of all items that the tables tell of: what is placed and left after `done` tracks,
-- and that the fill goes on from there. The items left fall.
use Rattle.std.proofs.Common.{◌≡◌, length}
use Rattle.grid.specs.Numbers.{track_numbers}
use Rattle.leftedge.specs.Items.{Items}
use Rattle.leftedge.specs.Tables.{FillBegins}
use Rattle.leftedge.proofs.FillTurns.{Underway}
use Rattle.leftedge.proofs.tracks.fill_items.Given as goal

abbrev pub invariant-loop-rest : goal.invariant-loop-rest
invariant-loop-rest l =
    ((it : Items)
    → FillBegins it l.tables.first.now l.tables.last.now l.tables.nets.now l.tables.upper.now
    l.tables.head.now l.tables.next.now l.fn.under l.fn.left l.count (track_numbers l.fn.tracks)
    → Underway it l.under l.left (track_numbers l.tracks) l.rest l.looks l.done) × (length l.under ≡ length l.fn.under)
    × (length l.left ≡ length l.fn.left) × (length l.tracks ≡ length l.fn.tracks)

abbrev pub decreases-loop-rest : goal.decreases-loop-rest
decreases-loop-rest l = l.rest
