-- A turn is `takes` or `leaves`, and `all_seen` closes the return.
use Rattle.std.proofs.Common.{refl, eq-eqb, ne_eqb}
use native.Mathlib.Omega.{arith}
use Rattle.grid.specs.Numbers.{track-set, tracks-long}
use Rattle.leftedge.proofs.ScanTurns.{starts, all_seen, in_tables, may-lower, takes, leaves}
use Rattle.leftedge.proofs.tracks.scan_track.Goals as goal
use Rattle.leftedge.proofs.tracks.scan_track.Goals.{then-under-n-eq0+then-may_follow, else-under-n-eq0}
use Rattle.leftedge.proofs.tracks.scan_track.Goals.{else-under-n-eq0-via-then-under-n-eq0+else-may_follow}
use Rattle.leftedge.proofs.tracks.scan_track.Goals.{else-under-n-eq0-via-else-under-n-eq0}

pub loop-i-init : goal.loop-i-init
loop-i-init c it ps b = starts b _

pub bounds-under-n : goal.bounds-under-n
bounds-under-n c =
    (in_tables c.requires.begins (c.loop-i.invariant _ _ c.requires.begins) c.loop-i-test.true).5

pub may_follow-requires : goal.may_follow-requires
may_follow-requires c =
    (in_tables c.requires.begins (c.loop-i.invariant _ _ c.requires.begins) c.loop-i-test.true).2

pub bounds-tracks-n : goal.bounds-tracks-n
bounds-tracks-n c =
    let inside = (in_tables c.requires.begins (c.loop-i.invariant _ _ c.requires.begins) c.loop-i-test.true).6 in
    let long = tracks-long c.loop-i.tracks in
    omega arith

pub bounds-tables-n : goal.bounds-tables-n
bounds-tables-n c =
    (in_tables c.requires.begins (c.loop-i.invariant _ _ c.requires.begins) c.loop-i-test.true).3

pub bounds-tables-n-then-may_follow : goal.bounds-tables-n-then-may_follow
bounds-tables-n-then-may_follow c =
    (in_tables c.requires.begins (c.loop-i.invariant _ _ c.requires.begins) c.loop-i-test.true).4

pub lower_above-requires : goal.lower_above-requires
lower_above-requires c =
    may-lower c.requires.begins (c.loop-i.invariant _ _ c.requires.begins) c.loop-i-test.true

pub loop-i-preserved : goal.loop-i-preserved
loop-i-preserved c it ps b =
    elim c.if-under-n-eq0.branch [
      | then-under-n-eq0+then-may_follow w ↦
          rw (w.under-is, w.left-is, w.tracks-is, w.end-is, w.net-is, w.rest-is, w.looks-is, track-set c.loop-i.tracks _ c.args.k)
          (takes b (c.loop-i.invariant it ps b) c.loop-i-test.true
          (rw (eq-eqb _ _ w.if-under-n-eq0.true, ← w.may_follow.ensures) w.if-may_follow.true) _ w.lower_above.ensures _
          w.net_of-net.ensures)
      | else-under-n-eq0 w ↦
          rw (w.under-is, w.left-is, w.tracks-is, w.end-is, w.net-is, w.rest-is, w.looks-is)
          (leaves b (c.loop-i.invariant it ps b) c.loop-i-test.true (elim w.else-under-n-eq0.branch [
            | else-under-n-eq0-via-then-under-n-eq0+else-may_follow v ↦
                rw (eq-eqb _ _ v.if-under-n-eq0.true, ← v.may_follow.ensures) v.if-may_follow.false
            | else-under-n-eq0-via-else-under-n-eq0 v ↦ rw (ne_eqb _ _ v.if-under-n-eq0.false)
          ]))
    ]

pub returns : goal.returns
returns c it ps b = all_seen b (c.loop-i.invariant it ps b) c.loop-i-test.false (refl, refl)
