-- What the fill of the nets as items leaves is the fill of the channel (`placed-done`), or the state in which the walk
-- shows the ring (`stuck-done`).
use native.Mathlib.Omega.{arith}
use Rattle.std.proofs.Common.{refl, sym, length-take-le}
use Rattle.grid.specs.Numbers.{tracks-long, tracks-none}
use Rattle.leftedge.proofs.NetTurns.{placed-done, left-fits, walk_begins, stuck-done}
use Rattle.leftedge.proofs.nets.fill_cleared.Goals as goal

pub slice_bounds-left-end : goal.slice_bounds-left-end
slice_bounds-left-end c = left-fits c.nets.invariant c.fill_found-filled.ensures c.in-Stuck.is

pub slice_bounds-show_ring-end : goal.slice_bounds-show_ring-end
slice_bounds-show_ring-end c =
    sym (length-take-le _ _ (left-fits c.nets.invariant c.fill_found-filled.ensures c.in-Stuck.is))

pub show_ring-pairs-requires : goal.show_ring-pairs-requires
show_ring-pairs-requires c =
    (rw (← c.nets.view_is) (walk_begins c.nets.invariant c.fill_found-filled.ensures c.in-Stuck.is), c.requires.3)

pub returns-in-Placed : goal.returns-in-Placed
returns-in-Placed c =
    let found = rw (← c.nets.view_is) at c.find_columns.ensures in
    rw (← c.nets.view_is) (placed-done c.fill_found-filled.ensures c.in-Placed.is
    (omega (arith, c.fill_found-filled.auto.tracks, tracks-long c.fill_found-filled.new.tracks)) refl refl
    (record { first = found.0; last = found.1 }) refl)

pub returns-in-Stuck : goal.returns-in-Stuck
returns-in-Stuck c =
    let found = rw (← c.nets.view_is) at c.find_columns.ensures in
    rw (← c.nets.view_is) (stuck-done c.nets.invariant c.fill_found-filled.ensures c.in-Stuck.is refl
    (rw (← c.nets.view_is) at c.show_ring-pairs.ensures) refl refl
    (record { first = found.0; last = found.1 }) tracks-none refl)
