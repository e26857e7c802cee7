-- `router::route_checked` meets its contract. Where the fill is stuck, `tangled-held` closes; where every net is
-- placed, the tracks and the board are what the drawing asks (`placed-drawable`), and `routed-held` closes from what
-- the drawing and the table answer. Assumes nothing.
use mathlib.Core.Path.{refl}
use Rattle.router.proofs.Outcomes.{placed→, placed-drawable, tangled-held, routed-held}
use Rattle.router.proofs.route_checked.Goals as goal

pub draw_board-pieces-requires : goal.draw_board-pieces-requires
draw_board-pieces-requires c =
    let nets = c.fill_nets-filled.ensures in
    let esc = rw c.rows.view_is at c.rows.invariant in
    (placed-drawable _ esc c.requires.1 (placed→ nets c.in-Placed.is).0, nets.spans)

pub returns-in-Stuck : goal.returns-in-Stuck
returns-in-Stuck c =
    tangled-held _ _ _ c.requires.0 c.requires.1 (rw c.rows.view_is at c.rows.invariant) c.fill_nets-filled.ensures
    c.in-Stuck.is c.refused.ensures

pub returns-in-Placed : goal.returns-in-Placed
returns-in-Placed c =
    let nets = c.fill_nets-filled.ensures in
    routed-held _ _ _ c.requires.0 c.requires.1 (rw c.rows.view_is at c.rows.invariant) nets c.in-Placed.is
    refl c.draw_board-pieces.ensures c.make_records-count.ensures refl
