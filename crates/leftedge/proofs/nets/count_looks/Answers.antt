-- The looks answered by the fill of the nets as items are the channel's.
use Rattle.grid.specs.Numbers.{tracks-none}
use Rattle.leftedge.specs.Nets.{looks}
use Rattle.leftedge.proofs.nets.count_looks.Goals as goal

pub fill_found-filled-requires : goal.fill_found-filled-requires
fill_found-filled-requires c = tracks-none

pub returns : goal.returns
unfolding looks
returns c = rw (← c.columns-columns.ensures) c.fill_found-filled.ensures.looks
