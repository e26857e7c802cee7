-- Cleared, the tables are what `fill_cleared` asks.
use Rattle.std.proofs.Common.{refl}
use Rattle.grid.specs.Numbers.{tracks-none}
use Rattle.leftedge.proofs.nets.fill_tracks.Goals as goal

pub fill_cleared-requires : goal.fill_cleared-requires
fill_cleared-requires c = (refl, refl, tracks-none, c.requires)
