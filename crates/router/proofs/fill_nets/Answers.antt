-- The fill found in the rows without the parked pins is the channel's (`filled-shown`).
use Rattle.leftedge.proofs.ShownLaws.{filled-shown}
use Rattle.router.proofs.fill_nets.Goals as goal

pub returns : goal.returns
returns c = filled-shown _ (rw c.without_parked.ensures at c.fill_tracks-2.ensures)
