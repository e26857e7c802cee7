-- `pinlist::number::read_number` meets its contract: what its two calls answer is what is due.
use Rattle.pinlist.proofs.CodeLaws.{spaces-run}
use Rattle.pinlist.proofs.number.read_number.Goals as goal

pub returns : goal.returns
returns c =
    let from = c.spaces_end-from.ensures in
    record { from = from; run = rw from (spaces-run _ _); number = c.number_at-number.ensures }
