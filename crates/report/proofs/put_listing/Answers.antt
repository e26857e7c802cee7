-- `put_listing` meets its contract: the first two lines, the nets' and the last, each put behind the one before, are
-- the listing.
use Rattle.text.specs.PutLaws.{put_then}
use Rattle.report.specs.Code.{listing_text}
use Rattle.report.proofs.put_listing.Goals as goal

pub returns-clause-put : goal.returns-clause-put
unfolding listing_text
returns-clause-put c =
    let last = put_then c.put_nets-nets.ensures.put c.put_end.ensures.put in
    put_then c.put_board-board.ensures.put (put_then c.put_bounds-bounds.ensures.put last)
