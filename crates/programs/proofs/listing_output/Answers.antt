-- Of a pin list that is not read its line is written, and of one that is read the listing of its channel.
use Rattle.text.specs.PutLaws.{put_same}
use Rattle.programs.specs.Programs.{listing, listing_output, of_filled}
use Rattle.programs.proofs.listing_output.Goals as goal

pub returns-in-Ok-clause-put : goal.returns-in-Ok-clause-put
unfolding listing_output
returns-in-Ok-clause-put c = put_same c.list_channel.ensures.put (c.in-Ok.ensures.read.output (of_filled listing))

pub returns-in-Err-clause-put : goal.returns-in-Err-clause-put
unfolding listing_output
returns-in-Err-clause-put c = put_same c.put_unread.ensures.put (c.in-Err.ensures.unread.wrote (of_filled listing))
