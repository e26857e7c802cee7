-- Of a pin list that is not read its line is written, and of one that is read what joining it to the first writes.
use Rattle.text.specs.PutLaws.{put_same}
use Rattle.programs.specs.Programs.{panel_lines}
use Rattle.programs.proofs.join_second.Goals as goal

pub returns-in-Ok-clause-put : goal.returns-in-Ok-clause-put
returns-in-Ok-clause-put c = put_same c.join_channels.ensures.put (c.in-Ok.ensures.read.output (panel_lines _))

pub returns-in-Err-clause-put : goal.returns-in-Err-clause-put
returns-in-Err-clause-put c = put_same c.put_unread.ensures.put (c.in-Err.ensures.unread.wrote (panel_lines _))
