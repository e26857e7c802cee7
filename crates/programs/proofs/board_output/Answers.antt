-- Of a pin list that is not read its line is written, and of one that is read the board file of its channel.
use Rattle.text.specs.PutLaws.{put_same}
use Rattle.programs.specs.Programs.{board_bytes, board_output, of_filled}
use Rattle.programs.proofs.board_output.Goals as goal

pub returns-in-Ok-clause-put : goal.returns-in-Ok-clause-put
unfolding board_output
returns-in-Ok-clause-put c = put_same c.board_channel.ensures.put (c.in-Ok.ensures.read.output (of_filled board_bytes))

pub returns-in-Err-clause-put : goal.returns-in-Err-clause-put
unfolding board_output
returns-in-Err-clause-put c = put_same c.put_unread.ensures.put (c.in-Err.ensures.unread.wrote (of_filled board_bytes))
