-- Of a pin list that is not read its line is written, and of one that is read the line of the board judged against its channel.
use Rattle.text.specs.PutLaws.{put_same}
use Rattle.programs.specs.Programs.{judge_output, judged_against}
use Rattle.programs.proofs.judge_output.Goals as goal

pub returns-in-Ok-clause-put : goal.returns-in-Ok-clause-put
unfolding judge_output
returns-in-Ok-clause-put c = put_same c.judge_channel.ensures.put (c.in-Ok.ensures.read.output (judged_against _))

pub returns-in-Err-clause-put : goal.returns-in-Err-clause-put
unfolding judge_output
returns-in-Err-clause-put c = put_same c.put_unread.ensures.put (c.in-Err.ensures.unread.wrote (judged_against _))
