-- Of a pin list that is not read its line is written, and of one that is read the lines of its ring.
use Rattle.text.specs.PutLaws.{put_same}
use Rattle.programs.specs.Programs.{fewest_lines, ring_output}
use Rattle.programs.proofs.ring_output.Goals as goal

pub returns-in-Ok-clause-put : goal.returns-in-Ok-clause-put
unfolding ring_output
returns-in-Ok-clause-put c = put_same c.ring_channel.ensures.put (c.in-Ok.ensures.read.output fewest_lines)

pub returns-in-Err-clause-put : goal.returns-in-Err-clause-put
unfolding ring_output
returns-in-Err-clause-put c = put_same c.put_unread.ensures.put (c.in-Err.ensures.unread.wrote fewest_lines)
