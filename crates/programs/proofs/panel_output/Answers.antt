-- Of a pin list that is not read its line is written, and of one that is read what joining the second to it writes.
use Rattle.text.specs.PutLaws.{put_same}
use Rattle.programs.specs.Programs.{of_pin_list, panel_lines, panel_output}
use Rattle.programs.proofs.panel_output.Goals as goal

pub returns-in-Ok-clause-put : goal.returns-in-Ok-clause-put
unfolding panel_output
returns-in-Ok-clause-put c = put_same c.join_second.ensures.put (c.in-Ok.ensures.read.output (λ ch. of_pin_list (panel_lines ch) c.args.second.now))

pub returns-in-Err-clause-put : goal.returns-in-Err-clause-put
unfolding panel_output
returns-in-Err-clause-put c = put_same c.put_unread.ensures.put (c.in-Err.ensures.unread.wrote (λ ch. of_pin_list (panel_lines ch) c.args.second.now))
