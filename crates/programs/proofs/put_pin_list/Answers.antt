-- The line of one row and that of the other behind it are the pin list.
use Rattle.lists.specs.Bytes.{bytes}
use Rattle.text.specs.PutLaws.{put_then}
use Rattle.programs.specs.Programs.{pin_list}
use Rattle.programs.proofs.put_pin_list.Goals as goal

pub returns-clause-put : goal.returns-clause-put
unfolding pin_list bytes
returns-clause-put c = put_then c.put_row-next.ensures.put c.put_row.ensures.put
