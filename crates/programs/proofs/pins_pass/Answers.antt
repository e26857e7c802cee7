-- A pin list that is read passes, and one that is not read fails (`passes`).
use Rattle.std.proofs.Common.{◌∙◌}
use Rattle.programs.specs.CodeLaws.{passes}
use Rattle.programs.proofs.pins_pass.Goals as goal

pub returns : goal.returns
returns c = c.is_ok.ensures.value ∙ passes _ _ c.read.ensures.read c.read.ensures.unread
