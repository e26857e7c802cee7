-- `kinds_meet` is the table of that name.
use Rattle.std.proofs.Common.{rules}
use Rattle.grid.specs.Touching.{kinds_meet}
use Rattle.grid.proofs.kinds_meet.Goals as goal

pub returns : goal.returns
unfolding kinds_meet
returns c = search rules
