-- `claim` meets its contract: each return is one case of it.
use mathlib.Core.Path.{refl}
use Rattle.judge.specs.FaultSteps.{free}
use Rattle.judge.proofs.FaultStepsLaws.{claimed-met}
use Rattle.judge.proofs.faults.claim.Goals as goal

pub returns-then-table-at-eq0 : goal.returns-then-table-at-eq0
returns-then-table-at-eq0 c = free c.if-table-at-eq0.true

pub returns : goal.returns
returns c = claimed-met refl c.if-table-at-eq0.false
