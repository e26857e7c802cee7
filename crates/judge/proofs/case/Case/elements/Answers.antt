use native.Mathlib.Omega.{arith}
use Rattle.judge.proofs.ElementStepsLaws.{front-fits}
use Rattle.judge.proofs.case.Case.elements.Goals as goal

pub overflow_add-result-2 : goal.overflow_add-result-2
overflow_add-result-2 c =
    omega (arith, front-fits _ _ _ c.self.inside.count c.self.invariant.0 c.self.invariant.1)

pub returns-clause-few : goal.returns-clause-few
returns-clause-few c = front-fits _ _ _ c.self.inside.count c.self.invariant.0 c.self.invariant.1
