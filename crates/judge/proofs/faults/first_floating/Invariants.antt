-- `first_floating` meets its contract. The invariant: the marks of the pieces before place i have owners. What is left
-- of the places falls.
use Prim.Native.Nat.{ℕ, ◌≤◌, ◌<◌}
use Rattle.judge.specs.FaultSteps.{marks_in, owners_in}
use Rattle.judge.proofs.FaultStepsLaws.{FreeAt}
use Rattle.judge.proofs.faults.first_floating.Given as goal

abbrev pub invariant-loop-i : goal.invariant-loop-i
invariant-loop-i l =
    (k : ℕ) → k < l.i → l.base ≤ k → FreeAt (marks_in l.scratch) (owners_in l.scratch) k → ⊥
