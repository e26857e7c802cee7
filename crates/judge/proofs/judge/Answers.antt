-- Short scratch is refused first, then what opening the board for the rows refuses, and past that stands the finding.
use Rattle.std.proofs.Common.{refl}
use Rattle.judge.proofs.JudgeSteps.{answer-short, answer-refused, answer-found, case-ready, judged-well}
use Rattle.judge.proofs.judge.Goals as goal

pub returns-then-scratch-lt-SCRATCH_TRAY : goal.returns-then-scratch-lt-SCRATCH_TRAY
returns-then-scratch-lt-SCRATCH_TRAY c =
    judged-well _ _ _ _ _ (answer-short _ _ _ c.if-scratch-lt-SCRATCH_TRAY.true) refl

pub invariant_of-case : goal.invariant_of-case
invariant_of-case c = case-ready _ _ _ c.if-scratch-lt-SCRATCH_TRAY.false c.in-Ok.ensures

pub returns-in-Err : goal.returns-in-Err
returns-in-Err c =
    judged-well _ _ _ _ _ (answer-refused _ _ _ c.if-scratch-lt-SCRATCH_TRAY.false c.in-Err.ensures) refl

pub returns-in-Ok : goal.returns-in-Ok
returns-in-Ok c =
    judged-well _ _ _ _ _ (answer-found _ _ _ c.if-scratch-lt-SCRATCH_TRAY.false c.in-Ok.ensures c.judge_case.ensures)
    c.judge_case.auto.scratch
