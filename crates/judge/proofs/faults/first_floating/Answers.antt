use native.Mathlib.Omega.{arith}
use mathlib.Core.Path.{sym, ◌∙◌}
use borrow.Author.Count.{below_more}
use Rattle.judge.specs.FaultSteps.{marks_in, owners_in}
use Rattle.judge.proofs.FaultStepsLaws.{marks-length, mark-at, owner_at}
use Rattle.judge.proofs.FaultStepsLaws.{first-floating, none-floating}
use Rattle.judge.proofs.faults.first_floating.Goals as goal

pub bounds-scratch-root : goal.bounds-scratch-root
bounds-scratch-root c =
    let i = c.loop-i.i in
    omega (arith, mark-at c.args.scratch.now i (omega arith), c.requires.1 i (omega arith))

pub returns-then-high-eq0 : goal.returns-then-high-eq0
returns-then-high-eq0 c =
    let a = c.args in
    let s = a.scratch.now in
    let turn = c.loop-i in
    let size = marks-length s in
    first-floating (marks_in s) a.base (owners_in s) turn.i (omega arith) (omega arith)
    (owner_at s turn.i (omega arith) c.low-root.ensures c.high.ensures
    ∙ c.if-high-eq0.true) turn.invariant

pub loop-i-preserved : goal.loop-i-preserved
loop-i-preserved c =
    let a = c.args in
    let turn = c.loop-i in
    let owner = owner_at a.scratch.now turn.i (omega arith) c.low-root.ensures
    c.high.ensures in
    below_more _ _ turn.invariant (λ b z. c.if-high-eq0.false (sym owner ∙ z))

pub returns : goal.returns
returns c =
    let a = c.args in
    let s = a.scratch.now in
    let size = marks-length s in
    none-floating (marks_in s) a.base (owners_in s) (λ k l. c.loop-i.invariant k (omega arith))
