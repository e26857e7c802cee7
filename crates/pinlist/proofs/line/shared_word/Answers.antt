use native.Mathlib.Omega.{arith}
use mathlib.Core.Path.{◌≡◌, ◌∙◌}
use Rattle.pinlist.proofs.CodeLaws.{shared-first, shared-next, shared-cut, shared-differs, shared-whole}
use Rattle.pinlist.proofs.line.shared_word.Goals as goal
use Rattle.pinlist.proofs.line.shared_word.Goals.{then-text-at-via-then-text-at, then-text-at-via-else-text-at+then-text-at-2}

pub loop-i-init : goal.loop-i-init
loop-i-init c = (omega arith, shared-first _ _ c.args.at)

pub returns-then-text-at : goal.returns-then-text-at
returns-then-text-at c =
    let loop = c.loop-i in
    elim c.then-text-at.branch [
      | then-text-at-via-then-text-at w ↦ shared-cut _ _ _ loop.i (omega (arith, w.if-text-at.true)) loop.invariant.1
      | then-text-at-via-else-text-at+then-text-at-2 w ↦
          shared-differs _ _ _ loop.i (omega arith) (omega (arith, w.if-text-at.false)) w.if-text-at-2.true loop.invariant.1
    ]

pub loop-i-preserved : goal.loop-i-preserved
loop-i-preserved c =
    let loop = c.loop-i in
    (omega arith, shared-next _ _ _ loop.i (omega arith) (omega arith) c.if-text-at-2.false loop.invariant.1)

pub returns : goal.returns
returns c =
    let loop = c.loop-i in let e : 4 ≡ loop.i = omega arith in
    e ∙ shared-whole _ _ _ loop.i (omega arith) loop.invariant.1
