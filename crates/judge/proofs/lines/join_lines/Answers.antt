use native.Mathlib.Omega.{arith}
use Rattle.judge.specs.JoinSteps.{joining-whole, sweep-ready}
use Rattle.judge.specs.JoinSteps.{joining-next}
use Rattle.judge.proofs.lines.join_lines.Goals as goal

pub sweep-requires : goal.sweep-requires
sweep-requires g c =
    let e = c.enter_line in
    sweep-ready c.loop-line.invariant c.loop-line-test.true e.ensures e.auto.starts

pub loop-line-preserved : goal.loop-line-preserved
loop-line-preserved g c =
    let e = c.enter_line in
    joining-next c.loop-line.invariant c.loop-line-test.true e.ensures e.auto.starts
    c.sweep.auto.starts c.sweep.ensures

pub returns : goal.returns
returns g c =
    let inv = c.loop-line.invariant in (
      joining-whole c.requires
          c.chain_lines.auto.heads c.chain_lines.ensures inv (omega arith),
      inv.blank,
    )
