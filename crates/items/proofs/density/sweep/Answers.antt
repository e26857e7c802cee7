use Rattle.std.proofs.Common.{◌+◌, ◌≡◌, get_or, arith}
use Rattle.std.proofs.Math.Decide.{dec_le}
use Rattle.items.specs.DensityLaws.{swept_none, swept-counted, swept-more, swept_same}
use Rattle.items.proofs.density.sweep.Goals as goal

pub loop-c-init : goal.loop-c-init
loop-c-init c = swept_none _ _

pub overflow_add-here : goal.overflow_add-here
overflow_add-here c =
    let l = c.loop-c in
    let counted = swept-counted l.c l.carried c.requires l.invariant.positive l.invariant.carries in omega arith

pub overflow_sub-carried : goal.overflow_sub-carried
overflow_sub-carried c =
    let l = c.loop-c in (swept-counted l.c l.carried c.requires l.invariant.positive l.invariant.carries).0

pub loop-c-preserved : goal.loop-c-preserved
loop-c-preserved c =
    let l = c.loop-c in
    elim (dec_le (l.carried + get_or c.args.starts.now l.c 0) l.most) [
      | yes h ↦ let e : c.max-most.result ≡ l.most = omega arith in rw e (swept_same l.invariant c.loop-c-test.true h)
      | no h ↦ let e : c.max-most.result ≡ l.carried + get_or c.args.starts.now l.c 0 = omega arith in
          rw e (swept-more l.invariant c.loop-c-test.true (omega arith))
    ]
