use Rattle.std.proofs.Common.{refl, sym, arith, below_more}
use mathlib.Core.Logic.{⊎_elim}
use Rattle.lists.specs.Lists.{at}
use Rattle.lists.specs.Ends.{at_suc, at_next}
use Rattle.blanks.specs.LaminateLaws.{bad-found, none-bad}
use Rattle.blanks.proofs.laminate.first_bad.Goals as goal

pub loop-i-init : goal.loop-i-init
unfolding at
loop-i-init c = record { last = refl; sound = λ k l. absurd (omega arith) }

pub returns-then-entry-before : goal.returns-then-entry-before
returns-then-entry-before c =
    let entry = at_suc c.args.table.now c.loop-i.i in
    bad-found _ c.loop-i.i (omega arith) c.loop-i.invariant.sound (λ s.
    let above = s.above in
    let few = s.few in
    let last = c.loop-i.invariant.last in
    ⊎_elim (λ w. omega arith) (λ w. omega arith) c.then-entry-before.either)

pub loop-i-preserved : goal.loop-i-preserved
loop-i-preserved c =
    let last = c.loop-i.invariant.last in
    let entry = at_suc c.args.table.now c.loop-i.i in
    record {
      last = sym (at_next _ c.loop-i.i);
      sound = below_more _ _ c.loop-i.invariant.sound (record { above = omega arith; few = omega arith });
    }

pub returns : goal.returns
returns c = none-bad _ (λ k l. c.loop-i.invariant.sound k (omega arith))
