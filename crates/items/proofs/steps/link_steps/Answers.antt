-- A turn is `step-taken` or `step_left`, and `step-none` closes the return.
use Rattle.std.proofs.Common.{◌≡◌, ◌+◌, ◌-◌, arith}
use Rattle.lists.specs.Lists.{at}
use Rattle.items.specs.Steps.{is_step}
use Rattle.items.specs.LinkLaws.{linked-start, StepPlace, step-place, step-taken, step_left, step-none}
use Rattle.items.proofs.steps.link_steps.Goals as goal
use Rattle.items.proofs.steps.link_steps.Goals.{In-loop-i}

-- what is known of the place of a turn
known : (t : In-loop-i) → let a = t.args in let l = t.loop-i in
    StepPlace a.upper.now a.lower.now a.head.now a.next.now a.under.now l.head l.next l.under l.i
known t = step-place t.requires t.loop-i.invariant t.loop-i-test.true

pub loop-i-init : goal.loop-i-init
loop-i-init c = linked-start _ _ _ _ _ c.requires

pub bounds-head-b : goal.bounds-head-b
bounds-head-b c = (known (goal.at.bounds-head-b c).In-loop-i).lower_now

pub bounds-head-b-then-a-b : goal.bounds-head-b-then-a-b
bounds-head-b-then-a-b c = (known (goal.at.bounds-head-b-then-a-b c).In-loop-i).lower_now

pub bounds-under-a : goal.bounds-under-a
bounds-under-a c = (known (goal.at.bounds-under-a c).In-loop-i).upper_now

pub overflow_add-under : goal.overflow_add-under
overflow_add-under c = let k = known (goal.at.overflow_add-under c).In-loop-i in omega (arith, k.count)

pub bounds-under-a-then-a-b : goal.bounds-under-a-then-a-b
bounds-under-a-then-a-b c = (known (goal.at.bounds-under-a-then-a-b c).In-loop-i).upper_now

pub loop-i-preserved-then-a-b : goal.loop-i-preserved-then-a-b
unfolding is_step at
loop-i-preserved-then-a-b c =
    let here : c.loop-i.i - 1 + 1 ≡ c.loop-i.i = omega arith in
    rw here (step-taken c.requires c.loop-i.invariant c.loop-i-test.true c.if-a-b.true)

pub loop-i-preserved : goal.loop-i-preserved
unfolding is_step at
loop-i-preserved c = step_left c.requires c.loop-i.invariant c.loop-i-test.true c.if-a-b.false

pub returns : goal.returns
returns c = step-none c.requires c.loop-i.invariant c.loop-i-test.false
