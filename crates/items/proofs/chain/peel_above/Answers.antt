-- A turn is `peels-free` where an item is freed, and else `peels-past`.
use Rattle.std.proofs.Common.{ℕ, ◌≡◌, ◌-◌, ◌≤◌, ◌<◌, List, length, refl, ◌∙◌, ap, arith, get_or}
use Rattle.items.specs.StepLaws.{here}
use Rattle.items.specs.PeelLaws.{PeelsOn, peels-start, peels-end, peels-past, peels-free}
use Rattle.items.proofs.chain.peel_above.Goals as goal
use Rattle.items.proofs.chain.peel_above.Goals.{In-Some}

-- the place of a turn, and what is known of it
place : (c : In-Some)
    → (c.in-Some.c ≡ 0 → ⊥)
    × PeelsOn c.args.upper.now c.args.linked.links.now c.args.under.now c.args.queue.now c.args.linked.at c.args.queued
    c.loop-c.under c.loop-c.queue c.in-Some.c c.loop-c.queued
place c = let step = c.in-Some.ensures.steps in (λ e. let positive = step.1.0 in omega arith, rw step.1.1 at c.loop-c.invariant.3)

known : (c : In-Some) → let a = get_or c.args.upper.now (c.in-Some.c - 1) 0 in
    (0 < c.in-Some.c) × (c.in-Some.c < length c.args.linked.links.now) × (c.in-Some.c - 1 < length c.args.upper.now)
    × (a < length c.loop-c.under) × (1 ≤ get_or c.loop-c.under a 0)
known c = here _ _ _ _ _ _ (place c).1.on (place c).0

-- where the walk goes on
behind : (c : In-Some) → c.next.new.self.at ≡ get_or c.args.linked.links.now c.in-Some.c 0
behind c =
    c.in-Some.ensures.steps.1.2 ∙ ap (λ (next : List ℕ). get_or next c.in-Some.c 0) c.loop-c.invariant.2

pub loop-c-init : goal.loop-c-init
loop-c-init c =
    let r = c.requires.lowers in
    rw c.into_iter-c-iterator.ensures.into_iter_gives
    (record { numbers = r.places; chained = r.chained; rising = r.rising }, tt, refl, peels-start _ _ _ _ _ _ c.requires)

pub bounds-upper-c : goal.bounds-upper-c
bounds-upper-c c = (known (goal.at.bounds-upper-c c).In-Some).2

pub bounds-under-a : goal.bounds-under-a
bounds-under-a c = (known (goal.at.bounds-under-a c).In-Some).3

pub overflow_sub-left : goal.overflow_sub-left
overflow_sub-left c = (known (goal.at.overflow_sub-left c).In-Some).4

pub bounds-under-a-in-loop-c : goal.bounds-under-a-in-loop-c
bounds-under-a-in-loop-c c = (known (goal.at.bounds-under-a-in-loop-c c).In-Some).3

pub bounds-queue-queued : goal.bounds-queue-queued
bounds-queue-queued c =
    let k = (goal.at.bounds-queue-queued c).In-Some in
    (peels-free _ _ _ _ _ _ _ _ _ _ (place k).1 (place k).0 c.if-left-eq0.true).0

pub loop-c-preserved-then-left-eq0 : goal.loop-c-preserved-then-left-eq0
loop-c-preserved-then-left-eq0 c =
    let k = (goal.at.loop-c-preserved-then-left-eq0 c).In-Some in (
      c.in-Some.ensures.goes.keeps,
      tt,
      c.in-Some.ensures.steps.0 ∙ c.loop-c.invariant.2,
      rw (behind k) (peels-free _ _ _ _ _ _ _ _ _ _ (place k).1 (place k).0 c.if-left-eq0.true).1,
    )

pub loop-c-preserved : goal.loop-c-preserved
loop-c-preserved c =
    let k = (goal.at.loop-c-preserved c).In-Some in (
      c.in-Some.ensures.goes.keeps,
      tt,
      c.in-Some.ensures.steps.0 ∙ c.loop-c.invariant.2,
      rw (behind k) (peels-past _ _ _ _ _ _ _ _ _ _ (place k).1 (place k).0 c.if-left-eq0.false),
    )

pub returns : goal.returns
returns c = peels-end _ _ _ _ _ _ _ _ _ _ c.loop-c.invariant.3 c.in-None.ensures.steps.1
