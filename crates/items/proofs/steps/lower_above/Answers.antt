-- A turn is `lowers-next`.
use Rattle.std.proofs.Common.{ℕ, ◌≡◌, ◌-◌, ◌≤◌, ◌<◌, List, length, refl, ◌∙◌, ap, arith, get_or}
use Rattle.items.specs.StepLaws.{LowersOn, lowers-start, lowers-end, here, lowers-next}
use Rattle.items.proofs.steps.lower_above.Goals as goal
use Rattle.items.proofs.steps.lower_above.Goals.{In-Some}

-- the place of a turn, and what is known of it
place : (c : In-Some)
    → (c.in-Some.c ≡ 0 → ⊥)
    × LowersOn c.args.upper.now c.args.next.now c.args.under.now c.args.start c.loop-c.under c.in-Some.c
place c = let step = c.in-Some.ensures.steps in (λ e. let positive = step.1.0 in omega arith, rw step.1.1 at c.loop-c.invariant.3)

known : (c : In-Some) → let a = get_or c.args.upper.now (c.in-Some.c - 1) 0 in
    (0 < c.in-Some.c) × (c.in-Some.c < length c.args.next.now) × (c.in-Some.c - 1 < length c.args.upper.now)
    × (a < length c.loop-c.under) × (1 ≤ get_or c.loop-c.under a 0)
known c = here _ _ _ _ _ _ (place c).1 (place c).0

pub loop-c-init : goal.loop-c-init
loop-c-init c =
    let links = c.linked_from-c-items.ensures in
    let r = c.requires in
    rw (c.into_iter-c-iterator.ensures.into_iter_gives, links.0, links.1)
    (record { numbers = r.places; chained = r.chained; rising = r.rising }, tt, refl, lowers-start _ _ _ _ r)

pub bounds-upper-c : goal.bounds-upper-c
bounds-upper-c c = (known (goal.at.bounds-upper-c c).In-Some).2

pub bounds-under-a : goal.bounds-under-a
bounds-under-a c = (known (goal.at.bounds-under-a c).In-Some).3

pub overflow_sub-under : goal.overflow_sub-under
overflow_sub-under c = (known (goal.at.overflow_sub-under c).In-Some).4

pub bounds-under-a-in-loop-c : goal.bounds-under-a-in-loop-c
bounds-under-a-in-loop-c c = (known (goal.at.bounds-under-a-in-loop-c c).In-Some).3

pub loop-c-preserved : goal.loop-c-preserved
loop-c-preserved c =
    let k = (goal.at.loop-c-preserved c).In-Some in
    let step = c.in-Some.ensures.steps in
    let links = c.loop-c.invariant.2 in
    let on : c.next.new.self.at ≡ get_or c.args.next.now c.in-Some.c 0 =
    step.1.2 ∙ ap (λ (next : List ℕ). get_or next c.in-Some.c 0) links in
    (c.in-Some.ensures.goes.keeps, tt, step.0 ∙ links, rw on (lowers-next _ _ _ _ _ _ (place k).1 (place k).0))

pub returns : goal.returns
returns c = lowers-end _ _ _ _ _ _ c.loop-c.invariant.3 c.in-None.ensures.steps.1
