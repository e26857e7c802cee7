-- A turn is `turn_level` or `turn_on`, then `turn-next`; the two ends are `turn-all` and `turn-never`.
use Rattle.std.proofs.Common.{ℕ, ◌+◌, ◌<◌, arith, refl, ◌∙◌, List}
use borrow.Author.Rules.{Fits-under}
use Rattle.items.specs.Depths.{StepsCounted}
use Rattle.items.specs.PeelTurns.{PeelTurn, turn-levels, turn-falls, turn-start, turn-order}
use Rattle.items.specs.PeelTurns.{turn_level, turn_on, turn-item, turn-all, turn-never, turn-left, turn-peels, turn-next}
use Rattle.items.proofs.chain.longest_chain.Goals as goal
use Rattle.items.proofs.chain.longest_chain.Goals.{Joined-done-level, then-done-level, else-done-level}

pub loop-done-init : goal.loop-done-init
loop-done-init c =
    let lowest = c.queue_lowest-queued.ensures in
    let p = c.requires in (
      refl,
      c.queue_lowest-queued.auto.queue,
      λ below s. rw (lowest.0, lowest.1) (turn-start below _ _ _ p.distinct p.room s.counted),
    )

pub overflow_add-levels : goal.overflow_add-levels
overflow_add-levels c =
    let k = c.loop-done.invariant.2 c.requires.below c.requires.steps in
    Fits-under _ _ 4294967296 (turn-levels _ _ _ _ _ _ _ _ _ _ k c.loop-done-test.true c.requires.few k.few) tt

-- where the branches join, the item of a turn is known to be of the present level
here : (c : Joined-done-level) (below : ℕ → List ℕ)
    → StepsCounted below c.args.items.now c.args.upper.now c.args.head.now c.args.next.now c.args.under.now
    → PeelTurn below c.args.items.now c.args.queue.now c.loop-done.under c.loop-done.queue c.loop-done.queued
    c.loop-done.done c.if-done-level.level c.if-done-level.levels (c.loop-done.done + 1)
    × (c.loop-done.done < c.if-done-level.level)
here c below s =
    let p = c.loop-done.invariant.2 below s in
    let some = c.loop-done-test.true in
    let o = turn-order _ _ _ _ _ _ _ _ _ _ p in
    elim c.if-done-level.branch [
      | then-done-level w ↦ rw (w.level-is, w.levels-is) (
        turn_level _ _ _ _ _ _ _ _ _ _ p w.if-done-level.true some p.few,
        some,
      )
      | else-done-level w ↦ rw (w.level-is, w.levels-is) (
        turn_on _ _ _ _ _ _ _ _ _ _ p p.few,
        (let apart = w.if-done-level.false in omega arith),
      )
    ]

pub bounds-head-n : goal.bounds-head-n
bounds-head-n c =
    let h = here (goal.at.bounds-head-n c).Joined-done-level c.requires.below c.requires.steps in
    (c.requires.number _ (turn-item _ _ _ _ _ _ _ _ _ _ h.0 h.1)).0

pub peel_above-queued-requires : goal.peel_above-queued-requires
peel_above-queued-requires c =
    let h = here (goal.at.peel_above-queued-requires c).Joined-done-level c.requires.below c.requires.steps in
    rw (c.linked_from.ensures.0, c.linked_from.ensures.1)
    (turn-peels _ _ _ _ _ _ _ _ _ _ h.0 _ _ _ c.requires.steps.stepped h.1
    (let r = c.requires.room in omega arith))

pub loop-done-smaller : goal.loop-done-smaller
loop-done-smaller c =
    turn-falls _ _ _ _ _ _ _ _ _ _ (c.loop-done.invariant.2 c.requires.below c.requires.steps) c.loop-done-test.true

pub loop-done-preserved : goal.loop-done-preserved
loop-done-preserved c =
    let peeled = c.peel_above-queued in (
      peeled.auto.under ∙ c.loop-done.invariant.0,
      peeled.auto.queue ∙ c.loop-done.invariant.1,
      λ below s. let h = here (goal.at.loop-done-preserved c).Joined-done-level below s in
          turn-next _ _ _ _ _ _ _ _ _ _ h.0 _ _ _ s.stepped h.1 (let r = c.requires.room in omega arith) _ _ _ h.0.few
          (rw (c.linked_from.ensures.0, c.linked_from.ensures.1) at peeled.ensures),
    )

pub returns-then-queued-items : goal.returns-then-queued-items
returns-then-queued-items c below s =
    let p = c.loop-done.invariant.2 below s in
    let left = c.loop-done-test.false in (
      turn-all _ _ _ _ _ _ _ _ _ _ p _ _ _ s.stepped left p.few c.if-queued-items.true,
      turn-left _ _ _ _ _ _ _ _ _ _ p _ _ _ s.stepped left,
    )

pub returns-else-queued-items : goal.returns-else-queued-items
returns-else-queued-items c below s =
    let p = c.loop-done.invariant.2 below s in
    let left = c.loop-done-test.false in (
      turn-never _ _ _ _ _ _ _ _ _ _ p _ _ _ s.stepped left c.requires.distinct c.if-queued-items.false,
      turn-left _ _ _ _ _ _ _ _ _ _ p _ _ _ s.stepped left,
    )
