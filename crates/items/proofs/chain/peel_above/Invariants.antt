-- What is freed is what stands behind the first `queued` of the queue, and what the places left free.
use Rattle.std.proofs.Common.{◌≡◌}
use Rattle.items.specs.PeelLaws.{PeelsOn}
use Rattle.items.proofs.chain.peel_above.Given as goal

abbrev pub invariant-loop-c : goal.invariant-loop-c
invariant-loop-c l =
    (goal.iterator-loop-c).can_next l.c-iterator × (goal.iterator-loop-c).is_finite l.c-iterator
    × (l.c-iterator.links.now ≡ l.fn.linked.links.now)
    × PeelsOn l.upper l.fn.linked.links.now l.fn.under l.fn.queue l.fn.linked.at l.fn.queued l.under l.queue l.c-iterator.at l.queued
