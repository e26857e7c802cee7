-- The counts lowered for the places left are those lowered for all.
use Rattle.std.proofs.Common.{◌≡◌}
use Rattle.items.specs.StepLaws.{LowersOn}
use Rattle.items.proofs.steps.lower_above.Given as goal

abbrev pub invariant-loop-c : goal.invariant-loop-c
invariant-loop-c l =
    (goal.iterator-loop-c).can_next l.c-iterator × (goal.iterator-loop-c).is_finite l.c-iterator
    × (l.c-iterator.links.now ≡ l.next) × LowersOn l.upper l.next l.fn.under l.start l.under l.c-iterator.at
