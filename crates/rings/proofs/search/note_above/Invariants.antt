-- The loop's invariant is `NotesOn`: what is noted is what is so far and what the places left bring, and the nets so far
-- stand at the end of the first `queued` of the queue. The links rise, so what remains of the table falls.
use Rattle.items.specs.Chains.{remaining}
use Rattle.rings.specs.NoteLaws.{NotesOn}
use Rattle.rings.proofs.search.note_above.Given as goal

abbrev pub invariant-loop-c : goal.invariant-loop-c
invariant-loop-c l =
    NotesOn l.upper l.next l.fn.far l.fn.queue l.initial.c l.distance l.initial.queued l.far l.queue l.c l.queued

abbrev pub decreases-loop-c : goal.decreases-loop-c
decreases-loop-c l = remaining l.next l.c
