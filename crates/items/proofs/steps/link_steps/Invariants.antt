-- The steps of the places behind i are linked and counted.
use Rattle.std.proofs.Common.{length}
use Rattle.items.specs.LinkLaws.{LinkedPast}
use Rattle.items.proofs.steps.link_steps.Given as goal

abbrev pub invariant-loop-i : goal.invariant-loop-i
invariant-loop-i l =
    LinkedPast l.upper l.lower (length l.fn.head) (length l.fn.next) (length l.fn.under) l.i l.head l.next l.under
