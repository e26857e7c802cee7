use Rattle.grid.specs.Numbers.{order-lt}
use Rattle.draft.proofs.span.Span.new.Goals as goal

pub invariant_of-result : goal.invariant_of-result
invariant_of-result c = record { good = rw (c.is_number.ensures, c.lt.ensures, order-lt) at c.if-is_number-first.true }
