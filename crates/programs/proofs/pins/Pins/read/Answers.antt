-- A text over the limit (`over-unread`), one that is refused (`text-refused`), and one that is read (`read-rows`).
use Rattle.std.proofs.Common.{refl, arith}
use Rattle.refusal.specs.ChainLaws.{handed-on}
use Rattle.programs.specs.CodeLaws.{over-unread, text-refused, width-fits, front-escapes, read-rows}
use Rattle.programs.proofs.pins.Pins.read.Goals as goal

pub returns-then-text-gt-INPUT_LIMIT-clause-unread : goal.returns-then-text-gt-INPUT_LIMIT-clause-unread
returns-then-text-gt-INPUT_LIMIT-clause-unread c = over-unread _ c.if-text-gt-INPUT_LIMIT.true

pub returns-in_err-width-clause-unread : goal.returns-in_err-width-clause-unread
returns-in_err-width-clause-unread c =
    let told =
    text-refused _ c.if-text-gt-INPUT_LIMIT.false (omega arith) (omega arith) c.read.ensures _ c.in_err-width.was in
    rw (handed-on _ c.from_residual.ensures.1) told

pub invariant_of-result : goal.invariant_of-result
invariant_of-result c = record {
  narrow = width-fits _ c.if-text-gt-INPUT_LIMIT.false (omega arith) (omega arith) c.read.ensures c.in_ok-width.was;
  escape = front-escapes _ c.if-text-gt-INPUT_LIMIT.false (omega arith) (omega arith) c.read.ensures c.in_ok-width.was;
}

pub returns-clause-read : goal.returns-clause-read
returns-clause-read c =
    read-rows _ c.if-text-gt-INPUT_LIMIT.false (omega arith) (omega arith) c.read.ensures c.in_ok-width.was _ refl refl refl
