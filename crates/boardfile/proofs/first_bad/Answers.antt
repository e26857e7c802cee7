use Rattle.std.proofs.Common.{arith, below_more}
use Rattle.boardfile.specs.CodeLaws.{some-made, first-bad-at, none-bad}
use Rattle.boardfile.proofs.first_bad.Goals as goal

pub returns-then-is_none : goal.returns-then-is_none
returns-then-is_none c =
    let made = rw (c.piece_in.ensures, c.word_at.ensures, some-made, c.if-is_none.true) at c.is_none.ensures in
    first-bad-at _ _ _ _ c.loop-i.i (omega arith) (omega arith) c.loop-i.invariant made

pub returns : goal.returns
returns c = none-bad _ _ _ _ (λ k l m. c.loop-i.invariant k (omega arith) m)

-- past the last piece
pub returns-else-is_none : goal.returns-else-is_none
returns-else-is_none c =
    let made = rw (c.piece_in.ensures, c.word_at.ensures, some-made, c.if-is_none.false) at c.is_none.ensures in
    none-bad _ _ _ _ (λ k l m. below_more _ _ c.loop-i.invariant (λ n. made) k (omega arith) m)
