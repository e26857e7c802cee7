use Rattle.std.proofs.Common.{arith}
use Rattle.draft.specs.CodeLaws.{marks-four}
use Rattle.draft.proofs.column.four_words.Goals as goal

pub returns : goal.returns
returns c =
    let four = marks-four c.args.words.now c.args.i (omega arith) in (
      omega (arith, four, c.ones_at.ensures.0, c.ones_at-2.ensures.0, c.ones_at-3.ensures.0, c.ones_at-4.ensures.0),
      omega (arith, c.ones_at.ensures.1, c.ones_at-2.ensures.1, c.ones_at-3.ensures.1, c.ones_at-4.ensures.1),
    )
