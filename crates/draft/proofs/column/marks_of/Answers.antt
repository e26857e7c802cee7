use Rattle.std.proofs.Common.{◌-◌, ◌*◌, arith}
use Rattle.draft.specs.CodeLaws.{marks-eight}
use Rattle.draft.proofs.column.marks_of.Goals as goal

pub returns : goal.returns
returns c =
    let eight = marks-eight c.args.words.now ((c.args.c.0 - 1) * 8) in (
      omega (arith, eight, c.four_words.ensures.0, c.four_words-2.ensures.0),
      omega (arith, c.four_words.ensures.1, c.four_words-2.ensures.1),
    )
