use Rattle.std.proofs.Common.{◌∙◌}
use Rattle.blanks.specs.Stock.{stock}
use Rattle.blanks.proofs.StockLaws.{stock-answer}
use Rattle.blanks.proofs.blank.Goals as goal

pub returns : goal.returns
unfolding stock
returns c = c.ok_or.ensures.value ∙ (rw c.first_that_holds.ensures (stock-answer c.args.tracks))
