-- Each return is a law about the line feed that is due.
use Rattle.std.proofs.Common.{sym, arith}
use Rattle.pinlist.proofs.CodeLaws.{feed-none, feed-missing, feed-there}
use Rattle.pinlist.proofs.line.end_line.Goals as goal
use Rattle.pinlist.proofs.line.end_line.Goals.{then-text-at-via-then-text-at, then-text-at-via-else-text-at+then-text-at-ne10}

pub returns-then-text-at : goal.returns-then-text-at
returns-then-text-at c =
    elim c.then-text-at.branch [
      | then-text-at-via-then-text-at w ↦ sym (feed-none _ _ _ w.if-text-at.true)
      | then-text-at-via-else-text-at+then-text-at-ne10 w ↦
          sym (feed-missing _ _ _ (omega (arith, w.if-text-at.false)) w.if-text-at-ne10.true)
    ]

pub returns : goal.returns
returns c = sym (feed-there _ _ _ (omega arith) c.if-text-at-ne10.false)
