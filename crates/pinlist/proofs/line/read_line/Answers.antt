-- `pinlist::line::read_line` meets its contract: a word that does not stand whole breaks the line (`word_cut`), and
-- behind a whole one the numbers make the line (`word-whole`).
use native.Mathlib.Omega.{arith}
use Rattle.pinlist.proofs.RowLaws.{word_cut, word_room, word-whole}
use Rattle.pinlist.proofs.line.read_line.Goals as goal

pub returns-then-same-lt4 : goal.returns-then-same-lt4
returns-then-same-lt4 c =
    word_cut _ _ _ 4 c.requires (omega arith) _ _
    c.shared_word-same.ensures c.if-same-lt4.true

pub read_numbers-requires : goal.read_numbers-requires
read_numbers-requires c = word_room _ _ _ 4 c.requires (omega arith) c.shared_word-same.ensures c.if-same-lt4.false

pub returns : goal.returns
returns c =
    word-whole _ _ _ 4 c.requires (omega arith) _ _ c.read_numbers.result
    c.shared_word-same.ensures c.if-same-lt4.false c.read_numbers.ensures
