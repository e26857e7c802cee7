-- SCOPE, "Board file": "A board reader is opened over the lent board bytes and answers the piece of a given number."
use Rattle.std.specs.Prelude.{ℕ, List, cond, Result, Ok, Err}
use Rattle.lists.specs.Lists.{within}
use Rattle.refusal.specs.declared.Refusal.{Refusal}
use Rattle.refusal.specs.declared.Refusal.TheVariants.{BadField}
use Rattle.grid.specs.declared.Piece.{Piece}
use Rattle.boardfile.specs.declared.Board.{Board}
use Rattle.boardfile.specs.Open.{open_answer, piece_answer}

-- the pieces of a board file by what opening it answers: none where it is refused
unfoldable pub count_in : Result Board Refusal → ℕ
count_in (Ok b) = b.count
count_in (Err r) = 0

-- the count that a reader opened over these bytes holds
unfoldable pub reader_count : List ℕ → ℕ
reader_count bs = count_in (open_answer bs)

-- "pieces count from 1, and another number gives 9 with that number as place"
unfoldable pub reader_piece : List ℕ → ℕ → ℕ → Result Piece Refusal
reader_piece bs count n = cond (within 1 n count) (piece_answer bs n) (Err (BadField n))

-- what a reader opened over these bytes answers to the number of a piece
abbrev pub read_answer : List ℕ → ℕ → Result Piece Refusal
read_answer bs n = reader_piece bs (reader_count bs) n
