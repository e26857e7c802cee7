-- What the code of this crate says of its parts.
use Rattle.std.specs.Prelude.{ℕ, ◌*◌, ◌<◌, List, Bool, not}
use Rattle.grid.specs.declared.Piece.{Piece}
use Rattle.grid.specs.Words.{line_of, from_of, to_of}
use Rattle.boardfile.specs.Open.{word_at, word_right}

-- the words of a piece have ten bits each
pub record SmallWords (p : Piece) : Type 0 where
  pub line : line_of p < 1024
  pub start : from_of p < 1024
  pub end : to_of p < 1024

-- the word of piece i breaks a range or kind
abbrev pub wrong_piece : List ℕ → ℕ → ℕ → ℕ → Bool
wrong_piece bs w t i = not (word_right w t (word_at bs (4 * i)))
