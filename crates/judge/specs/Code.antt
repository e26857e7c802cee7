-- What the judge's code answers and leaves, over the definitions.
use Rattle.std.specs.Prelude.{ℕ, ◌≡◌, List, ◌↔◌, length, Result}
use Rattle.std.proofs.Math.Option.{Option, none}
use Rattle.grid.specs.declared.Piece.{Piece}
use Rattle.grid.specs.Pieces.{column, row, kind_of, left, right, low, high}
use Rattle.channel.specs.Channel.{Channel}
use Rattle.channel.specs.Answers.{rows_refusal}
use Rattle.refusal.specs.declared.Refusal.{Refusal}
use Rattle.refusal.specs.Refusals.{◌or_else◌, ok_unless}
use Rattle.boardfile.specs.declared.Board.{Board}
use Rattle.boardfile.specs.Open.{piece_of, file_layout, open_refusal, board_of}
use Rattle.judge.specs.declared.boxes.Cover.{Cover}
use Rattle.judge.specs.declared.JudgeAnswer.{JudgeAnswer}
use Rattle.judge.specs.Answers.{wrong_board, judge_refusal, judge_answer, judge_told}
use Rattle.judge.specs.Promise.{FaultsAnswered, Passable}

-- the kind and the box of a piece, and of the piece of a word
unfoldable pub cover_of : Piece → Cover
cover_of p =
    record {
      kind = kind_of p;
      left = column (left p);
      right = column (right p);
      low = row (low p);
      high = row (high p);
    }

unfoldable pub box_of : ℕ → Cover
box_of v = cover_of (piece_of v)

-- what opening a board file for rows answers: 3 to 5, 8 to 10
abbrev pub board_refusal : Channel → List ℕ → Option Refusal
board_refusal ch board = rows_refusal ch or_else open_refusal board or_else wrong_board ch board

unfoldable pub board_answer : Channel → List ℕ → Result Board Refusal
board_answer ch board = ok_unless (board_refusal ch board) (board_of board)

-- What `judge` answers. Rules out: a judge that always says good (passes); one that reports a later short, or an open
-- where there is a short (places). Scratch may hold anything, at its old length.
pub record Judged (ch : Channel) (board scratch : List ℕ) (r : JudgeAnswer) (scratch' : List ℕ) : Type 0 where
  pub answer : r ≡ judge_answer ch board (length scratch)
  pub passes : ((judge_told r).number ≡ 0) ↔ Passable ch board (length scratch)
  pub places : judge_refusal ch board (length scratch) ≡ none → FaultsAnswered ch (file_layout board) r
  pub kept : length scratch' ≡ length scratch
