-- SCOPE, "Judge, blanks, programs": the answer to rows and a board file, tangled lists too; "the judge skips 7".
use Rattle.std.specs.Prelude.{ℕ, List, [], ◌∷◌, not, eqb}
use Rattle.std.proofs.Math.Option.{Option, none, some}
use Rattle.refusal.specs.declared.Refusal.{Refusal}
use Rattle.refusal.specs.declared.Refusal.TheVariants.{WrongBoard}
use Rattle.refusal.specs.Refusals.{Told, told_refusal, told_values, refuse_if, ◌or_else◌, answered}
use Rattle.refusal.specs.Trays.{scratch_tray, short_tray}
use Rattle.channel.specs.Channel.{Channel, width}
use Rattle.channel.specs.Answers.{rows_refusal}
use Rattle.boardfile.specs.Open.{open_refusal, file_width, file_tracks, file_layout}
use Rattle.judge.specs.declared.Fault.{Fault}
use Rattle.judge.specs.declared.Fault.TheVariants.{Short, Open, Floating}
use Rattle.judge.specs.declared.JudgeAnswer.{JudgeAnswer}
use Rattle.judge.specs.declared.JudgeAnswer.TheVariants.{Good, Faulty, Refused}
use Rattle.judge.specs.Finding.{finding}

-- 10: "width differs from the rows; that width"
unfoldable pub wrong_board : Channel → List ℕ → Option Refusal
wrong_board ch board = refuse_if (not (eqb (file_width board) (width ch))) (WrongBoard (file_width board))

-- 1, 3 to 5, 8 to 10, where scratch of this length is lent
unfoldable pub judge_refusal : Channel → List ℕ → ℕ → Option Refusal
judge_refusal ch board scratch =
    short_tray (record { lent = scratch; needed = scratch_tray } ∷ []) or_else rows_refusal ch or_else open_refusal board
    or_else wrong_board ch board

unfoldable pub judged : ℕ → Option Fault → JudgeAnswer
judged tracks none = Good tracks
judged tracks (some f) = Faulty f

unfoldable pub judge_answer : Channel → List ℕ → ℕ → JudgeAnswer
judge_answer ch board scratch =
    let found = judged (file_tracks board) (finding ch (file_layout board)) in
    answered Refused (judge_refusal ch board scratch) found

-- the faults' numbers and places in the table
unfoldable pub fault_number : Fault → ℕ
fault_number (Short p) = 11
fault_number (Open p) = 12
fault_number (Floating i) = 13

unfoldable pub fault_place : Fault → ℕ
fault_place (Short p) = p
fault_place (Open p) = p
fault_place (Floating i) = i

unfoldable pub judge_told : JudgeAnswer → Told
judge_told (Good t) = told_values (t ∷ [])
judge_told (Faulty f) = record { number = fault_number f; values = fault_place f ∷ [] }
judge_told (Refused r) = told_refusal r
