-- When the bytes of a case make its question, and what an answer tells of it.
use Rattle.std.specs.Prelude.{ℕ, ◌≡◌, ◌<◌, ◌≤◌, ◌-◌, ◌+◌, ◌*◌, ◌/◌, List, Bool, true, false, length, take, eqb, leb, slice_index, Result, Ok, Err, MatchResult, ⊤}
use Rattle.cases.specs.Cases.{rows_whole, beside_whole, draft_whole, number_at, numbers_at}
use Rattle.cases.specs.declared.question.Question.{Question}
use Rattle.cases.specs.declared.question.Question.TheVariants.{Open, Piece, Blank, Read, Check, Bounds, Fill, Judge, Looks, Own, Fewest, Join, Draft}
use Rattle.cases.specs.declared.question.Unanswered.{Unanswered}
use Rattle.cases.specs.declared.question.Unanswered.TheVariants.{Cut, Failed}
use Rattle.cases.specs.declared.row.Row.{Row}
use Rattle.cases.specs.declared.rows.Rows.{Rows}
use Rattle.cases.specs.declared.drafts.Call.{Call}

-- a case that is cut is one whose bytes are not whole; of a read or write that failed nothing is told
abbrev pub CutUnless : Bool → Unanswered → Type 0
CutUnless whole Cut = whole ≡ false
CutUnless whole (Failed e) = ⊤

-- an answer tells whether the bytes make the question
abbrev pub Tells : Result (Unit {0}) Unanswered → Bool → Type 0
Tells (Ok v) whole = whole ≡ true
Tells (Err e) whole = CutUnless whole e

-- the byte that stands for a kind
abbrev pub kind_of : Question → ℕ
kind_of Open = 0
kind_of Piece = 1
kind_of Blank = 2
kind_of Read = 3
kind_of Check = 4
kind_of Bounds = 5
kind_of Fill = 6
kind_of Judge = 7
kind_of Looks = 8
kind_of Own = 9
kind_of Fewest = 10
kind_of Join = 11
kind_of Draft = 12

-- the result is the question of this kind, or a cut case where no question has it
abbrev pub Asks : ℕ → Result Question Unanswered → Type 0
Asks kind r = MatchResult r (λ q. kind_of q ≡ kind) (λ e. (e ≡ Cut) × (12 < kind))

-- the bytes make a question of this kind
abbrev pub is_whole : Question → List ℕ → Bool
is_whole Open bytes = true
is_whole Piece bytes = leb 2 (length bytes)
is_whole Blank bytes = eqb (length bytes) 2
is_whole Read bytes = true
is_whole Check bytes = rows_whole bytes
is_whole Bounds bytes = rows_whole bytes
is_whole Fill bytes = rows_whole bytes
is_whole Judge bytes = beside_whole bytes
is_whole Looks bytes = rows_whole bytes
is_whole Own bytes = rows_whole bytes
is_whole Fewest bytes = rows_whole bytes
is_whole Join bytes = beside_whole bytes
is_whole Draft bytes = draft_whole bytes

-- the numbers of a row
abbrev pub row_of : Row → List ℕ
row_of row = take row.count row.numbers

-- the rows in bytes, of which TOP has a numbers and BOT b
abbrev pub HasRows : List ℕ → ℕ → ℕ → Rows → Type 0
HasRows bytes a b rows = (row_of rows.top ≡ numbers_at bytes 2 a) × (row_of rows.bot ≡ numbers_at bytes (2 + 2 * a) b)

-- the rows in bytes, or a cut case where they are not there or are too long
abbrev pub ReadsRows : List ℕ → Result Rows Unanswered → Type 0
ReadsRows bytes (Ok rows) =
    (rows_whole bytes ≡ true) × HasRows bytes (number_at bytes 0) ((length bytes - 2) / 2 - number_at bytes 0) rows
ReadsRows bytes (Err e) = CutUnless (rows_whole bytes) e

-- the kind of a call is one up to 4, or it is cut
abbrev pub Calls : List ℕ → Result Call Unanswered → Type 0
Calls numbers r = MatchResult r (λ call. slice_index numbers 0 ≤ 4) (λ e. (e ≡ Cut) × (4 < slice_index numbers 0))
