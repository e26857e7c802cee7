-- What the calls on a draft answer, and what the lent words then hold: of any memory; and of a memory after a list of
-- calls that the list goes on by this call, and what Req 14 promises of the answer.
use Rattle.std.specs.Prelude.{ℕ, ◌≤◌, ◌≡◌, List, [], ◌∷◌, ◌++◌, length, Result, Ok}
use Rattle.lists.specs.Lists.{keep, from}
use Rattle.refusal.specs.declared.Refusal.{Refusal}
use Rattle.draft.specs.Marks.{LongDraft, IsColumn, marked, count_of, greatest_of}
use Rattle.draft.specs.Answers.{short_draft, arrive_refusal, leave_refusal, change_answer, ask_answer}
use Rattle.draft.specs.Answers.{arrive_after, leave_after, clear_after}
use Rattle.draft.specs.History.{Call, arrive, leave, clear, after_calls, nets_here, span_count, span_greatest, Empty}

-- the memory after a list of calls, and after this call the memory after the list with it at its end
abbrev pub GoesOn : List ℕ → Call → List ℕ → Type 0
GoesOn words call words' =
    (start : List ℕ) (calls : List Call) → words ≡ after_calls start calls
    → words' ≡ after_calls start (calls ++ (call ∷ []))

-- the memory is that of a draft that began empty, after these calls
pub record After (calls : List Call) (words : List ℕ) : Type 0 where
  pub start : List ℕ
  pub began : Empty start
  pub held : words ≡ after_calls start calls

-- a column has at most 512 marks
abbrev pub Few : Result ℕ Refusal → Type 0
Few r = (k : ℕ) → r ≡ Ok k → k ≤ 512

-- Rules out: a net that is here marked in its new columns too, and one of them forgotten (words_held); 22 told before 21
-- (answer)
pub record ArriveDone (words : List ℕ) (n first last : ℕ) (r : Result (Unit {0}) Refusal) (words' : List ℕ) : Type 0 where
  pub answer : r ≡ change_answer (arrive_refusal words n first last)
  pub words_held : words' ≡ arrive_after words n first last
  pub goes_on : GoesOn words (arrive n first last) words'

-- Rules out: a mark left in a column, and another net's taken (words_held); a net refused that is in the last column
-- alone (answer)
pub record LeaveDone (words : List ℕ) (n : ℕ) (r : Result (Unit {0}) Refusal) (words' : List ℕ) : Type 0 where
  pub answer : r ≡ change_answer (leave_refusal words n)
  pub words_held : words' ≡ leave_after words n
  pub goes_on : GoesOn words (leave n) words'

-- Rules out: the marks of the last word not counted, and the words after the draft taken for a column 513 (answer)
pub record CountDone (words : List ℕ) (c : ℕ) (r : Result ℕ Refusal) : Type 0 where
  pub answer : r ≡ ask_answer (short_draft words) (count_of words c)
  pub few : Few r
  -- "its density is the number of marks"
  pub marks : (k : ℕ) → r ≡ Ok k → IsColumn c → k ≡ length (keep (marked words c) (from 0 512))
  -- Req 14
  pub promise : (calls : List Call) → After calls words → r ≡ Ok (span_count (nets_here calls) c)

-- Rules out: the count of the last column, or of the first with a mark (answer)
pub record GreatestDone (words : List ℕ) (r : Result ℕ Refusal) : Type 0 where
  pub answer : r ≡ ask_answer (short_draft words) (greatest_of words)
  pub few : Few r
  -- Req 14
  pub promise : (calls : List Call) → After calls words → r ≡ Ok (span_greatest (nets_here calls))

-- Rules out: a last word kept, and words after the 4,096 cleared (words_held)
pub record ClearDone (words : List ℕ) (r : Result (Unit {0}) Refusal) (words' : List ℕ) : Type 0 where
  pub answer : r ≡ change_answer (short_draft words)
  pub words_held : words' ≡ clear_after words
  pub goes_on : GoesOn words clear words'
  -- a draft begins so
  pub empty : LongDraft words → Empty words'
