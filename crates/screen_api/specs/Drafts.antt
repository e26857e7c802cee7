-- SCOPE, Req 14: what the entries of a draft answer to C, and what the lent words then hold, as the call that each is.
use Rattle.std.specs.Prelude.{ℕ, ◌≡◌, List}
use Rattle.refusal.specs.Refusals.{Told}
use Rattle.draft.specs.Marks.{LongDraft}
use Rattle.draft.specs.History.{Call, clear, after_call, call_told, nets_here, nets_told, Empty}
use Rattle.draft.specs.Code.{GoesOn, After}
use Rattle.screen_api.specs.Numbers.{packed, entry_number, refusal_in, place_in}

-- C reads in r just what was answered: no place of a draft's refusal is over 2^32 - 1
pub record Reads (told : Told) (r : ℕ) : Type 0 where
  pub number : refusal_in r ≡ told.number
  pub place : place_in r ≡ packed told.values

-- Req 14, of the number r: what is told by the nets that have arrived and not left since
abbrev pub TellsNets : List ℕ → Call → ℕ → Type 0
TellsNets words call r = (calls : List Call) → After calls words → Reads (nets_told (nets_here calls) call) r

-- A call that changes the draft. Rules out: a place cut to the numbers that a net can have, and a refusal's number told
-- as a value (read); words changed under a refusal (words_held); a net that left still here to 22 (promise)
pub record ChangeEntry (words : List ℕ) (call : Call) (r : ℕ) (words' : List ℕ) : Type 0 where
  pub answer : r ≡ entry_number (call_told words call)
  pub read : Reads (call_told words call) r
  pub words_held : words' ≡ after_call words call
  pub goes_on : GoesOn words call words'
  pub promise : TellsNets words call r

-- Rules out: a draft that begins with a mark (empty)
pub record ClearEntry (words : List ℕ) (r : ℕ) (words' : List ℕ) : Type 0 where
  pub change : ChangeEntry words clear r words'
  pub empty : LongDraft words → Empty words'

-- A call that asks; the words are only read. Rules out: a count in eight bits (read); a column outside refused
-- (answer); a net counted that has left (promise)
pub record AskEntry (words : List ℕ) (call : Call) (r : ℕ) : Type 0 where
  pub answer : r ≡ entry_number (call_told words call)
  pub read : Reads (call_told words call) r
  pub promise : TellsNets words call r
