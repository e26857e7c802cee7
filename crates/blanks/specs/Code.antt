-- What the functions over a table of blanks answer.
use Rattle.std.specs.Prelude.{ℕ, ◌≡◌, List, Result}
use Rattle.lists.specs.Lists.{head_or}
use Rattle.refusal.specs.declared.Refusal.{Refusal}
use Rattle.blanks.specs.Stock.{blank_told}
use Rattle.blanks.specs.Laminate.{own_answer}
use Rattle.blanks.specs.Promise.{OwnPromise}

-- the place of a refusal, or the tracks of the blank chosen
abbrev pub value_told : Result ℕ Refusal → ℕ
value_told a = head_or 0 (blank_told a).values

-- the answer for a customer's own table
pub record OwnDone (table : List ℕ) (t : ℕ) (a : Result ℕ Refusal) : Type 0 where
  pub answer : a ≡ own_answer table t
  pub promise : OwnPromise table t (blank_told a).number (value_told a)
