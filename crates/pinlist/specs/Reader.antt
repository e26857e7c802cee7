-- The reader of a pin list as a function: an automaton that takes a byte at a time. The laws of ReaderLaws say that
-- it answers the rows of exactly the texts of the form, and the place of `GarbledAt` for every other text.
use Rattle.std.specs.Prelude.{ℕ, suc, ◌+◌, ◌-◌, ◌*◌, List, [], ◌∷◌, ◌++◌, cond, eqb}
use Rattle.std.proofs.Math.Option.{Option, none, some}
use Rattle.lists.specs.Lists.{within}
use Rattle.lists.specs.Bytes.{bytes}

-- where the reader stands in a line: these bytes are due, the last of them a space, and then a digit or further spaces;
-- or the number 0 was read; or digits with this value; or a carriage return, and a line feed is due
pub data Stand : Type 0 where
  due : List ℕ → Stand
  zero_read : Stand
  digits : ℕ → Stand
  returned : Stand

-- what a byte does to a line with these numbers: it goes on, it ends, or the byte does not belong
pub data LineStep : Type 0 where
  on : Stand → List ℕ → LineStep
  closed : List ℕ → LineStep
  stuck : LineStep

-- after a number: a space, and another number is due; a line feed; or a carriage return
unfoldable pub after_number : ℕ → List ℕ → ℕ → LineStep
after_number n ns b =
    cond (eqb b 0x20) (on (due []) (ns ++ (n ∷ [])))
    (cond (eqb b 0x0A) (closed (ns ++ (n ∷ []))) (cond (eqb b 0x0D) (on returned (ns ++ (n ∷ []))) stuck))

-- where a number is due: its first digit
unfoldable pub first_digit : List ℕ → ℕ → LineStep
first_digit ns b = cond (eqb b 48) (on zero_read ns) (cond (within 49 b 57) (on (digits (b - 48)) ns) stuck)

unfoldable pub line_step : Stand → List ℕ → ℕ → LineStep
line_step (due []) ns b = cond (eqb b 0x20) (on (due []) ns) (first_digit ns b)
line_step (due (d ∷ ds)) ns b = cond (eqb b d) (on (due ds) ns) stuck
line_step zero_read ns b = after_number 0 ns b
line_step (digits n) ns b = cond (within 48 b 57) (on (digits (n * 10 + (b - 48))) ns) (after_number n ns b)
line_step returned ns b = cond (eqb b 0x0A) (closed ns) stuck

-- the line that is read, with the numbers so far; or both are read
pub data State : Type 0 where
  in_top : Stand → List ℕ → State
  in_bot : List ℕ → Stand → List ℕ → State
  ended : List ℕ → List ℕ → State

-- a line's word and the first space are due
abbrev pub start : State
start = in_top (due (bytes "TOP ")) []

unfoldable pub top_step : LineStep → Option State
top_step (on s ns) = some (in_top s ns)
top_step (closed ns) = some (in_bot ns (due (bytes "BOT ")) [])
top_step stuck = none

unfoldable pub bot_step : List ℕ → LineStep → Option State
bot_step top (on s ns) = some (in_bot top s ns)
bot_step top (closed ns) = some (ended top ns)
bot_step top stuck = none

unfoldable pub step : State → ℕ → Option State
step (in_top s ns) b = top_step (line_step s ns b)
step (in_bot top s ns) b = bot_step top (line_step s ns b)
step (ended top bot) b = none

-- what a text is read as
pub data TextRead : Type 0 where
  rows : List ℕ → List ℕ → TextRead
  garbled : ℕ → TextRead

-- at the end of the text, after k bytes
unfoldable pub at_end : State → ℕ → TextRead
at_end (in_top s ns) k = garbled k
at_end (in_bot top s ns) k = garbled k
at_end (ended top bot) k = rows top bot

unfoldable pub read_from : State → ℕ → List ℕ → TextRead
read_from s k [] = at_end s k
read_from s k (b ∷ bs) = elim (step s b) [ none ↦ garbled k | some s' ↦ read_from s' (suc k) bs ]

unfoldable pub read_text : List ℕ → TextRead
read_text text = read_from start 0 text
