-- What the parts of the row check answer over one row, and of the removal of parked pins over a row and the counts.
use Rattle.std.specs.Prelude.{ℕ, List, map, Bool, cond, length, get_or, ltb, eqb}
use Rattle.lists.specs.Lists.{keep, head_or, up_to, at}
use Rattle.channel.specs.Channel.{highest_net}

-- place p of the row holds a number over 511
abbrev pub high : List ℕ → ℕ → Bool
high row p = ltb highest_net (at row p)

-- the place of the first number over 511, 0 if there is none
unfoldable pub first_high : List ℕ → ℕ
first_high row = head_or 0 (keep (high row) (up_to (length row)))

-- the number is counted just once
abbrev pub once : List ℕ → ℕ → Bool
once counts n = eqb (get_or counts n 0) 1

-- the number, or 0 if it is counted just once; and so for each of a row
unfoldable pub unless_once : List ℕ → ℕ → ℕ
unless_once counts n = cond (once counts n) 0 n

abbrev pub nets_of_row : List ℕ → List ℕ → List ℕ
nets_of_row counts row = map (unless_once counts) row
