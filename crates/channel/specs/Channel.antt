-- SCOPE, "Pin list" and "Spans and constraints", and Req 04: a channel's rows, its parked pins, its nets, their pins
-- and spans.
use Rattle.std.specs.Prelude.{ℕ, List, map, ◌++◌, Bool, cond, ◌&&◌, ◌||◌, length, ltb, eqb}
use Rattle.lists.specs.Lists.{keep, up_to, head_or, last_or, at}

-- the TOP row and the BOT row; column c is place c of each, and 0 means no pin
pub record Channel : Type 0 where
  pub top : List ℕ
  pub bot : List ℕ

-- the channel of two rows that are handed over
abbrev pub rows : List ℕ → List ℕ → Channel
rows top bot = record { top = top; bot = bot }

abbrev pub width : Channel → ℕ
width ch = length ch.top

-- "Pin positions are 1 to w for TOP, w+1 to 2w for BOT"
abbrev pub positions : Channel → List ℕ
positions ch = ch.top ++ ch.bot

-- "nets are 1 to 511"
abbrev pub highest_net : ℕ
highest_net = 511

-- "w is 1 to 512"
abbrev pub widest : ℕ
widest = 512

-- the pins that carry number n, counted
unfoldable pub pin_count : Channel → ℕ → ℕ
pin_count ch n = length (keep (eqb n) (positions ch))

-- SCOPE, Req 04: "A net with just one pin is parked"; 0 means no pin
unfoldable pub is_parked : Channel → ℕ → Bool
is_parked ch n = ltb 0 n && eqb (pin_count ch n) 1

-- the number names a net that is routed: it has more than one pin. SCOPE, Req 04: a parked one has "no record, no
-- copper, no part in spans or the above relation". Every definition below asks here
unfoldable pub is_net : Channel → ℕ → Bool
is_net ch n = ltb 0 n && ltb 1 (pin_count ch n)

-- "with the parked pins removed"
unfoldable pub unless_parked : Channel → ℕ → ℕ
unless_parked ch n = cond (is_parked ch n) 0 n

unfoldable pub without_parked : Channel → Channel
without_parked ch = rows (map (unless_parked ch) ch.top) (map (unless_parked ch) ch.bot)

-- column c holds a pin of number n
abbrev pub stands : Channel → ℕ → ℕ → Bool
stands ch n c = eqb (at ch.top c) n || eqb (at ch.bot c) n

-- column c holds a pin of net n
abbrev pub has_pin : Channel → ℕ → ℕ → Bool
has_pin ch n c = is_net ch n && stands ch n c

-- the columns that hold a pin of a net, rising
unfoldable pub pin_columns : Channel → ℕ → List ℕ
pin_columns ch n = keep (has_pin ch n) (up_to (width ch))

-- "Any other net spans its first to its last pin column"
unfoldable pub first_column : Channel → ℕ → ℕ
first_column ch n = head_or 0 (pin_columns ch n)

unfoldable pub last_column : Channel → ℕ → ℕ
last_column ch n = last_or 0 (pin_columns ch n)

-- the nets, in rising number
unfoldable pub nets : Channel → List ℕ
nets ch = keep (is_net ch) (up_to highest_net)

-- "A net whose pins all stand in one column is straight and has no span and no trunk"
unfoldable pub has_span : Channel → ℕ → Bool
has_span ch n = ltb (first_column ch n) (last_column ch n)

-- the nets with spans, in rising number
unfoldable pub spanning : Channel → List ℕ
spanning ch = keep (has_span ch) (nets ch)
