-- SCOPE, "Wiring rule": the pins of a channel, and the branches that a pin touches.
use Rattle.std.specs.Prelude.{ℕ, ◌+◌, ◌-◌, ◌<◌, Bool, cond, ◌&&◌, T, leb, ltb}
use Rattle.lists.specs.Lists.{at}
use Rattle.grid.specs.declared.Piece.{Piece}
use Rattle.grid.specs.Pieces.{kind_of}
use Rattle.grid.specs.Touching.{pin_meets, Covers, covers}
use Rattle.channel.specs.Channel.{Channel, width}

-- a pin place, by its row and column
pub data Pin : Type 0 where
  top : ℕ → Pin
  bot : ℕ → Pin

unfoldable pub column_of : Pin → ℕ
column_of (top c) = c
column_of (bot c) = c

-- "BOT pins stand in row 0, TOP pins in row t+1"
unfoldable pub row_of : ℕ → Pin → ℕ
row_of t (top c) = t + 1
row_of t (bot c) = 0

-- what the channel has at a pin place; 0 is no pin
unfoldable pub net_of : Channel → Pin → ℕ
net_of ch (top c) = at ch.top c
net_of ch (bot c) = at ch.bot c

abbrev pub IsPin : Channel → Pin → Type 0
IsPin ch x = 0 < net_of ch x

-- "Pin positions are 1 to w for TOP, w+1 to 2w for BOT": the pin place at a position
unfoldable pub pin_at : Channel → ℕ → Pin
pin_at ch p = cond (leb p (width ch)) (top p) (bot (p - width ch))

-- "A pin touches a branch that covers its point"
pub record PinTouch (t : ℕ) (x : Pin) (p : Piece) : Type 0 where
  pub meets : T (pin_meets (kind_of p))
  pub covered : Covers p (column_of x) (row_of t x)

-- `PinTouch` of a pin, as a test
unfoldable pub pin_touches : Channel → ℕ → Pin → Piece → Bool
pin_touches ch t x p = ltb 0 (net_of ch x) && (pin_meets (kind_of p) && covers p (column_of x) (row_of t x))
