-- What the drawing's code is told of the tracks and of a net's columns, and the layout that it draws by them.
use Rattle.std.specs.Prelude.{ℕ, ◌+◌, ◌*◌, ◌≤◌, ◌≡◌, length, get_or}
use mathlib.Core.List.{List, Memᴰ}
use Rattle.lists.specs.Lists.{overlay}
use Rattle.grid.specs.Pieces.{Layout}
use Rattle.channel.specs.Channel.{Channel, width, spanning, first_column, last_column}
use Rattle.channel.specs.Answers.{Escapes}
use Rattle.channel.specs.Nets.{IsNet}
use Rattle.boardfile.specs.Encode.{encode}
use Rattle.drawing.specs.Draw.{draw_nets}

-- the column and the track of net n, which stand at place n, counted from 0
abbrev pub column_in : List ℕ → ℕ → ℕ
column_in columns n = get_or columns n 0

abbrev pub track_in : List ℕ → ℕ → ℕ
track_in tracks n = get_or tracks n 0

-- the layout drawn by these tracks
unfoldable pub drawn_by : Channel → List ℕ → ℕ → Layout
drawn_by ch tracks t = record { tracks = t; pieces = draw_nets ch t (track_in tracks) }

-- the channel escapes refusals 3 to 5, and each net with a span has a track of 1 to t, t being at most 511
pub record Tracked (ch : Channel) (tracks : List ℕ) (t : ℕ) : Type 0 where
  pub escapes : Escapes ch
  pub few : t ≤ 511
  pub tracked : (n : ℕ) → Memᴰ n (spanning ch) → (1 ≤ track_in tracks n) × (track_in tracks n ≤ t)

-- what `draw_board` asks: a board with room for the header and the pieces, and no more pieces than the header can count
pub record Drawable (ch : Channel) (tracks : List ℕ) (t : ℕ) (board : List ℕ) : Type 0 where
  pub tracked : Tracked ch tracks t
  pub few : length (drawn_by ch tracks t).pieces ≤ 4095
  pub long : 4 + 4 * length (drawn_by ch tracks t).pieces ≤ length board

-- what it answers, and what the board then holds
pub record BoardDrawn (ch : Channel) (l : Layout) (board : List ℕ) (count : ℕ) (board' : List ℕ) : Type 0 where
  pub counted : count ≡ length l.pieces
  pub written : board' ≡ overlay (encode (width ch) l) board

-- net n of a channel that escapes the refusals has its first and its last pin in these columns
pub record StandsIn (ch : Channel) (n first last : ℕ) : Type 0 where
  pub escapes : Escapes ch
  pub is_net : IsNet ch n
  pub begins : first ≡ first_column ch n
  pub ends : last ≡ last_column ch n
