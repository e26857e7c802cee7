-- SCOPE, Req 02, "The board turned over": the same copper, seen with TOP and BOT exchanged.
use Rattle.std.specs.Prelude.{ℕ, ◌+◌, ◌-◌, map}
use Rattle.grid.specs.declared.Piece.{Piece}
use Rattle.grid.specs.declared.Piece.TheVariants.{Trunk, Branch, Contact}
use Rattle.grid.specs.Pieces.{track, row, Layout}

-- rows are 0 to t+1, so row y of a board of t tracks comes to lie in row t + 1 - y; columns stay
unfoldable pub over : ℕ → ℕ → ℕ
over t y = t + 1 - y

-- a piece of a board of t tracks, turned over; a branch's lower end becomes its upper one
unfoldable pub flip : ℕ → Piece → Piece
flip t (Trunk k a b) = Trunk (track (over t k.0)) a b
flip t (Branch c a b) = Branch c (row (over t b.0)) (row (over t a.0))
flip t (Contact c k) = Contact c (track (over t k.0))

-- the layout turned over: as many tracks, and each piece in its place of the list
abbrev pub flipped : Layout → Layout
flipped l = record { tracks = l.tracks; pieces = map (flip l.tracks) l.pieces }
