-- SCOPE, "Board file": a piece in the file's words, which are its kind, line, from and to.
use Rattle.std.specs.Prelude.{ℕ, ◌+◌, Bool, false, cond, ◌&&◌, leb, ltb, eqb}
use Rattle.lists.specs.Lists.{within}
use Rattle.grid.specs.declared.Piece.{Piece}
use Rattle.grid.specs.declared.Piece.TheVariants.{Trunk, Branch, Contact}
use Rattle.grid.specs.Pieces.{column, track, row, trunk_kind, branch_kind, contact_kind}

-- "Line is the track of a trunk, the column of a branch or contact. A contact's from and to both hold its track"
unfoldable pub line_of : Piece → ℕ
line_of (Trunk k a b) = k.0
line_of (Branch c a b) = c.0
line_of (Contact c k) = c.0

unfoldable pub from_of : Piece → ℕ
from_of (Trunk k a b) = a.0
from_of (Branch c a b) = a.0
from_of (Contact c k) = k.0

unfoldable pub to_of : Piece → ℕ
to_of (Trunk k a b) = b.0
to_of (Branch c a b) = b.0
to_of (Contact c k) = k.0

-- each kind's ranges on a grid of w columns and t tracks, as the wiring rule gives them; kind 3 is none
unfoldable pub fields_right : ℕ → ℕ → ℕ → ℕ → ℕ → ℕ → Bool
fields_right w t kind line a b =
    cond (eqb kind trunk_kind) (within 1 line t && (leb 1 a && (ltb a b && leb b w)))
    (cond (eqb kind branch_kind) (within 1 line w && (ltb a b && leb b (t + 1)))
    (cond (eqb kind contact_kind) (within 1 line w && (within 1 a t && eqb a b)) false))

-- the piece of these words, where they are right
unfoldable pub make_piece : ℕ → ℕ → ℕ → ℕ → Piece
make_piece kind line a b =
    cond (eqb kind trunk_kind) (Trunk (track line) (column a) (column b))
    (cond (eqb kind branch_kind) (Branch (column line) (row a) (row b))
    (Contact (column line) (track a)))
