-- SCOPE, "Board file": the bytes of a layout. "Bit-packed, most significant bit first."
use Rattle.std.specs.Prelude.{ℕ, ◌+◌, ◌*◌, ◌/◌, ◌%◌, List, [], ◌∷◌, ◌++◌, length}
use Rattle.lists.specs.Lists.{each}
use Rattle.grid.specs.declared.Piece.{Piece}
use Rattle.grid.specs.Pieces.{kind_of, Layout}
use Rattle.grid.specs.Words.{line_of, from_of, to_of}

-- 32 bits as four bytes
unfoldable pub word : ℕ → List ℕ
word v = v / 16777216 % 256 ∷ (v / 65536 % 256 ∷ (v / 256 % 256 ∷ (v % 256 ∷ [])))

-- "Header: width 10 bits, tracks 9, piece count 12, spare 1 (zero)"
unfoldable pub header : ℕ → ℕ → ℕ → ℕ
header w t n = w * 4194304 + t * 8192 + n * 2

-- "Each piece: kind 2 bits, line 10, from 10, to 10"
unfoldable pub fields : ℕ → ℕ → ℕ → ℕ → ℕ
fields kind line a b = kind * 1073741824 + line * 1048576 + a * 1024 + b

unfoldable pub piece_word : Piece → ℕ
piece_word p = fields (kind_of p) (line_of p) (from_of p) (to_of p)

-- the board file of a layout of w columns
unfoldable pub encode : ℕ → Layout → List ℕ
encode w l = word (header w l.tracks (length l.pieces)) ++ each (λ p. word (piece_word p)) l.pieces
