-- SCOPE, "Board file": what opening a board file of any bytes answers, and what the reader answers to the number of a
-- piece.
use Rattle.std.specs.Prelude.{ℕ, zero, suc, ◌+◌, ◌*◌, ◌/◌, ◌%◌, List, [], ◌∷◌, Bool, cond, ◌&&◌, ◌||◌, not, length, get_or, leb, ltb, eqb, Result, Ok, Err}
use Rattle.std.proofs.Math.Option.{Option}
use Rattle.lists.specs.Lists.{keep, up_to, within}
use Rattle.refusal.specs.declared.Refusal.{Refusal}
use Rattle.refusal.specs.declared.Refusal.TheVariants.{Torn, BadField}
use Rattle.refusal.specs.Refusals.{Told, refuse_if, refuse_at_first, ◌or_else◌, ok_unless, told}
use Rattle.grid.specs.declared.Piece.{Piece}
use Rattle.grid.specs.Pieces.{kind_of, Layout}
use Rattle.grid.specs.Words.{line_of, from_of, to_of, fields_right, make_piece}
use Rattle.boardfile.specs.declared.Header.{Header}
use Rattle.boardfile.specs.declared.Board.{Board}
use Rattle.boardfile.specs.declared.Fields.{Fields}

-- the 32 bits that begin at byte i of the file
unfoldable pub word_at : List ℕ → ℕ → ℕ
word_at bs i = get_or bs i 0 * 16777216 + get_or bs (i + 1) 0 * 65536 + get_or bs (i + 2) 0 * 256 + get_or bs (i + 3) 0

-- "Header: width 10 bits, tracks 9, piece count 12, spare 1 (zero)"
unfoldable pub header_of : ℕ → Header
header_of v = record { width = v / 4194304; tracks = v / 8192 % 512; count = v / 2 % 4096; spare = v % 2 }

-- "Each piece: kind 2 bits .., line 10, from 10, to 10"
unfoldable pub fields_of : ℕ → Fields
fields_of v = record { kind = v / 1073741824; line = v / 1048576 % 1024; from = v / 1024 % 1024; to = v % 1024 }

unfoldable pub file_width : List ℕ → ℕ
file_width bs = (header_of (word_at bs 0)).width

unfoldable pub file_tracks : List ℕ → ℕ
file_tracks bs = (header_of (word_at bs 0)).tracks

unfoldable pub file_count : List ℕ → ℕ
file_count bs = (header_of (word_at bs 0)).count

unfoldable pub file_spare : List ℕ → ℕ
file_spare bs = (header_of (word_at bs 0)).spare

-- the fields of the word are in their ranges
unfoldable pub word_right : ℕ → ℕ → ℕ → Bool
word_right w t v = let f = fields_of v in fields_right w t f.kind f.line f.from f.to

-- the piece of a word whose fields are right
unfoldable pub piece_of : ℕ → Piece
piece_of v = let f = fields_of v in make_piece f.kind f.line f.from f.to

-- 8: "wrong length; length due (4 if under 4)". "Length is 4 + 4 times the count"
unfoldable pub torn : List ℕ → Option Refusal
torn bs =
    refuse_if (ltb (length bs) 4) (Torn 4)
    or_else refuse_if (not (eqb (length bs) (4 + 4 * file_count bs))) (Torn (4 + 4 * file_count bs))

-- 9: "width 0 or over 512 or spare 1, place 0; else lowest piece breaking a range or kind"
unfoldable pub bad_field : List ℕ → Option Refusal
bad_field bs =
    refuse_if (not (within 1 (file_width bs) 512) || eqb (file_spare bs) 1) (BadField 0)
    or_else refuse_at_first BadField
    (keep (λ i. not (word_right (file_width bs) (file_tracks bs) (word_at bs (4 * i)))) (up_to (file_count bs)))

unfoldable pub open_refusal : List ℕ → Option Refusal
open_refusal bs = torn bs or_else bad_field bs

-- n pieces, from byte i on
unfoldable pub pieces_from : List ℕ → ℕ → ℕ → List Piece
pieces_from bs i zero = []
pieces_from bs i (suc n) = piece_of (word_at bs i) ∷ pieces_from bs (i + 4) n

-- the layout that a board file holds
unfoldable pub file_layout : List ℕ → Layout
file_layout bs = record { tracks = file_tracks bs; pieces = pieces_from bs 4 (file_count bs) }

-- the fields of a board file that opens
abbrev pub board_of : List ℕ → Board
board_of bs = record { width = file_width bs; tracks = file_tracks bs; count = file_count bs }

unfoldable pub open_answer : List ℕ → Result Board Refusal
open_answer bs = ok_unless (open_refusal bs) (board_of bs)

abbrev pub open_told : Result Board Refusal → Told
open_told = told (λ o. o.width ∷ o.tracks ∷ o.count ∷ [])

-- "answers the piece of a given number .. pieces count from 1, and another number gives 9 with that number as place".
-- Bytes that do not open may lack the piece's word or have a bad one: that is no piece of that number either
unfoldable pub piece_answer : List ℕ → ℕ → Result Piece Refusal
piece_answer bs n =
    cond
    (within 1 n (file_count bs)
    && (leb (4 * n + 4) (length bs) && word_right (file_width bs) (file_tracks bs) (word_at bs (4 * n))))
    (Ok (piece_of (word_at bs (4 * n))))
    (Err (BadField n))

abbrev pub piece_told : Result Piece Refusal → Told
piece_told = told (λ p. kind_of p ∷ line_of p ∷ from_of p ∷ to_of p ∷ [])
