-- Opening a board file is told by its refusal, or by the header's fields; a piece is told by its fields where it is
-- readable, and by 9 and its number where it is not.
use Rattle.std.specs.Prelude.{ℕ, zero, suc, ◌+◌, ◌*◌, ◌<◌, ◌≡◌, refl, List, [], ◌∷◌, Bool, true, false, cond, ◌&&◌, not, length, leb, Ok, Err}
use Rattle.std.proofs.Common.{arith, ap}
use Rattle.lists.specs.Lists.{within}
use Rattle.refusal.specs.declared.Refusal.TheVariants.{BadField}
use Rattle.refusal.specs.Refusals.{told_by, refuse_if, told}
use Rattle.refusal.specs.ToldLaws.{told-ok_unless}
use Rattle.grid.specs.declared.Piece.{Piece}
use Rattle.grid.specs.Pieces.{kind_of}
use Rattle.grid.specs.Words.{line_of, from_of, to_of}
use Rattle.boardfile.specs.Open.{
  word_at,
  header_of,
  file_width,
  file_tracks,
  file_count,
  word_right,
  piece_of,
  open_refusal,
  pieces_from,
  file_layout,
  open_answer,
  open_told,
  piece_answer,
  piece_told,
}

pub open_told_lem : (bs : List ℕ)
    → open_told (open_answer bs) ≡ told_by (open_refusal bs) (file_width bs ∷ file_tracks bs ∷ file_count bs ∷ [])
unfolding open_answer
open_told_lem bs = told-ok_unless _ (open_refusal bs) _

-- the header's fields have 9 and 12 bits
pub fields-small : (bs : List ℕ) → (file_tracks bs < 512) × (file_count bs < 4096)
unfolding file_tracks file_count header_of
fields-small bs = (omega arith, omega arith)

pieces-length : (bs : List ℕ) (i n : ℕ) → length (pieces_from bs i n) ≡ n
unfolding pieces_from
pieces-length bs i zero = refl
pieces-length bs i (suc n) = ap suc (pieces-length bs (i + 4) n)

pub pieces-few : (bs : List ℕ) → length (file_layout bs).pieces < 4096
unfolding file_layout
pieces-few bs = let e = pieces-length bs 4 (file_count bs) in let few = (fields-small bs).1 in omega arith

-- the file has a piece of this number, whole and with its fields in their ranges
abbrev pub readable : List ℕ → ℕ → Bool
readable bs n =
    within 1 n (file_count bs)
    && (leb (4 * n + 4) (length bs) && word_right (file_width bs) (file_tracks bs) (word_at bs (4 * n)))

abbrev pub piece_fields : Piece → List ℕ
piece_fields p = kind_of p ∷ line_of p ∷ from_of p ∷ to_of p ∷ []

pub piece-told : (bs : List ℕ) (n : ℕ)
    → piece_told (piece_answer bs n)
    ≡ told_by (refuse_if (not (readable bs n)) (BadField n)) (piece_fields (piece_of (word_at bs (4 * n))))
unfolding piece_answer told refuse_if told_by
piece-told bs n = go (readable bs n) (piece_of (word_at bs (4 * n)))
  where
    go : (b : Bool) (p : Piece)
        → piece_told (cond b (Ok p) (Err (BadField n)))
        ≡ told_by (refuse_if (not b) (BadField n)) (piece_fields p)
    go true p = refl
    go false p = refl
