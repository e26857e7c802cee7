-- Demand 2's "reading the board file it wrote gives back the pieces it drew", proved of the bytes of every layout that
-- fits the file's fields.
use Rattle.std.specs.Prelude.{ℕ, zero, suc, ◌+◌, ◌*◌, ◌≤◌, ◌<◌, ◌≡◌, refl, length, T}
use Rattle.std.proofs.Common.{arith, add-zero, sym, ap₂, ◌∙◌, length-append, get_or-append-add}
use Rattle.std.proofs.Math.Path.{ap}
use mathlib.Core.List.{List, [], ◌∷◌, ◌++◌, append_assoc, Memᴰ}
use Rattle.std.proofs.Math.Option.{some, none-ne-some, some-injective}
use Rattle.std.proofs.Math.ListN.{get_elem?}
use Rattle.std.proofs.Math.Seq.{get_or-append_seam}
use Rattle.lists.specs.Lists.{each}
use Rattle.lists.specs.Ranges.{place-member, filled-place, length-each}
use Rattle.grid.specs.declared.Piece.{Piece}
use Rattle.grid.specs.declared.Piece.TheVariants.{Trunk, Branch, Contact}
use Rattle.grid.specs.Pieces.{kind_of, OnGrid, Layout}
use Rattle.grid.specs.Words.{line_of, from_of, to_of}
use Rattle.grid.specs.WordLaws.{remade, on-grid→right}
use Rattle.boardfile.specs.declared.Header.{Header}
use Rattle.boardfile.specs.Encode.{word, header, piece_word, encode}
use Rattle.boardfile.specs.Open.{word_at, file_width, file_tracks, file_count, file_spare, word_right, piece_of}
use Rattle.boardfile.specs.Open.{pieces_from, file_layout}
use Rattle.boardfile.specs.BitLaws.{bytes_back, HasHeader, header-has, HasFields, fields-have}
use Rattle.boardfile.specs.FieldLaws.{opens}
use Rattle.boardfile.specs.Promise.{ReadsBack, Fileable}

-- a word below 2^32 is read back wherever it stands
word_back : (front rest : List ℕ) (v : ℕ) → v < 4294967296 → word_at (front ++ (word v ++ rest)) (length front) ≡ v
unfolding word_at word
word_back front rest v h = simp (get_or-append-add, get_or-append_seam, word) (bytes_back v h)

-- the number v has the fields of the piece p
abbrev HasPiece : Piece → ℕ → Type 0
HasPiece p v = HasFields (kind_of p) (line_of p) (from_of p) (to_of p) v

fields-small : (w t : ℕ) (p : Piece) → w ≤ 512 → t ≤ 511 → OnGrid w t p
    → (kind_of p ≤ 2) × (line_of p < 1024) × (from_of p < 1024) × (to_of p < 1024)
unfolding OnGrid kind_of line_of from_of to_of
fields-small w t (Trunk k a b) h₁ h₂ g = omega arith
fields-small w t (Branch c a b) h₁ h₂ g = omega arith
fields-small w t (Contact c k) h₁ h₂ g = omega arith

piece-has : (w t : ℕ) (p : Piece) → w ≤ 512 → t ≤ 511 → OnGrid w t p → HasPiece p (piece_word p)
unfolding piece_word
piece-has w t p h₁ h₂ g =
    let s = fields-small w t p h₁ h₂ g in fields-have (kind_of p) (line_of p) (from_of p) (to_of p) s.0 s.1 s.2
    s.3

module _ (p : Piece) (v : ℕ) (h : HasPiece p v) where
  piece_back : piece_of v ≡ p
  unfolding piece_of
  piece_back = rw h.same (remade p)

  piece-right : (w t : ℕ) → OnGrid w t p → T (word_right w t v)
  unfolding word_right
  piece-right w t g = rw h.same (on-grid→right w t p g)

-- the words of the pieces, end to end
abbrev pub words : List Piece → List ℕ
words ps = each (λ p. word (piece_word p)) ps

word-length : (v : ℕ) → length (word v) ≡ 4
unfolding word
word-length v = refl

-- behind any front, the word of each piece stands at its place
words_back : (front : List ℕ) (ps : List Piece) → ((p : Piece) → Memᴰ p ps → HasPiece p (piece_word p))
    → (k : ℕ) (p : Piece) → get_elem? ps k ≡ some p → word_at (front ++ words ps) (length front + 4 * k) ≡ piece_word p
unfolding each
words_back front [] f k p e = absurd (none-ne-some p e)
words_back front (q ∷ qs) f zero p e =
    rw add-zero (word_back front (words qs) (piece_word q) (f q (Memᴰ.head refl)).small)
    ∙ ap piece_word (some-injective q p e)
words_back front (q ∷ qs) f (suc k) p e =
    let rest = words_back (front ++ word (piece_word q)) qs (λ r m. f r (Memᴰ.tail m)) k p e in
    let place : length front + 4 * suc k ≡ length (front ++ word (piece_word q)) + 4 * k =
    omega (arith, length-append front (word (piece_word q)), word-length (piece_word q)) in
    ap₂ word_at (sym (append_assoc front (word (piece_word q)) (words qs))) place ∙ rest

-- a file whose words are those of the pieces has the pieces
pieces-back : (bs : List ℕ) (i : ℕ) (ps : List Piece)
    → ((k : ℕ) (p : Piece) → get_elem? ps k ≡ some p → piece_of (word_at bs (i + 4 * k)) ≡ p)
    → pieces_from bs i (length ps) ≡ ps
unfolding pieces_from
pieces-back bs i [] h = refl
pieces-back bs i (p ∷ ps) h =
    ap₂ {C = List Piece} (λ q qs. q ∷ qs) (ap (λ (j : ℕ). piece_of (word_at bs j)) (omega arith) ∙ h zero p refl)
    (pieces-back bs (i + 4) ps (λ k q e. ap (λ (j : ℕ). piece_of (word_at bs j)) (omega arith) ∙ h (suc k) q e))

pub encoded-length : (w : ℕ) (l : Layout) → length (encode w l) ≡ 4 + 4 * length l.pieces
unfolding encode
encoded-length w l =
    let v = header w l.tracks (length l.pieces) in
    let e = length-each 4 (λ p. word (piece_word p)) l.pieces (λ p. word-length (piece_word p)) in
    omega (arith, length-append (word v) (words l.pieces), word-length v)

module _ (w : ℕ) (l : Layout) (f : Fileable w l) where
  header-back : HasHeader w l.tracks (length l.pieces) (word_at (encode w l) 0)
  unfolding encode
  header-back =
      let h = header-has w l.tracks (length l.pieces) f.narrow f.tracks f.pieces in
      rw (word_back [] (words l.pieces) (header w l.tracks (length l.pieces)) h.small) h

  width_back : file_width (encode w l) ≡ w
  unfolding file_width
  width_back = ap (λ (h : Header). h.width) header-back.same

  tracks-back : file_tracks (encode w l) ≡ l.tracks
  unfolding file_tracks
  tracks-back = ap (λ (h : Header). h.tracks) header-back.same

  count-back : file_count (encode w l) ≡ length l.pieces
  unfolding file_count
  count-back = ap (λ (h : Header). h.count) header-back.same

  spare-back : file_spare (encode w l) ≡ 0
  unfolding file_spare
  spare-back = ap (λ (h : Header). h.spare) header-back.same

  has-piece : (p : Piece) → Memᴰ p l.pieces → HasPiece p (piece_word p)
  has-piece p m = piece-has w l.tracks p f.narrow f.tracks (f.on_grid p m)

  -- the word at a place of the file has the fields of the piece at that place of the layout
  place-back : (k : ℕ) (p : Piece) → get_elem? l.pieces k ≡ some p → HasPiece p (word_at (encode w l) (4 + 4 * k))
  unfolding encode word
  place-back k p e =
      rw (words_back (word (header w l.tracks (length l.pieces))) l.pieces has-piece k p e)
      (has-piece p (place-member l.pieces k e))

  layout-back : file_layout (encode w l) ≡ l
  unfolding file_layout
  layout-back =
      let ps : pieces_from (encode w l) 4 (file_count (encode w l)) ≡ l.pieces =
      rw count-back (pieces-back (encode w l) 4 l.pieces
      (λ k p e. piece_back p (word_at (encode w l) (4 + 4 * k)) (place-back k p e))) in
      λ i. record { tracks = tracks-back i; pieces = ps i }

  length_back : length (encode w l) ≡ 4 + 4 * file_count (encode w l)
  length_back = rw count-back (encoded-length w l)

  word-right : (i : ℕ) → 1 ≤ i → i ≤ file_count (encode w l)
      → T (word_right (file_width (encode w l)) (file_tracks (encode w l)) (word_at (encode w l) (4 * i)))
  word-right zero h₁ h₂ = absurd (omega arith)
  word-right (suc k) h₁ h₂ =
      let n = count-back in
      let (p, e) = filled-place l.pieces k (omega arith) in
      let place : 4 * suc k ≡ 4 + 4 * k = omega arith in
      rw (width_back, tracks-back, place) (piece-right p (word_at (encode w l) (4 + 4 * k)) (place-back k p e) w
      l.tracks (f.on_grid p (place-member l.pieces k e)))

pub read_back : (w : ℕ) (l : Layout) → Fileable w l → ReadsBack w l (encode w l)
read_back w l f =
    record {
      opens =
          opens (encode w l) (record {
            long = length_back w l f;
            wide = rw (width_back w l f) f.wide;
            narrow = rw (width_back w l f) f.narrow;
            spare = spare-back w l f;
            right = word-right w l f;
          });
      same_width = width_back w l f;
      same_layout = layout-back w l f;
    }
