-- The ranges of a board's elements fit its lines and places, and the file has the word of each piece.
use Rattle.std.specs.Prelude.{ℕ, suc, ◌+◌, ◌-◌, ◌*◌, ◌≤◌, ◌<◌, ◌≡◌, refl, List, Bool, true, false, cond, length, leb, ltb}
use Rattle.std.proofs.Common.{arith, leb→le, ltb→lt, lt→ltb}
use Rattle.classes.specs.declared.Range.{Range}
use Rattle.classes.specs.Lines.{RangesFit}
use Rattle.lists.specs.Tests.{true→T, false→fails}
use Rattle.grid.specs.declared.Piece.{Piece}
use Rattle.grid.specs.declared.Piece.TheVariants.{Trunk, Branch, Contact}
use Rattle.grid.specs.Pieces.{kind_of, left, right, low, high, OnGrid}
use Rattle.grid.specs.Touching.{kinds_meet}
use Rattle.grid.specs.WordLaws.{right→on-grid}
use Rattle.channel.specs.Channel.{Channel, width}
use Rattle.wiring.specs.Pins.{Pin, top, bot, column_of, row_of, net_of, pin_at}
use Rattle.wiring.specs.Layouts.{Element, pin, copper}
use Rattle.boardfile.specs.Open.{word_at, fields_of, word_right, piece_of, file_width, file_tracks, file_count}
use Rattle.boardfile.specs.FieldLaws.{header-small, opened}
use Rattle.judge.specs.Ranges.{in_column, on_track, element_at, range_on}
use Rattle.judge.specs.LineSteps.{Judgeable}

-- a board's tracks and pieces are few, and its file is as long as its pieces ask
pub file-small : (ch : Channel) (board : List ℕ) (t : ℕ) → Judgeable ch board t
    → (t < 512) × (file_count board < 4096) × (length board ≡ 4 + 4 * file_count board)
unfolding file_tracks file_count
file-small ch board t j =
    let s = header-small (word_at board 0) in
    let e = j.tracks in
    (omega arith, s.1, (opened board j.opens).long)

-- the piece of each word of the file lies on the grid
pub word-on-grid : (ch : Channel) (board : List ℕ) (t j : ℕ) → Judgeable ch board t → j < file_count board
    → OnGrid (width ch) t (piece_of (word_at board (4 + 4 * j)))
unfolding piece_of word_right
word-on-grid ch board t j ready h =
    let f = fields_of (word_at board (4 * suc j)) in
    let e : 4 * suc j ≡ 4 + 4 * j = omega arith in
    let right = (opened board ready.opens).right (suc j) (omega arith) (omega arith) in
    let grid = right→on-grid (file_width board) (file_tracks board) f.kind f.line f.from f.to right in
    rw (ready.tracks, ← ready.same_width, ← e) grid

-- what `RangesFit` asks of one range
record Fits (lines places : ℕ) (r : Range) : Type 0 where
  lined : r.line < lines
  wide : r.start < r.past
  placed : r.past ≤ places

pin-in-column : (ch : Channel) (t : ℕ) (x : Pin) → column_of x ≤ width ch
    → Fits (width ch + 1) (t + 2) (in_column ch t (pin x))
unfolding in_column row_of
pin-in-column ch t x h = record { lined = line (ltb 0 (net_of ch x)); wide = omega arith; placed = row x }
  where
    line : (b : Bool) → cond b (column_of x) 0 < width ch + 1
    line true = omega arith
    line false = omega arith

    row : (y : Pin) → row_of t y + 1 ≤ t + 2
    row (top c) = omega arith
    row (bot c) = omega arith

piece-in-column : (ch : Channel) (t : ℕ) (p : Piece) → OnGrid (width ch) t p
    → Fits (width ch + 1) (t + 2) (in_column ch t (copper p))
unfolding in_column kind_of left right low high OnGrid kinds_meet
piece-in-column ch t (Trunk k a b) g = record { lined = omega arith; wide = omega arith; placed = omega arith }
piece-in-column ch t (Branch c a b) g = record { lined = omega arith; wide = omega arith; placed = omega arith }
piece-in-column ch t (Contact c k) g = record { lined = omega arith; wide = omega arith; placed = omega arith }

pin-on-track : (ch : Channel) (t : ℕ) (x : Pin) → column_of x ≤ width ch → Fits (t + 1) (width ch + 1) (on_track (pin x))
unfolding on_track
pin-on-track ch t x h = record { lined = omega arith; wide = omega arith; placed = omega arith }

piece-on-track : (ch : Channel) (t : ℕ) (p : Piece) → OnGrid (width ch) t p
    → Fits (t + 1) (width ch + 1) (on_track (copper p))
unfolding on_track kind_of left right low high OnGrid kinds_meet
piece-on-track ch t (Trunk k a b) g = record { lined = omega arith; wide = omega arith; placed = omega arith }
piece-on-track ch t (Branch c a b) g = record { lined = omega arith; wide = omega arith; placed = omega arith }
piece-on-track ch t (Contact c k) g = record { lined = omega arith; wide = omega arith; placed = omega arith }

-- a pin place's column is one of the channel's
place-column : (ch : Channel) (p : ℕ) → p ≤ width ch + width ch → column_of (pin_at ch p) ≤ width ch
unfolding column_of pin_at
place-column ch p h = go (leb p (width ch)) refl
  where
    go : (b : Bool) → leb p (width ch) ≡ b → column_of (cond b (top p) (bot (p - width ch))) ≤ width ch
    go true e = leb→le p (width ch) (true→T _ e)
    go false e = omega arith

-- what holds of each pin place in the channel and of each piece on the grid holds of each element
each-element : (ch : Channel) (board : List ℕ) (t : ℕ) → Judgeable ch board t → (P : Element → Type 0)
    → ((x : Pin) → column_of x ≤ width ch → P (pin x)) → ((p : Piece) → OnGrid (width ch) t p → P (copper p))
    → (i : ℕ) → i < width ch + width ch + file_count board → P (element_at ch board i)
unfolding element_at
each-element ch board t j P pins pieces i h = go (ltb i (width ch + width ch)) refl
  where
    piece : Piece
    piece = piece_of (word_at board (4 + 4 * (i - (width ch + width ch))))

    go : (b : Bool) → ltb i (width ch + width ch) ≡ b → P (cond b (pin (pin_at ch (suc i))) (copper piece))
    go true e =
        let l = ltb→lt i (width ch + width ch) (true→T _ e) in
        pins (pin_at ch (suc i)) (place-column ch (suc i) (omega arith))
    go false e =
        let past : i < width ch + width ch → ⊥ = λ l. false→fails _ e (lt→ltb i (width ch + width ch) l) in
        pieces piece (word-on-grid ch board t (i - (width ch + width ch)) j (omega arith))

-- the rows that the elements cover in their columns, and the columns on their tracks
pub fits-columns : (ch : Channel) (board : List ℕ) (t : ℕ) → Judgeable ch board t
    → RangesFit (range_on false ch t board) (width ch + width ch + file_count board) (width ch + 1) (t + 2)
unfolding range_on
fits-columns ch board t j =
    record { lined = λ i h. (fit i h).lined; wide = λ i h. (fit i h).wide; placed = λ i h. (fit i h).placed }
  where
    fit : (i : ℕ) → i < width ch + width ch + file_count board
        → Fits (width ch + 1) (t + 2) (in_column ch t (element_at ch board i))
    fit =
        each-element ch board t j (λ x. Fits (width ch + 1) (t + 2) (in_column ch t x)) (pin-in-column ch t)
        (piece-in-column ch t)

pub fits-tracks : (ch : Channel) (board : List ℕ) (t : ℕ) → Judgeable ch board t
    → RangesFit (range_on true ch t board) (width ch + width ch + file_count board) (t + 1) (width ch + 1)
unfolding range_on
fits-tracks ch board t j =
    record { lined = λ i h. (fit i h).lined; wide = λ i h. (fit i h).wide; placed = λ i h. (fit i h).placed }
  where
    fit : (i : ℕ) → i < width ch + width ch + file_count board
        → Fits (t + 1) (width ch + 1) (on_track (element_at ch board i))
    fit =
        each-element ch board t j (λ x. Fits (t + 1) (width ch + 1) (on_track x)) (pin-on-track ch t)
        (piece-on-track ch t)
