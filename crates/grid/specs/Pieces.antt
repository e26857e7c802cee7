-- SCOPE, "Wiring rule": a piece of copper, by its kind and by the box of grid points that it covers. Everything
-- outside this file reads a piece through these.
use Rattle.std.specs.Prelude.{ℕ, ◌+◌, ◌≤◌, ◌<◌, List}
use Rattle.grid.specs.declared.Piece.{Piece}
use Rattle.grid.specs.declared.Piece.TheVariants.{Trunk, Branch, Contact}
use Rattle.grid.specs.declared.Track.{Track}
use Rattle.grid.specs.declared.Column.{Column}
use Rattle.grid.specs.declared.Row.{Row}
use Rattle.grid.specs.declared.Net.{Net}

abbrev pub column : ℕ → Column
column c = record { 0 = c }

abbrev pub track : ℕ → Track
track k = record { 0 = k }

abbrev pub row : ℕ → Row
row y = record { 0 = y }

abbrev pub net : ℕ → Net
net n = record { 0 = n }

-- SCOPE, "Board file": kind 0 trunk, 1 branch, 2 contact
abbrev pub trunk_kind : ℕ
trunk_kind = 0

abbrev pub branch_kind : ℕ
branch_kind = 1

abbrev pub contact_kind : ℕ
contact_kind = 2

unfoldable pub kind_of : Piece → ℕ
kind_of (Trunk k a b) = trunk_kind
kind_of (Branch c a b) = branch_kind
kind_of (Contact c k) = contact_kind

-- the first and last column, and the lowest and highest row, that a piece covers
unfoldable pub left : Piece → ℕ
left (Trunk k a b) = a.0
left (Branch c a b) = c.0
left (Contact c k) = c.0

unfoldable pub right : Piece → ℕ
right (Trunk k a b) = b.0
right (Branch c a b) = c.0
right (Contact c k) = c.0

unfoldable pub low : Piece → ℕ
low (Trunk k a b) = k.0
low (Branch c a b) = a.0
low (Contact c k) = k.0

unfoldable pub high : Piece → ℕ
high (Trunk k a b) = k.0
high (Branch c a b) = b.0
high (Contact c k) = k.0

-- the piece lies on the grid of w columns and t tracks: a trunk has one track, columns a to b, 1 ≤ a < b ≤ w;
-- a branch one column 1 to w, rows a to b, 0 ≤ a < b ≤ t+1; a contact one column 1 to w, one track
unfoldable pub OnGrid : ℕ → ℕ → Piece → Type 0
OnGrid w t (Trunk k a b) = (1 ≤ k.0) × (k.0 ≤ t) × (1 ≤ a.0) × (a.0 < b.0) × (b.0 ≤ w)
OnGrid w t (Branch c a b) = (1 ≤ c.0) × (c.0 ≤ w) × (a.0 < b.0) × (b.0 ≤ t + 1)
OnGrid w t (Contact c k) = (1 ≤ c.0) × (c.0 ≤ w) × (1 ≤ k.0) × (k.0 ≤ t)

-- "A layout of a channel is a number of tracks t, from 0 up, and any list of pieces"
pub record Layout : Type 0 where
  pub tracks : ℕ
  pub pieces : List Piece
