-- SCOPE, "Wiring rule": what a piece covers, and when two pieces touch; then the same as tests that compute.
use Rattle.std.specs.Prelude.{ℕ, ◌≤◌, Bool, ◌&&◌, ◌||◌, T, leb, eqb}
use Rattle.lists.specs.Lists.{within}
use Rattle.grid.specs.declared.Piece.{Piece}
use Rattle.grid.specs.Pieces.{kind_of, branch_kind, contact_kind, left, right, low, high}

-- "A piece covers its grid points, ends included": the point at column x and row y
pub record Covers (p : Piece) (x y : ℕ) : Type 0 where
  pub from_left : left p ≤ x
  pub to_right : x ≤ right p
  pub from_low : low p ≤ y
  pub to_high : y ≤ high p

-- "either both are of one kind or one is a contact": which kinds of copper meet where they have a common point
unfoldable pub kinds_meet : ℕ → ℕ → Bool
kinds_meet a b = eqb a b || (eqb a contact_kind || eqb b contact_kind)

-- "A pin touches a branch": which kinds a pin meets
unfoldable pub pin_meets : ℕ → Bool
pin_meets k = eqb k branch_kind

-- "Two pieces touch when they cover a common point and either both are of one kind or one is a contact"
pub record Touch (p q : Piece) : Type 0 where
  pub column : ℕ
  pub row : ℕ
  pub covers₁ : Covers p column row
  pub covers₂ : Covers q column row
  pub meets : T (kinds_meet (kind_of p) (kind_of q))

-- `Covers`, as a test
unfoldable pub covers : Piece → ℕ → ℕ → Bool
covers p x y = within (left p) x (right p) && within (low p) y (high p)

-- two ranges have a number in common
abbrev pub overlap : ℕ → ℕ → ℕ → ℕ → Bool
overlap a b d e = leb a e && leb d b

-- `Touch`, as a test of two pieces on the grid
unfoldable pub touches : Piece → Piece → Bool
touches p q =
    overlap (left p) (right p) (left q) (right q)
    && (overlap (low p) (high p) (low q) (high q) && kinds_meet (kind_of p) (kind_of q))
