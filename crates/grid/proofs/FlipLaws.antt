-- What turning a piece over keeps: its kind, its columns and the grid; what it covers is covered in the turned rows, so
-- that pieces touch as before. Twice turned, a piece on the grid is what it was.
use Rattle.std.specs.Prelude.{ℕ, ◌+◌, ◌≤◌, ◌≡◌, refl}
use Rattle.std.proofs.Common.{arith}
use Rattle.grid.specs.declared.Piece.{Piece}
use Rattle.grid.specs.declared.Piece.TheVariants.{Trunk, Branch, Contact}
use Rattle.grid.specs.Pieces.{kind_of, left, right, low, high, OnGrid}
use Rattle.grid.specs.Touching.{Covers, Touch}
use Rattle.grid.specs.Flipped.{over, flip}

-- a row of the board lies in its place again after two turns
over-over : (t y : ℕ) → y ≤ t + 1 → over t (over t y) ≡ y
unfolding over
over-over t y h = omega arith

pub flip-kind : (t : ℕ) (p : Piece) → kind_of (flip t p) ≡ kind_of p
unfolding flip kind_of
flip-kind t (Trunk k a b) = refl
flip-kind t (Branch c a b) = refl
flip-kind t (Contact c k) = refl

pub flip-on-grid : (w t : ℕ) (p : Piece) → OnGrid w t p → OnGrid w t (flip t p)
unfolding flip over OnGrid
flip-on-grid w t (Trunk k a b) g = omega arith
flip-on-grid w t (Branch c a b) g = omega arith
flip-on-grid w t (Contact c k) g = omega arith

pub flip-flip : (w t : ℕ) (p : Piece) → OnGrid w t p → flip t (flip t p) ≡ p
unfolding flip OnGrid
flip-flip w t (Trunk k a b) g = rw (over-over t k.0 (omega arith))
flip-flip w t (Branch c a b) g = rw (over-over t a.0 (omega arith), over-over t b.0 (omega arith))
flip-flip w t (Contact c k) g = rw (over-over t k.0 (omega arith))

-- a point that a piece covers lies in the turned row of the turned piece
pub flip-covers : (t : ℕ) (p : Piece) (x y : ℕ) → Covers p x y → Covers (flip t p) x (over t y)
unfolding flip over left right low high
flip-covers t (Trunk k a b) x y c = omega arith
flip-covers t (Branch d a b) x y c = omega arith
flip-covers t (Contact d k) x y c = omega arith

pub flip-touch : (t : ℕ) (p q : Piece) → Touch p q → Touch (flip t p) (flip t q)
flip-touch t p q h =
    record {
      column = h.column;
      row = over t h.row;
      covers₁ = flip-covers t p h.column h.row h.covers₁;
      covers₂ = flip-covers t q h.column h.row h.covers₂;
      meets = rw (flip-kind t p, flip-kind t q) h.meets;
    }
