-- The file's words of a piece make the piece again, and are right exactly if it lies on the grid.
use Rattle.std.specs.Prelude.{ℕ, ◌+◌, ◌≡◌, refl, Bool, true, false, cond, ◌&&◌, T, leb, ltb, eqb}
use Rattle.std.proofs.Common.{leb→le, le→leb, ltb→lt, lt→ltb}
use Rattle.std.proofs.Math.Dec.{eqb_refl}
use Rattle.lists.specs.Lists.{within}
use Rattle.lists.specs.Tests.{and_left, and_right, and_both, within→, →within}
use Rattle.grid.specs.declared.Piece.{Piece}
use Rattle.grid.specs.declared.Piece.TheVariants.{Trunk, Branch, Contact}
use Rattle.grid.specs.Pieces.{trunk_kind, branch_kind, contact_kind, kind_of, OnGrid}
use Rattle.grid.specs.Words.{line_of, from_of, to_of, fields_right, make_piece}

pub remade : (p : Piece) → make_piece (kind_of p) (line_of p) (from_of p) (to_of p) ≡ p
unfolding make_piece kind_of line_of from_of to_of
remade (Trunk k a b) = refl
remade (Branch c a b) = refl
remade (Contact c k) = refl

pub on-grid→right : (w t : ℕ) (p : Piece) → OnGrid w t p → T (fields_right w t (kind_of p) (line_of p) (from_of p) (to_of p))
unfolding OnGrid fields_right kind_of line_of from_of to_of
on-grid→right w t (Trunk k a b) g =
    and_both (within 1 k.0 t) (leb 1 a.0 && (ltb a.0 b.0 && leb b.0 w))
    (→within 1 k.0 t g.0 g.1)
    (and_both (leb 1 a.0) (ltb a.0 b.0 && leb b.0 w) (le→leb 1 a.0 g.2)
    (and_both (ltb a.0 b.0) (leb b.0 w) (lt→ltb a.0 b.0 g.3) (le→leb b.0 w g.4)))
on-grid→right w t (Branch c a b) g =
    and_both (within 1 c.0 w) (ltb a.0 b.0 && leb b.0 (t + 1)) (→within 1 c.0 w g.0 g.1)
    (and_both (ltb a.0 b.0) (leb b.0 (t + 1)) (lt→ltb a.0 b.0 g.2) (le→leb b.0 (t + 1) g.3))
on-grid→right w t (Contact c k) g =
    and_both (within 1 c.0 w) (within 1 k.0 t && eqb k.0 k.0) (→within 1 c.0 w g.0 g.1)
    (and_both (within 1 k.0 t) (eqb k.0 k.0) (→within 1 k.0 t g.2 g.3) (eqb_refl k.0))

-- words that are right make a piece on the grid, and that piece has these words
pub right→on-grid : (w t kind line a b : ℕ) → T (fields_right w t kind line a b) → OnGrid w t (make_piece kind line a b)
unfolding OnGrid fields_right make_piece
right→on-grid w t kind line a b = go (eqb kind trunk_kind) (eqb kind branch_kind) (eqb kind contact_kind)
  where
    trunk : Bool
    trunk = within 1 line t && (leb 1 a && (ltb a b && leb b w))

    branch : Bool
    branch = within 1 line w && (ltb a b && leb b (t + 1))

    contact : Bool
    contact = within 1 line w && (within 1 a t && eqb a b)

    go : (x y z : Bool) → T (cond x trunk (cond y branch (cond z contact false)))
        → OnGrid w t (cond x (Trunk (record { 0 = line }) (record { 0 = a }) (record { 0 = b }))
        (cond y (Branch (record { 0 = line }) (record { 0 = a }) (record { 0 = b }))
        (Contact (record { 0 = line }) (record { 0 = a }))))
    go true y z h =
        let on = within→ 1 line t (and_left (within 1 line t) (leb 1 a && (ltb a b && leb b w)) h) in
        let rest = and_right (within 1 line t) (leb 1 a && (ltb a b && leb b w)) h in
        let more = and_right (leb 1 a) (ltb a b && leb b w) rest in (
          on.0,
          on.1,
          leb→le 1 a (and_left (leb 1 a) (ltb a b && leb b w) rest),
          ltb→lt a b (and_left (ltb a b) (leb b w) more),
          leb→le b w (and_right (ltb a b) (leb b w) more),
        )
    go false true z h =
        let on = within→ 1 line w (and_left (within 1 line w) (ltb a b && leb b (t + 1)) h) in
        let rest = and_right (within 1 line w) (ltb a b && leb b (t + 1)) h in (
          on.0,
          on.1,
          ltb→lt a b (and_left (ltb a b) (leb b (t + 1)) rest),
          leb→le b (t + 1) (and_right (ltb a b) (leb b (t + 1)) rest),
        )
    go false false true h =
        let on = within→ 1 line w (and_left (within 1 line w) (within 1 a t && eqb a b) h) in
        let tr = within→ 1 a t (and_left (within 1 a t) (eqb a b)
        (and_right (within 1 line w) (within 1 a t && eqb a b) h)) in
        (on.0, on.1, tr.0, tr.1)
    go false false false h = absurd h
