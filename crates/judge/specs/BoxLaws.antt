-- What the box of a word is, by the tests of its kind.
use Rattle.std.specs.Prelude.{ℕ, ◌≡◌, refl, Bool, true, false, cond, eqb}
use Rattle.grid.specs.Pieces.{column, row, trunk_kind, branch_kind, contact_kind, kind_of, left, right, low, high}
use Rattle.grid.specs.Words.{make_piece}
use Rattle.boardfile.specs.declared.Fields.{Fields}
use Rattle.boardfile.specs.Open.{fields_of, piece_of}
use Rattle.judge.specs.declared.boxes.Cover.{Cover}
use Rattle.judge.specs.Code.{cover_of, box_of}

-- the box of a word, each field picked by the two tests of the kind
unfoldable pub picked_box : Fields → Cover
picked_box f =
    let trunk = eqb f.kind trunk_kind in
    let branch = eqb f.kind branch_kind in
    record {
      kind = cond trunk trunk_kind (cond branch branch_kind contact_kind);
      left = column (cond trunk f.from f.line);
      right = column (cond trunk f.to f.line);
      low = row (cond trunk f.line f.from);
      high = row (cond trunk f.line (cond branch f.to f.from));
    }

pub box-picked : (v : ℕ) → box_of v ≡ picked_box (fields_of v)
unfolding cover_of box_of piece_of make_piece kind_of left right low high picked_box
box-picked v = go (eqb (fields_of v).kind trunk_kind) refl (eqb (fields_of v).kind branch_kind) refl
  where
    go : (t : Bool) → eqb (fields_of v).kind trunk_kind ≡ t → (b : Bool) → eqb (fields_of v).kind branch_kind ≡ b
        → box_of v ≡ picked_box (fields_of v)
    go true e b d = rw e
    go false e true d = rw (e, d)
    go false e false d = rw (e, d)
