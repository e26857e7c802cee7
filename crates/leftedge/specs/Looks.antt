-- SCOPE, Req 07: "The fill counts each unplaced net it examines, once per track scan, the last empty scan included".
use Rattle.std.specs.Prelude.{ℕ, zero, suc, ◌+◌, ◌*◌, ◌/◌, List, [], cond, length, eqb}
use Rattle.std.proofs.Math.Option.{none}
use Rattle.leftedge.specs.Items.{Items, Place}
use Rattle.leftedge.specs.Fill.{scan}

-- "the sum over scans of the nets unplaced when the scan began": `left` are unplaced as the scan for the next track
-- begins; one that stays empty is the last. Where none is left the fill has ended, and 0 is added
unfoldable pub looks_from : ℕ → Items → ℕ → List Place → List ℕ → ℕ
looks_from zero it done ps left = 0
looks_from (suc fuel) it done ps left =
    let s = scan it (suc done) none ps left in
    let further = looks_from fuel it (suc done) s.placed s.left in
    length left + cond (eqb (length s.left) (length left)) 0 further

-- of the whole fill
unfoldable pub item_looks : Items → ℕ
item_looks it = looks_from (length it.order) it 0 [] it.order

-- "at most n times (n + 1), halved"
unfoldable pub ceiling : ℕ → ℕ
ceiling n = n * (n + 1) / 2
