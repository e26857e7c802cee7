-- SCOPE, "Filling tracks": "For each track from 1 up, the list of unplaced nets is scanned once."
use Rattle.std.specs.Prelude.{ℕ, zero, suc, List, [], ◌∷◌, cond, ◌&&◌, length, eqb}
use Rattle.std.proofs.Math.Option.{Option, none, some}
use Rattle.leftedge.specs.Items.{Items, Place, fits, clear_below}

-- what a scan comes to: all that is placed, last placed first, and the items left unplaced, in order
pub record Scan : Type 0 where
  pub placed : List Place
  pub left : List ℕ

-- one scan for track k: the item placed before on this track, what is placed, and the unplaced items still to look at.
-- "A net is placed if its first column exceeds the last column of the net placed before it on this track, if any, and
-- all nets directly below it are placed"
unfoldable pub scan : Items → ℕ → Option ℕ → List Place → List ℕ → Scan
scan it k before ps [] = record { placed = ps; left = [] }
scan it k before ps (n ∷ ns) =
    let taken = scan it k (some n) (record { item = n; track = k } ∷ ps) ns in
    let passed = scan it k before ps ns in
    cond (fits it before n && clear_below it ps n) taken (record { placed = passed.placed; left = n ∷ passed.left })

-- filled with a number of tracks, or stuck with the items left
pub data Filling : Type 0 where
  filled : ℕ → List Place → Filling
  stuck : List ℕ → Filling

-- filled where no item is left, else what comes further
unfoldable pub or_else : ℕ → List Place → List ℕ → Filling → Filling
or_else done ps [] further = filled done ps
or_else done ps (n ∷ ns) further = further

-- "The fill ends when no net is left or a track stays empty": `done` tracks are filled, and `fuel` bounds those to come
unfoldable pub fill_from : ℕ → Items → ℕ → List Place → List ℕ → Filling
fill_from zero it done ps left = or_else done ps left (stuck left)
fill_from (suc fuel) it done ps left =
    let s = scan it (suc done) none ps left in
    let further = fill_from fuel it (suc done) s.placed s.left in
    let here = cond (eqb (length s.left) (length left)) (stuck left) further in
    or_else done ps left here

-- every track takes an item or more, so there are no more tracks than items
unfoldable pub fill_items : Items → Filling
fill_items it = fill_from (length it.order) it 0 [] it.order
