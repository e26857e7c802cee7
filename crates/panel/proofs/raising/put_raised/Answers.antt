-- A turn's store makes the run one longer, by `sets-take`; at the end the run is the whole row.
use Rattle.std.proofs.Common.{ℕ, List, ◌+◌, ◌≡◌, ◌∙◌, ap, sym, map, length, get_or, set, take, refl, arith, add-one}
use Rattle.std.proofs.lemmas.List.Edits.{sets}
use Rattle.std.proofs.lemmas.List.{length-map}
use Rattle.std.proofs.Math.Seq.{take-length}
use Rattle.lists.specs.Stores.{sets-take}
use Rattle.lists.specs.Updates.{map_at}
use Rattle.panel.specs.Joined.{raised}
use Rattle.panel.proofs.raising.put_raised.Goals as goal

pub loop-i-init : goal.loop-i-init
loop-i-init c = refl

pub raise-requires : goal.raise-requires
raise-requires c = (c.requires.0 c.loop-i.i (omega arith), c.requires.1)

pub loop-i-preserved : goal.loop-i-preserved
loop-i-preserved c =
    let a = c.args in
    let i = c.loop-i.i in
    let row = map (raised a.by) a.row.now in
    let size = length-map a.row.now (raised a.by) in
    let here = map_at (raised a.by) a.row.now i (omega arith) in
    let stored = sets-take a.to.now a.at row i 0 (omega arith) in
    ap (λ (v : ℕ). set c.loop-i.to (a.at + i) v) (c.raise.ensures ∙ sym here)
    ∙ (ap (λ (l : List ℕ). set l (a.at + i) (get_or row i 0)) c.loop-i.invariant ∙ rw add-one stored)

pub returns : goal.returns
returns c =
    let a = c.args in
    let row = map (raised a.by) a.row.now in
    let end : c.loop-i.i ≡ length row = let l = length-map a.row.now (raised a.by) in omega arith in
    c.loop-i.invariant ∙ ap (sets a.to.now a.at) (ap (λ (k : ℕ). take k row) end ∙ take-length row)
