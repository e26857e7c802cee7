-- `join` meets its contract: both roots are found, and the higher is hung under the lower.
use native.Mathlib.Omega.{arith}
use Rattle.classes.specs.ForestLaws.{both_found, joins-lower, joins-upper}
use Rattle.classes.proofs.forest.join.Goals as goal

pub hang-requires : goal.hang-requires
hang-requires c =
    let start = c in
    let x = c.find-x in
    let y = c.find-y in
    let h = both_found _ _ _ _ start.requires.0 start.requires.1 start.requires.2 x.ensures.0 x.ensures.1
    y.ensures.0 y.ensures.1 in
    let z = h.kept.size in
    omega (arith, h.inside)

pub hang-requires-else-x-y : goal.hang-requires-else-x-y
hang-requires-else-x-y c =
    let start = c in
    let x = c.find-x in
    let y = c.find-y in
    let h = both_found _ _ _ _ start.requires.0 start.requires.1 start.requires.2 x.ensures.0 x.ensures.1
    y.ensures.0 y.ensures.1 in
    let z = h.kept.size in
    omega (arith, h.inside)

pub returns-then-x-y : goal.returns-then-x-y
returns-then-x-y c =
    let start =
    c in
    let x = c.find-x in
    let y = c.find-y in
    joins-lower _ _ _ _ start.requires.0 start.requires.1 start.requires.2
    (both_found _ _ _ _ start.requires.0 start.requires.1 start.requires.2 x.ensures.0 x.ensures.1
    y.ensures.0 y.ensures.1) (omega arith) c.hang.ensures

pub returns-else-x-y : goal.returns-else-x-y
returns-else-x-y c =
    let start =
    c in
    let x = c.find-x in
    let y = c.find-y in
    joins-upper _ _ _ _ start.requires.0 start.requires.1 start.requires.2
    (both_found _ _ _ _ start.requires.0 start.requires.1 start.requires.2 x.ensures.0 x.ensures.1
    y.ensures.0 y.ensures.1) (omega arith) c.hang-else-x-y.ensures
