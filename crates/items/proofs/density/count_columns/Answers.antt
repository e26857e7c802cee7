use Rattle.std.proofs.Common.{ℕ, ◌+◌, ◌≤◌, ◌<◌, length, get_or, arith, add-one, refl}
use lib.ListN.{drop_of_length-le}
use Rattle.std.proofs.Math.Seq.{drop-cons}
use Rattle.grid.specs.Pieces.{column}
use Rattle.grid.specs.Numbers.{column-at, columns-long}
use Rattle.lists.specs.Tallies.{set-within}
use Rattle.lists.specs.Ends.{get_or-member}
use Rattle.lists.specs.Counts.{none-counted, tally}
use Rattle.items.proofs.density.count_columns.Goals as goal
use Rattle.items.proofs.density.count_columns.Goals.{In-loop-n}

-- the item of a turn has a place in the table, its column a count, and the count room
places : (c : In-loop-n)
    → let n = get_or c.args.items.now c.loop-n.n-index 0 in
    let k = (get_or c.args.columns.now n (column 0)).0 in
    (n < length c.args.columns.now) × (k < length c.args.counts.now) × (get_or c.loop-n.counts k 0 ≤ c.loop-n.n-index)
places c =
    let m = get_or-member c.args.items.now c.loop-n.n-index (omega arith) in
    let a = columns-long c.args.columns.now in
    let b = column-at c.args.columns.now (get_or c.args.items.now c.loop-n.n-index 0) in
    let number = c.requires.number _ m in
    let col = c.requires.column _ m in
    (omega arith, omega arith, c.loop-n.invariant.0 _)

pub bounds-columns-n : goal.bounds-columns-n
bounds-columns-n c = (places (goal.at.bounds-columns-n c).In-loop-n).0

pub bounds-counts-c : goal.bounds-counts-c
bounds-counts-c c = let p = places (goal.at.bounds-counts-c c).In-loop-n in omega arith

pub bounds-counts-c-in-loop-n : goal.bounds-counts-c-in-loop-n
bounds-counts-c-in-loop-n c = let p = places (goal.at.bounds-counts-c-in-loop-n c).In-loop-n in omega arith

pub loop-n-init : goal.loop-n-init
loop-n-init c = ((λ n. omega (arith, none-counted c.requires.empty n)), refl)

pub loop-n-preserved : goal.loop-n-preserved
unfolding tally
loop-n-preserved c =
    let l = c.loop-n in
    let inside : l.n-index < length c.args.items.now = omega arith in
    let n = get_or c.args.items.now l.n-index 0 in
    let k = (get_or c.args.columns.now n (column 0)).0 in
    let room : get_or l.counts k 0 ≤ l.n-index = l.invariant.0 k in (
      (λ n. let old = l.invariant.0 n in set-within l.counts k n (get_or l.counts k 0 + 1) (l.n-index + 1) (omega arith) (omega arith)),
      rw (add-one l.n-index, ← column-at c.args.columns.now n) (rw (drop-cons {A = ℕ} _ l.n-index 0) at l.invariant.1),
    )

pub returns : goal.returns
unfolding tally
returns c =
    let done = drop_of_length-le c.args.items.now {i = c.loop-n.n-index} (omega arith) in rw done at c.loop-n.invariant.1
