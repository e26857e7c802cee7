use Rattle.std.proofs.Common.{ℕ, List, ◌+◌, ◌≡◌, ◌<◌, ◌≤◌, max, drop, length, get_or, arith, add-one}
use lib.ListN.{drop_of_length-le}
use Rattle.std.proofs.Math.Seq.{drop-cons}
use Rattle.lists.specs.Lists.{greatest}
use Rattle.channel.proofs.spanning.highest_number.Goals as goal

greatest-drop : (row : List ℕ) (i : ℕ) → i < length row
    → greatest (drop i row) ≡ max (get_or row i 0) (greatest (drop (i + 1) row))
unfolding greatest
greatest-drop row i h = rw (add-one i, drop-cons row i 0)

greatest-none : (row : List ℕ) (i : ℕ) → length row ≤ i → greatest (drop i row) ≡ 0
unfolding greatest
greatest-none row i h = rw (drop_of_length-le row h)

pub loop-n-preserved : goal.loop-n-preserved
loop-n-preserved c = let next = greatest-drop c.args.row.now c.loop-n.n-index (omega arith) in omega arith

pub returns : goal.returns
returns c = let none = greatest-none c.args.row.now c.loop-n.n-index (omega arith) in omega arith
