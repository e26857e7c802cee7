use Rattle.std.proofs.Common.{arith}
use Rattle.channel.specs.RowLaws.{none-high}
use Rattle.channel.proofs.OnceLaws.{once-at, none-once}
use Rattle.channel.proofs.parked.any_once.Goals as goal

pub bounds-counts-n : goal.bounds-counts-n
bounds-counts-n c = let h = none-high _ c.requires c.loop-n.n-index c.loop-n-test.true in omega arith

pub returns-then-counts-n-eq1 : goal.returns-then-counts-n-eq1
returns-then-counts-n-eq1 c =
    once-at c.args.counts.now c.args.row.now c.loop-n.n-index c.loop-n-test.true c.if-counts-n-eq1.true

pub returns : goal.returns
returns c = none-once c.args.counts.now c.args.row.now c.loop-n.n-index (omega arith) c.loop-n.invariant
