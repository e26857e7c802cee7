use Rattle.std.proofs.Common.{arith, ◌∙◌}
use Rattle.channel.specs.RowLaws.{none-high}
use Rattle.channel.proofs.RemoveLaws.{counted-once, not-once, kept_next}
use Rattle.channel.proofs.parked.keep_nets.Goals as goal
use Rattle.channel.proofs.parked.keep_nets.Goals.{then-counts-n-eq1, else-counts-n-eq1}

pub bounds-counts-n : goal.bounds-counts-n
bounds-counts-n c = let h = none-high _ c.requires.0 c.loop-i.i c.loop-i-test.true in omega arith

pub loop-i-preserved : goal.loop-i-preserved
loop-i-preserved c =
    kept_next c.args.counts.now c.args.row.now _ c.args.kept.now c.loop-i.i _ c.loop-i-test.true (omega arith)
    c.loop-i.invariant
    (elim c.if-counts-n-eq1.branch [
      | then-counts-n-eq1 w ↦ w.kept-is ∙ counted-once c.args.counts.now _ w.if-counts-n-eq1.true
      | else-counts-n-eq1 w ↦ w.kept-is ∙ not-once c.args.counts.now _ w.if-counts-n-eq1.false
    ])
