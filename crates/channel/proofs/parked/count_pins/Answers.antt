use Rattle.std.proofs.Common.{◌<◌, get_or, arith, sym, ◌∙◌}
use Rattle.lists.specs.Tallies.{set-within}
use Rattle.lists.specs.Counts.{tally-step, tally-done}
use Rattle.channel.specs.RowLaws.{none-high}
use Rattle.channel.proofs.parked.count_pins.Goals as goal

pub bounds-counts-n : goal.bounds-counts-n
bounds-counts-n c = let h = none-high _ c.requires.0 c.loop-n.n-index c.loop-n-test.true in omega arith

pub bounds-counts-n-in-loop-n : goal.bounds-counts-n-in-loop-n
bounds-counts-n-in-loop-n c = let h = none-high _ c.requires.0 c.loop-n.n-index c.loop-n-test.true in omega arith

pub loop-n-preserved : goal.loop-n-preserved
loop-n-preserved c =
    let room = c.loop-n.invariant.0 in
    let h = none-high _ c.requires.0 c.loop-n.n-index c.loop-n-test.true in
    let k : get_or c.args.row.now c.loop-n.n-index 0 < 512 = omega arith in (
      (λ n l. set-within c.loop-n.counts _ n _ _ (omega (arith, room n l)) (omega (arith, room _ k))),
      tally-step _ c.loop-n.counts c.loop-n.n-index c.loop-n-test.true ∙ c.loop-n.invariant.1,
    )

pub returns : goal.returns
returns c = sym (tally-done _ c.loop-n.counts c.loop-n.n-index (omega arith)) ∙ c.loop-n.invariant.1
