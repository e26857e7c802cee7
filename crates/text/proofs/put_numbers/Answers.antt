-- A turn puts one number more, by `put_then` and `each_take`.
use Rattle.std.proofs.Common.{refl, sym, ap, arith, ◌∙◌}
use Rattle.lists.specs.Lists.{each}
use Rattle.lists.specs.Runs.{each_take}
use Rattle.text.specs.Lines.{field}
use Rattle.text.specs.PutLaws.{put_then, put_same}
use Rattle.text.proofs.put_numbers.Goals as goal

pub loop-n-init : goal.loop-n-init
unfolding each
loop-n-init g c = (record { place = omega arith; stored = refl }, omega arith)

pub loop-n-preserved : goal.loop-n-preserved
loop-n-preserved g c =
    let one = each_take (λ n. field (g.N.Number.value n)) c.args.numbers.now c.loop-n.n-index c.n-item.result (omega arith) in
    let put = rw (c.wide.ensures ∙ ap g.N.Number.value c.n-item.is) at c.put_number-next.ensures.put in
    (put_same (put_then c.loop-n.invariant.0 put) (sym one), omega arith)
