-- A turn puts one line more, by `put_then` and `each_take`.
use Rattle.std.proofs.Common.{refl, sym, arith}
use Rattle.lists.specs.Lists.{each}
use Rattle.lists.specs.Runs.{each_take}
use Rattle.report.specs.Lines.{net_line}
use Rattle.text.specs.PutLaws.{put_then, put_same}
use Rattle.report.proofs.put_nets.Goals as goal

pub loop-record-init : goal.loop-record-init
unfolding each
loop-record-init c = (record { place = omega arith; stored = refl }, omega arith)

pub loop-record-preserved : goal.loop-record-preserved
loop-record-preserved c =
    let one = each_take net_line c.args.records.now c.loop-record.record-index _ (omega arith) in
    (put_same (put_then c.loop-record.invariant.0 c.put_net-next.ensures.put) (sym one), omega arith)
