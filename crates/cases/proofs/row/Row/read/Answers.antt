-- Each number is stored behind those before it.
use Rattle.std.proofs.Common.{◌∙◌, ◌+◌, ◌*◌, sym, arith, length-set}
use Rattle.std.proofs.lemmas.List.{take_more_set}
use Rattle.std.proofs.lemmas.List.FromFn.{map-range_with_len_more}
use Rattle.cases.specs.Cases.{number_at}
use Rattle.cases.proofs.row.Row.read.Goals as goal

pub loop-i-preserved : goal.loop-i-preserved
loop-i-preserved c =
    let l = c.loop-i in
    let more = map-range_with_len_more (λ k. number_at c.args.bytes.now (c.args.at + 2 * k)) 0 l.i l.i (omega arith) in
    let long = l.invariant.1 in (
      take_more_set l.numbers l.i c.number_at.result (omega arith) ∙ rw (l.invariant.0, c.number_at.ensures) (sym more),
      simp length-set long,
    )
