use Rattle.std.proofs.Common.{◌≡◌, ◌+◌, ◌-◌, ◌%◌, sym, ◌∙◌, arith}
use Rattle.draft.specs.Marks.{with_mark}
use Rattle.draft.specs.CodeLaws.{changed-none, changed-turn, mark-changed}
use Rattle.draft.specs.HistoryLaws.{span-fits}
use Rattle.draft.proofs.columns.mark_span.Goals as goal

pub loop-c-init : goal.loop-c-init
loop-c-init c = let fit = span-fits c.args.span.net.0 c.args.span.first.0 c.args.span.last.0 c.args.span.good in sym (changed-none _ _ _ _ _ (omega (arith, fit.begins)))

pub of-requires : goal.of-requires
of-requires c =
    let fit = span-fits c.args.span.net.0 c.args.span.first.0 c.args.span.last.0 c.args.span.good in
    (fit.high, (omega (arith, fit.begins), omega (arith, fit.ends)))

pub loop-c-preserved : goal.loop-c-preserved
loop-c-preserved c =
    let l = c.loop-c in
    let n = c.args.span.net.0 in
    let fit = span-fits c.args.span.net.0 c.args.span.first.0 c.args.span.last.0 c.args.span.good in
    let e : l.c - 1 + 1 ≡ l.c = omega (arith, fit.begins) in
    let f : l.c + 1 - 1 ≡ l.c = omega arith in
    rw f (c.put.ensures ∙ (mark-changed with_mark l.words n l.c c.of.ensures
    ∙ (rw e at (changed-turn (with_mark (n % 64)) n c.args.span.first.0 c.args.words.now (l.c - 1) fit.high
    (omega (arith, fit.ends)) (omega arith) l.invariant (omega arith)))))

pub returns : goal.returns
returns c =
    let fit = span-fits c.args.span.net.0 c.args.span.first.0 c.args.span.last.0 c.args.span.good in
    let end : c.loop-c.c - 1 ≡ c.args.span.last.0 = omega (arith, fit.rises) in rw end at c.loop-c.invariant
