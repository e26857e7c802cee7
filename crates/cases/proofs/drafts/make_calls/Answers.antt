use Rattle.std.proofs.Common.{◌∙◌}
use borrow.Author.Tests.{le-leb, lt-leb}
use Rattle.refusal.specs.ChainLaws.{handed-on}
use Rattle.cases.specs.CaseLaws.{calls-all, calls-next, not_call, calls-end}
use Rattle.cases.proofs.drafts.make_calls.Goals as goal

pub loop-i-init : goal.loop-i-init
loop-i-init g c = calls-all _ _

pub returns-in_err-call : goal.returns-in_err-call
returns-in_err-call g c =
    let over = rw c.number_at.ensures at c.in_err-call.ensures.1 in
    let none = c.loop-i.invariant ∙ not_call _ _ c.loop-i.i c.loop-i-test.true (lt-leb _ 4 over) in
    rw (handed-on _ c.from_residual.ensures.1, c.in_err-call.ensures.0) none

pub loop-i-preserved : goal.loop-i-preserved
loop-i-preserved g c =
    let kind = rw c.number_at.ensures at c.in_ok-call.ensures in
    c.loop-i.invariant ∙ calls-next _ _ c.loop-i.i c.loop-i-test.true (le-leb _ 4 kind)

pub returns : goal.returns
returns g c = c.loop-i.invariant ∙ calls-end _ _ c.loop-i.i c.loop-i-test.false
