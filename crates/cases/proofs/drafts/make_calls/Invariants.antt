-- The first i calls are each of a kind up to 4.
use Rattle.std.specs.Prelude.{◌≡◌}
use Rattle.cases.specs.Cases.{calls_whole}
use Rattle.cases.specs.CaseLaws.{calls_from}
use Rattle.cases.proofs.drafts.make_calls.Given as goal

abbrev pub invariant-loop-i : goal.invariant-loop-i
invariant-loop-i g l = calls_whole l.bytes l.count ≡ calls_from l.bytes l.count l.i
