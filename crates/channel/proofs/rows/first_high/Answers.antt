use Rattle.std.proofs.Common.{arith}
use Rattle.channel.specs.RowLaws.{first-high-at, no-first-high}
use Rattle.channel.proofs.rows.first_high.Goals as goal

pub returns-then-n-gt-HIGHEST_NET : goal.returns-then-n-gt-HIGHEST_NET
returns-then-n-gt-HIGHEST_NET c =
    first-high-at _ c.loop-i.i c.loop-i-test.true c.if-n-gt-HIGHEST_NET.true c.loop-i.invariant

pub returns : goal.returns
returns c = no-first-high _ (λ k l. c.loop-i.invariant k (omega arith))
