-- The rows are linked as steps between the nets with spans, which may be peeled (`nets-peelable`), and what the peeling
-- answers is the chain (`nets-peeled`).
use native.Mathlib.Omega.{arith}
use Rattle.channel.proofs.StepsLaws.{nets-peelable, nets-peeled}
use Rattle.channel.proofs.lower_bounds.chain_of.Goals as goal

pub longest_chain-requires : goal.longest_chain-requires
longest_chain-requires c =
    nets-peelable c.nets.invariant (rw (← c.nets.view_is) at c.requires) c.link_steps.ensures c.link_steps.auto.head c.link_steps.auto.under
    (omega arith)

pub returns : goal.returns
returns c =
    rw (← c.nets.view_is) (nets-peeled c.nets.invariant (rw (← c.nets.view_is) at c.requires) c.link_steps.ensures (λ f s. (c.longest_chain.ensures f s).0))
