-- The steps that `search` finds from the net to itself.
use Rattle.std.proofs.Common.{arith}
use Rattle.lists.specs.Members.{up_to-member}
use Rattle.rings.proofs.fewest.way_back.Goals as goal

pub offset_bounds-far-n : goal.offset_bounds-far-n
offset_bounds-far-n c = omega (arith, up_to-member 511 c.requires.1)

pub bounds-far-n : goal.bounds-far-n
bounds-far-n c = omega (arith, up_to-member 511 c.requires.1)

pub returns-then-steps-eq0 : goal.returns-then-steps-eq0
returns-then-steps-eq0 c below steps =
    rw c.if-steps-eq0.true at ((c.search.ensures below steps).found c.args.n)

pub returns-else-steps-eq0 : goal.returns-else-steps-eq0
returns-else-steps-eq0 c below steps =
    (omega (arith, c.if-steps-eq0.false, c.from.ensures), rw c.from.ensures ((c.search.ensures below steps).found _))
