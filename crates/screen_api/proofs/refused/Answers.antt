-- `refused` meets its contract: the number and the place are those of the refusal, and the number is at most 23.
use Rattle.screen_api.proofs.NumberLaws.{refusal-small}
use Rattle.screen_api.proofs.refused.Goals as goal

pub numbered_at-requires : goal.numbered_at-requires
numbered_at-requires c = rw c.number_of.ensures (refusal-small c.args.refusal)

pub returns : goal.returns
returns c = rw (c.number_of.ensures, c.place_of.ensures) at c.numbered_at.ensures
