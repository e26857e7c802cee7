-- `numbered_at` meets its contract: the place shown is the smaller of the place and 2^32 - 1.
use Rattle.std.proofs.Common.{rules}
use Rattle.screen_api.specs.Numbers.{packed, entry_number}
use Rattle.screen_api.proofs.numbered_at.Goals as goal

pub returns : goal.returns
unfolding entry_number packed
returns c = search rules
