-- `pinlist::line::keep_number` meets its contract: where the row has no such place, a store there changes nothing.
use mathlib.Core.Path.{sym}
use native.Mathlib.Omega.{arith}
use lib.Seq.{set_out}
use Rattle.pinlist.proofs.line.keep_number.Goals as goal

pub returns-else-place-lt-WIDEST : goal.returns-else-place-lt-WIDEST
returns-else-place-lt-WIDEST c = sym (set_out _ _ _ (omega arith))
