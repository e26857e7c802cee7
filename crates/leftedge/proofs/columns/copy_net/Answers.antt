-- A column that does not pass 512 is the same in 16 bits.
use native.Mathlib.Omega.{arith}
use Rattle.std.proofs.Common.{refl}
use Rattle.grid.specs.Numbers.{column-at}
use Rattle.leftedge.proofs.columns.copy_net.Goals as goal

pub overflow_cast-begins : goal.overflow_cast-begins
overflow_cast-begins c = let e = column-at c.args.first.now c.args.n.0 in let h = c.requires.1 in omega arith

pub overflow_cast-ends : goal.overflow_cast-ends
overflow_cast-ends c = let e = column-at c.args.last.now c.args.n.0 in let h = c.requires.2 in omega arith

pub returns : goal.returns
returns c = (rw (column-at c.args.first.now c.args.n.0) refl, rw (column-at c.args.last.now c.args.n.0) refl)
