-- `faulty` meets its contract: the number and the place are those of the fault, and the number is at most 13.
use native.Mathlib.Omega.{arith}
use Rattle.judge.proofs.OnBytes.{fault-between}
use Rattle.screen_api.proofs.faulty.Goals as goal

pub numbered_at-requires : goal.numbered_at-requires
numbered_at-requires c =
    let b = fault-between c.args.fault in
    omega (arith, c.fault_number.ensures)

pub returns : goal.returns
returns c = rw (c.fault_number.ensures, c.fault_place.ensures) at c.numbered_at.ensures
