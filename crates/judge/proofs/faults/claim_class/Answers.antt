-- `claim_class` meets its contract: the root of a class is in the list, its high half is the owner of the class's mark,
-- and each return is one case of the claim.
use native.Mathlib.Omega.{arith}
use mathlib.Core.Path.{refl}
use Rattle.classes.specs.Halves.{low_small}
use Rattle.judge.proofs.FaultStepsLaws.{mark-at, owner_at, class-free, claimed-met}
use Rattle.judge.proofs.faults.claim_class.Goals as goal

pub bounds-scratch-root : goal.bounds-scratch-root
bounds-scratch-root c =
    let a = c.args in omega
    (arith, mark-at a.scratch.now a.i (omega arith))

pub number-requires : goal.number-requires
number-requires c = (rw c.low.ensures (low_small _), omega arith)

pub bounds-scratch-root-then-owner-eq0 : goal.bounds-scratch-root-then-owner-eq0
bounds-scratch-root-then-owner-eq0 c =
    let a = c.args in omega
    (arith, mark-at a.scratch.now a.i (omega arith))

pub returns-then-owner-eq0 : goal.returns-then-owner-eq0
returns-then-owner-eq0 c =
    let a = c.args in
    class-free a.scratch.now a.i (omega arith) c.low-root.ensures c.high-owner.ensures
    a.net (rw c.low.ensures at c.number.ensures) c.if-owner-eq0.true

pub returns : goal.returns
returns c =
    let a = c.args in
    record {
      marks = refl;
      claimed =
          claimed-met (owner_at a.scratch.now a.i (omega arith) c.low-root.ensures c.high-owner.ensures)
          c.if-owner-eq0.false;
    }
