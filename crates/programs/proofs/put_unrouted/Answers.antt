-- Under 7 the lines of the ring stand behind the refusal's line (`with-ring`), and otherwise that line stands alone
-- (`without-ring`).
use Rattle.std.proofs.Common.{arith}
use Rattle.text.specs.PutLaws.{put_then, put_same}
use Rattle.programs.specs.CodeLaws.{with-ring, without-ring}
use Rattle.programs.proofs.put_unrouted.Goals as goal

pub returns-in-Tangled-clause-put : goal.returns-in-Tangled-clause-put
returns-in-Tangled-clause-put c =
    let lines = put_then c.put_refusal-size.ensures.put c.put_ring.ensures.put in
    rw c.in-Tangled.is (put_same (rw c.in-Tangled.is at lines) (with-ring _ _))

pub returns-in_default : goal.returns-in_default
returns-in_default c = record {
  put = put_same c.put_refusal-size.ensures.put (without-ring _ _ c.in_default.not-Tangled);
  upper_bound = omega (arith, c.put_refusal-size.ensures.upper_bound);
}
