use Prim.Native.Nat.{ℕ, ◌+◌}
use native.Mathlib.Omega.{arith}
use mathlib.Core.Path.{◌≡◌, ◌∙◌, ap, subst}
use mathlib.Core.List.{List}
use lib.ListN.{get_or}
use Rattle.channel.specs.Channel.{width}
use Rattle.judge.specs.Searches.{Owned}
use Rattle.judge.proofs.SearchLaws.{owned-same, no_short}
use Rattle.judge.specs.FaultSteps.{marks_in, owners_in}
use Rattle.judge.proofs.FaultStepsLaws.{owners-length, owned-next, owned-refused, net-low}
use Rattle.judge.proofs.faults.first_short.Goals.{else-net-ne0-via-then-net-ne0+else-not-claim_class, else-net-ne0-via-else-net-ne0}
use Rattle.judge.proofs.faults.first_short.Goals as goal

pub claim_class-requires : goal.claim_class-requires
claim_class-requires c =
    let turn = c.loop-i in
    let ready = c.requires.0 in
    let long = ready.long in
    let small = ready.small in
    let w = c.width-width.ensures in
    let mark = ready.marked turn.i (omega arith) in
    let same = ap (λ (ms : List ℕ). get_or ms turn.i 0) turn.invariant.0 in
    let low = net-low c.args.case.now.channel w.known.escapes turn.i in
    (omega arith, omega arith, omega arith, omega (arith, c.net_at-net.ensures))

pub returns-then-not-claim_class : goal.returns-then-not-claim_class
returns-then-not-claim_class c =
    let turn = c.loop-i in
    let claimed = c.claim_class.ensures in
    let w = c.width-width.ensures.value in
    record {
      first =
          owned-refused c.args.case.now.channel (marks_in c.args.scratch.now) turn.i turn.invariant.1
          (omega (arith, c.net_at-net.ensures)) (omega arith)
          (rw (turn.invariant.0, c.net_at-net.ensures) at claimed.claimed)
          c.if-not-claim_class.true;
      marks = claimed.marks ∙ turn.invariant.0;
      owned = λ z. absurd (let e : ◌≡◌ {A = ℕ} 0 1 = cc in omega arith);
    }

pub loop-i-preserved : goal.loop-i-preserved
loop-i-preserved c =
    let turn = c.loop-i in
    let ch = c.args.case.now.channel in
    let ms = marks_in c.args.scratch.now in
    let w = c.width-width.ensures.value in
    let long = c.requires.0.long in
    let mark = c.requires.0.marked turn.i (omega arith) in
    let size = owners-length turn.scratch in
    elim c.else-net-ne0.branch [
      | else-net-ne0-via-then-net-ne0+else-not-claim_class w ↦ rw w.scratch-is (
        w.claim_class.ensures.marks ∙ turn.invariant.0,
        owned-next ch ms turn.i turn.invariant.1 (omega (arith, c.net_at-net.ensures, w.if-net-ne0.true)) (omega arith)
            (rw (turn.invariant.0, c.net_at-net.ensures) at w.claim_class.ensures.claimed)
            w.if-not-claim_class.false,
      )
      | else-net-ne0-via-else-net-ne0 w ↦ rw w.scratch-is (
        turn.invariant.0,
        owned-same ch ms (owners_in turn.scratch) turn.i turn.invariant.1
            (λ p. absurd (omega (arith, c.net_at-net.ensures, w.if-net-ne0.false))),
      )
    ]

pub returns : goal.returns
returns c =
    let ch = c.args.case.now.channel in
    let ms = marks_in c.args.scratch.now in
    let owners = owners_in c.loop-i.scratch in
    let w = c.width-width.ensures.value in
    let end : c.loop-i.i ≡ width ch + width ch = omega arith in
    let owned = subst (Owned ch ms owners) end c.loop-i.invariant.1 in
    record { first = no_short ch ms owners owned; marks = c.loop-i.invariant.0; owned = λ z. owned }
