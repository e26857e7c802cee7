-- Rows that are accepted are the channel, and its ceiling is told; else its refusal is. There are at most 511 nets with
-- spans, so that the product fits.
use Rattle.std.proofs.Common.{ℕ, ◌+◌, ◌*◌, ◌≤◌, ◌≡◌, ◌∙◌, ap, arith, length, Ok, Err}
use native.Mathlib.Nat.{mul-le-mul}
use Rattle.channel.specs.Channel.{Channel, rows, spanning}
use Rattle.channel.proofs.BoundLaws.{told-err, told-ok}
use Rattle.channel.proofs.SpanLaws.{spanning-small}
use Rattle.leftedge.specs.Looks.{ceiling}
use Rattle.refusal.specs.ChainLaws.{handed-on}
use Rattle.router.specs.Progress.{ceiling_answer}
use Rattle.router.proofs.progress.ceiling.Goals as goal

few : {n : ℕ} (ch : Channel) → n ≡ length (spanning ch) → n ≤ 511
few ch e = omega (arith, e, (spanning-small ch).2)

product : {n : ℕ} (ch : Channel) → n ≡ length (spanning ch) → n * (n + 1) ≤ 511 * 512
product {n} ch e = let h = few ch e in let next : n + 1 ≤ 512 = omega (arith, h) in mul-le-mul h next

pub returns-in_err-rows : goal.returns-in_err-rows
unfolding ceiling_answer
returns-in_err-rows c =
    handed-on _ c.from_residual.ensures.1 ∙ told-err (rows c.args.top.now c.args.bot.now) Err _ c.in_err-rows.ensures

pub overflow_add-result : goal.overflow_add-result
overflow_add-result c = omega (arith, few _ c.count_spanning-n.ensures)

pub overflow_mul-result : goal.overflow_mul-result
overflow_mul-result c = omega (arith, product _ c.count_spanning-n.ensures)

pub returns : goal.returns
unfolding ceiling_answer ceiling
returns c =
    ap (λ (n : ℕ). Ok (ceiling n)) c.count_spanning-n.ensures
    ∙ told-ok (rows c.args.top.now c.args.bot.now) Err (λ ch. Ok (ceiling (length (spanning ch)))) c.in_ok-rows.ensures
