use Rattle.std.proofs.Common.{◌≡◌, ◌-◌, ◌<◌, ◌≤◌, ◌∙◌, arith, rules, ap, length, length-drop, take, drop}
use Rattle.refusal.specs.ChainLaws.{handed-on}
use Rattle.cases.specs.CaseLaws.{beside-short, beside-few, beside-enough}
use Rattle.cases.proofs.rows.ask_beside.Goals as goal

pub returns-in_err-size : goal.returns-in_err-size
returns-in_err-size g c =
    rw (handed-on _ c.from_residual.ensures.1, c.in_err-size.ensures.0) (beside-short _ c.in_err-size.ensures.1)

pub returns-in_default : goal.returns-in_default
returns-in_default g c =
    let long = c.in_ok-size.ensures.0 in
    let behind : length c.in_ok-size.behind.now ≡ length c.args.bytes.now - 2 = ap length c.in_ok-size.ensures.2 ∙ length-drop 2 c.args.bytes.now in
    let few : length c.in_ok-size.behind.now < c.in_ok-size.size = search rules in
    beside-few _ long c.in_ok-size.ensures.1 (omega arith)

pub returns : goal.returns
returns g c =
    let long = c.in_ok-size.ensures.0 in
    let behind : length c.in_ok-size.behind.now ≡ length c.args.bytes.now - 2 = ap length c.in_ok-size.ensures.2 ∙ length-drop 2 c.args.bytes.now in
    let fits : c.in_ok-size.size ≤ length c.in_ok-size.behind.now = search rules in
    let cut : c.in-Some.rows.now ≡ take c.in_ok-size.size c.in_ok-size.behind.now = search rules in
    let rows : c.in-Some.rows.now ≡ take c.in_ok-size.size (drop 2 c.args.bytes.now) = rw c.in_ok-size.ensures.2 at cut in
    let whole = beside-enough _ long c.in_ok-size.ensures.1 (omega arith) in
    rw (rows, whole) at c.ask.ensures
