-- The two bytes in front are those of the number at byte 0.
use Rattle.std.proofs.Common.{◌≡◌, ◌≤◌, ◌∙◌, rules, length, take}
use Rattle.cases.specs.CaseLaws.{number-first}
use Rattle.cases.proofs.rows.front.Goals as goal

pub returns : goal.returns
returns c =
    let long : 2 ≤ length c.args.bytes.now = search rules in
    let first : c.in-Some.field-0-0.now ≡ take 2 c.args.bytes.now = search rules in
    (long, rw first at c.from_be_bytes.ensures ∙ number-first _ long, search rules)
