-- Rows that are accepted escape the refusals; those that are refused do not.
use Rattle.std.proofs.Common.{sym, ◌∙◌, refl}
use Rattle.refusal.specs.ChainLaws.{handed-on}
use Rattle.channel.specs.Channel.{rows}
use Rattle.channel.proofs.BoundLaws.{accepted→escapes, escapes→accepted, ok→checked, err→checked}
use Rattle.channel.proofs.rows.check.Goals as goal

pub returns-in_err-accept-clause-answer : goal.returns-in_err-accept-clause-answer
returns-in_err-accept-clause-answer c =
    handed-on _ c.from_residual.ensures.1 ∙ err→checked (rows c.args.top.now c.args.bot.now) c.in_err-accept.ensures

pub returns-in_err-accept-clause-accepted : goal.returns-in_err-accept-clause-accepted
returns-in_err-accept-clause-accepted c =
    let ch = rows c.args.top.now c.args.bot.now in
    let refused = err→checked ch c.in_err-accept.ensures in
    rw (handed-on _ c.from_residual.ensures.1) (
      λ e. cc,
      λ esc. let ok = escapes→accepted ch esc in cc,
    )

pub returns-clause-answer : goal.returns-clause-answer
returns-clause-answer c = ok→checked (rows c.args.top.now c.args.bot.now) c.in_ok-accept.ensures

pub returns-clause-accepted : goal.returns-clause-accepted
returns-clause-accepted c =
    (λ e. accepted→escapes _ (sym (ok→checked (rows c.args.top.now c.args.bot.now) c.in_ok-accept.ensures)), λ esc. refl)
