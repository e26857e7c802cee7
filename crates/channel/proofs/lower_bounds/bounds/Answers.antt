-- Rows that are accepted are the channel, and its bounds are told (`told-ok`); else its refusal is (`told-err`).
use Rattle.std.proofs.Common.{◌∙◌, ap, Ok, Err}
use Rattle.refusal.specs.ChainLaws.{handed-on}
use Rattle.channel.specs.Channel.{rows}
use Rattle.channel.specs.Answers.{bounds_of, bounds_answer}
use Rattle.channel.proofs.BoundLaws.{told-err, told-ok}
use Rattle.channel.proofs.lower_bounds.bounds.Goals as goal

pub returns-in_err-rows : goal.returns-in_err-rows
unfolding bounds_answer
returns-in_err-rows c =
    handed-on _ c.from_residual.ensures.1 ∙ told-err (rows c.args.top.now c.args.bot.now) Err _ c.in_err-rows.ensures

pub returns : goal.returns
unfolding bounds_answer
returns c =
    ap Ok c.bounds_of.ensures
    ∙ told-ok (rows c.args.top.now c.args.bot.now) Err (λ ch. Ok (bounds_of ch)) c.in_ok-rows.ensures
