-- Rows that are accepted are the channel, and its looks are told, which are as many without the parked pins
-- (`looks-shown`); else its refusal is.
use Rattle.std.proofs.Common.{◌∙◌, ap, Ok, Err}
use Rattle.channel.specs.Channel.{rows}
use Rattle.channel.proofs.BoundLaws.{told-err, told-ok}
use Rattle.leftedge.specs.Nets.{looks}
use Rattle.leftedge.proofs.ShownLaws.{looks-shown}
use Rattle.refusal.specs.ChainLaws.{handed-on}
use Rattle.router.specs.Progress.{looks_answer}
use Rattle.router.proofs.progress.looks.Goals as goal

pub returns-in_err-rows : goal.returns-in_err-rows
unfolding looks_answer
returns-in_err-rows c =
    handed-on _ c.from_residual.ensures.1 ∙ told-err (rows c.args.top.now c.args.bot.now) Err _ c.in_err-rows.ensures

pub returns : goal.returns
unfolding looks_answer
returns c =
    ap Ok (c.count_looks.ensures ∙ (ap looks c.without_parked-nets.ensures ∙ looks-shown _))
    ∙ told-ok (rows c.args.top.now c.args.bot.now) Err (λ ch. Ok (looks ch)) c.in_ok-rows.ensures
