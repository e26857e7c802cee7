-- Without the parked pins there are as many (`spanning-shown`).
use Rattle.std.proofs.Common.{◌∙◌, ap, length}
use Rattle.channel.specs.Channel.{Channel, spanning}
use Rattle.channel.proofs.ShownLaws.{spanning-shown}
use Rattle.router.proofs.progress.count_spanning.Goals as goal

pub returns : goal.returns
returns c =
    c.list_spanning.ensures.0
    ∙ (ap (λ (ch : Channel). length (spanning ch)) (c.columns.ensures ∙ c.without_parked-nets.ensures)
    ∙ ap length (spanning-shown _))
