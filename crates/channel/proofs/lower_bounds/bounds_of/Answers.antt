-- With the parked pins removed a channel has the same density and chain (`density-shown`, `chain-shown`).
use Rattle.std.proofs.Common.{◌∙◌, ap, ap₂}
use Rattle.channel.specs.Answers.{bounds_of}
use Rattle.channel.proofs.ShownLaws.{density-shown, chain-shown}
use Rattle.channel.proofs.lower_bounds.bounds_of.Goals as goal

pub returns : goal.returns
returns c =
    c.bounds_of_nets-2.ensures
    ∙ (ap bounds_of c.without_parked.ensures
    ∙ ap₂ (λ d k. record { density = d; chain = k }) (density-shown _) (chain-shown _))
