-- Without the parked pins the ring with the fewest nets is the same (`fewest-shown`, `fewest-ring-shown`).
use Rattle.std.proofs.Common.{List, ◌∙◌, ap}
use Rattle.lists.specs.Lists.{overlay}
use Rattle.channel.specs.Channel.{Channel}
use Rattle.channel.specs.Constraints.{Step}
use Rattle.leftedge.specs.Walk.{ring_numbers}
use Rattle.rings.specs.Answers.{pairs_answer}
use Rattle.rings.specs.Fewest.{fewest, fewest_ring}
use Rattle.rings.proofs.ShownLaws.{fewest-shown, fewest-ring-shown}
use Rattle.rings.proofs.fewest.fewest_of.Goals as goal

pub returns : goal.returns
returns c = (
  c.fewest_of_nets.ensures.0
      ∙ (ap (λ (ch : Channel). pairs_answer (fewest ch)) c.without_parked.ensures ∙ ap pairs_answer (fewest-shown _)),
  c.fewest_of_nets.ensures.1
      ∙ ap (λ (l : List Step). overlay (ring_numbers l) c.args.ring.now)
      (ap fewest_ring c.without_parked.ensures ∙ fewest-ring-shown _),
)
