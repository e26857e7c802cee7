-- The linked steps are those between all net numbers (`numbers-stepped`). Where `nearest` finds a net, the ring gone down
-- from there is the one with the fewest nets (`of_some`), else there is none (`of_none`).
use Rattle.std.proofs.Common.{arith, refl, sym, ◌∙◌}
use Rattle.lists.specs.Lists.{each}
use Rattle.channel.specs.Channel.{rows}
use Rattle.channel.specs.Constraints.{below}
use Rattle.leftedge.specs.Walk.{ring_numbers}
use Rattle.rings.specs.KnownLaws.{numbers-stepped, numbers-known, highest-low}
use Rattle.rings.specs.Answers.{pairs_answer}
use Rattle.rings.proofs.AnswerLaws.{pairs-some}
use Rattle.rings.proofs.OfNets.{of_none, of_some, can-show}
use Rattle.rings.proofs.fewest.fewest_of_nets.Goals as goal

pub nearest-requires : goal.nearest-requires
nearest-requires c = (
  numbers-known c.nets.invariant _ _ _ c.link_steps.ensures c.link_steps.auto.head,
  highest-low c.nets.invariant c.highest_number-highest.ensures,
)

pub show_from-requires : goal.show_from-requires
show_from-requires c =
    let stepped = numbers-stepped c.nets.invariant _ _ _ c.link_steps.ensures in
    let found = c.in_ok-start.ensures (below (rows c.nets.inside.top.now c.nets.inside.bot.now)) stepped in
    rw (← c.nets.view_is) (can-show c.nets.invariant c.highest_number-highest.ensures found.1 found.0 stepped
    c.link_steps.auto.head c.requires)

pub returns-in_err-start : goal.returns-in_err-start
unfolding ring_numbers each pairs_answer
returns-in_err-start c =
    let stepped = numbers-stepped c.nets.invariant _ _ _ c.link_steps.ensures in
    let r = of_none c.nets.invariant c.highest_number-highest.ensures
    (c.in_err-start.ensures (below (rows c.nets.inside.top.now c.nets.inside.bot.now)) stepped) refl in
    rw (← c.nets.view_is) (
      c.from_residual.ensures ∙ rw r.0 refl,
      rw (r.1, ring_numbers) refl,
    )

pub returns : goal.returns
returns c =
    let stepped = numbers-stepped c.nets.invariant _ _ _ c.link_steps.ensures in
    let found = c.in_ok-start.ensures (below (rows c.nets.inside.top.now c.nets.inside.bot.now)) stepped in
    let r = of_some c.nets.invariant c.highest_number-highest.ensures found.1 found.0 in
    rw (← c.nets.view_is) (
      rw r.0 (sym (pairs-some _ (omega (arith, found.0)))),
      rw (← r.1) at (rw (← c.nets.view_is) at c.show_from.ensures),
    )
