-- The next number is taken where it is the first from which steps lead back, or fewer do (`first-back`, `fewer-back`), and
-- left where none do, or no fewer (`none-back`, `more-back`).
use Rattle.std.proofs.Common.{◌+◌, ◌-◌, ◌≡◌, refl, arith}
use Rattle.lists.specs.Members.{in-up_to}
use Rattle.channel.specs.Channel.{highest_net}
use Rattle.rings.specs.Search.{StepsBack}
use Rattle.rings.specs.NearestLaws.{nearest-none, none-back, more-back, first-back, fewer-back}
use Rattle.rings.proofs.fewest.nearest.Goals as goal
use Rattle.rings.proofs.fewest.nearest.Goals.{in_default, in-Some+in-Some-found, in-Some+in_default-found, in-Some+in_default-found-2}

pub loop-n-init : goal.loop-n-init
loop-n-init c below steps = nearest-none

pub way_back-requires : goal.way_back-requires
way_back-requires c = (c.requires.0, in-up_to highest_net _ (omega arith) (omega arith))

pub loop-n-preserved : goal.loop-n-preserved
loop-n-preserved c below steps =
    let n : c.loop-n.n - 1 + 1 ≡ c.loop-n.n = omega arith in
    let next : c.loop-n.n + 1 - 1 ≡ c.loop-n.n = omega arith in
    let back : StepsBack below (c.loop-n.n - 1 + 1) c.way_back.result = rw n (c.way_back.ensures below steps) in
    let so_far = c.loop-n.invariant below steps in
    elim c.match-way_back.branch [
      | in_default w ↦ rw (w.found-is, next) (rw n at (none-back _ (rw w.in_default.is at back) _ so_far refl))
      | in-Some+in-Some-found w ↦
          let b = rw w.in-Some.is at back in
          rw (w.found-is, next)
          (rw n at (more-back _ b.1 _ (rw w.in-Some-found.is at so_far) w.if-start-nets.true))
      | in-Some+in_default-found-2 w ↦
          let b = rw w.in-Some.is at back in
          rw (w.found-is, next)
          (rw n at (fewer-back _ b.1 b.0 _ (rw w.in-Some-found.is at so_far) w.if-start-nets.false))
      | in-Some+in_default-found w ↦
          let b = rw w.in-Some.is at back in
          rw (w.found-is, next) (rw n at (first-back _ b.1 b.0 (rw w.in_default-found.is at so_far)))
    ]

pub returns : goal.returns
returns c below steps =
    let all : c.loop-n.n - 1 ≡ c.args.highest = omega arith in
    rw all at (c.loop-n.invariant below steps)
