-- The pairs that the ring buffer holds make the ring's lines (`ring-found`), or there is none (`ring-none`); an accepted
-- channel is not refused (`ring-unrefused`).
use Rattle.std.proofs.Common.{arith, ◌∙◌, ap, Ok}
use Rattle.text.specs.PutLaws.{put_same}
use Rattle.programs.specs.RingLaws.{ring-found, ring-none, ring-unrefused}
use Rattle.programs.proofs.ring_channel.Goals as goal

pub put_ring-requires : goal.put_ring-requires
put_ring-requires c =
    let done = rw (c.top.ensures, c.bot.ensures) at c.fewest_ring.ensures in
    let few = (ring-found _ c.args.pins.now.escape (omega arith) done (c.in-Ok-Some.is ∙ ap Ok c.in-Ok-Some.field-0-is)).0 in
    (few, omega arith, omega arith)

pub returns-in-Ok-Some : goal.returns-in-Ok-Some
returns-in-Ok-Some c =
    let done = rw (c.top.ensures, c.bot.ensures) at c.fewest_ring.ensures in
    let told = ring-found _ c.args.pins.now.escape (omega arith) done (c.in-Ok-Some.is ∙ ap Ok c.in-Ok-Some.field-0-is) in
    record { put = put_same c.put_ring.ensures.put told.1; upper_bound = let few = told.0 in omega arith }

pub returns-in-Ok-None-clause-put : goal.returns-in-Ok-None-clause-put
returns-in-Ok-None-clause-put c =
    let done = rw (c.top.ensures, c.bot.ensures) at c.fewest_ring.ensures in
    put_same c.put_none.ensures.put
    (ring-none _ c.args.pins.now.escape (omega arith) done (c.in-Ok-None.is ∙ ap Ok c.in-Ok-None.field-0-is))

pub returns-in-Err : goal.returns-in-Err
returns-in-Err c =
    let done = rw (c.top.ensures, c.bot.ensures) at c.fewest_ring.ensures in
    absurd (ring-unrefused _ c.args.pins.now.escape (omega arith) done c.in-Err.is)
