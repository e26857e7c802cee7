-- The figures are not refused, so the listing is put.
use Rattle.std.proofs.Common.{◌≡◌}
use Rattle.programs.specs.Code.{figures_of, channel_of}
use Rattle.programs.proofs.put_routed.Goals as goal

pub returns-in-Ok-clause-put : goal.returns-in-Ok-clause-put
returns-in-Ok-clause-put c =
    let told : c.in-Ok.figures ≡ figures_of (channel_of c.args.pins.now) c.args.drawn.tracks c.args.drawn.pieces = cc in
    rw told at c.put_listing.ensures.put

pub returns-in-Err : goal.returns-in-Err
returns-in-Err c = let same = c.in-Err.ensures in cc
