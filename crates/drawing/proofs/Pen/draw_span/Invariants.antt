-- Behind the trunk stand the branches and contacts of the pin columns below c. No pin stands before the first column or
-- behind the last, so in the end all pin columns are drawn (`span-ended`).
use Rattle.std.proofs.Common.{◌≡◌}
use Rattle.lists.specs.Lists.{each}
use Rattle.channel.specs.Channel.{Channel, has_pin}
use Rattle.drawing.specs.Draw.{draw_column}
use Rattle.drawing.specs.Prefixes.{below}
use Rattle.drawing.specs.Putting.{Put}
use Rattle.drawing.proofs.Pen.draw_span.Given as goal

abbrev pub invariant-loop-c : goal.invariant-loop-c
invariant-loop-c l =
    let ch : Channel = l.rows in
    (l.self.board.ghost_name ≡ l.initial.self.board.ghost_name)
    × Put l.initial.self.board.now l.self.board.now l.initial.self.count l.self.count
    (each (draw_column ch l.t l.net.track.0 l.net.number.0) (below (has_pin ch l.net.number.0) l.c))
