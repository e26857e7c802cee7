-- `draw_board` meets its contract. The loop's invariant: behind the header's place stand the pieces of the nets below
-- n. A number is a net exactly if its first column is not 0, and no net is above the
-- highest number of the rows, so in the end all nets are drawn, and the header in front makes the board file
-- (`drawing-done`).
use Rattle.std.proofs.Common.{◌≡◌}
use Rattle.lists.specs.Lists.{each}
use Rattle.grid.specs.Numbers.{track_numbers}
use Rattle.channel.specs.Channel.{Channel, is_net}
use Rattle.drawing.specs.Prefixes.{below}
use Rattle.drawing.specs.Putting.{Put}
use Rattle.drawing.proofs.CodeLaws.{drawn_net}
use Rattle.drawing.proofs.draw_board.Given as goal

abbrev pub invariant-loop-n : goal.invariant-loop-n
invariant-loop-n l =
    let ch : Channel = l.rows in
    (l.pen.board.ghost_name ≡ l.initial.pen.board.ghost_name)
    × Put l.initial.pen.board.now l.pen.board.now 0 l.pen.count (each (drawn_net ch (track_numbers l.tracks) l.t) (below (is_net ch) l.n))
