-- The loop's invariant: the first i numbers of the row are kept, or 0 stands for them.
use Rattle.std.proofs.Common.{◌≡◌, take}
use Rattle.lists.specs.Lists.{overlay}
use Rattle.channel.specs.Rows.{nets_of_row}
use Rattle.channel.proofs.parked.keep_nets.Given as goal

abbrev pub invariant-loop-i : goal.invariant-loop-i
invariant-loop-i l =
    l.kept ≡ overlay (take l.i (nets_of_row l.counts l.row)) l.fn.kept
