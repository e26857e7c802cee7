-- `put_piece` leaves the piece's word behind the others, for which `Room` has the place.
use Rattle.std.proofs.Common.{arith, refl}
use mathlib.Core.List.Memᴰ
use Rattle.drawing.specs.Putting.{put_one}
use Rattle.drawing.proofs.Pen.put.Goals as goal

pub put_piece-requires : goal.put_piece-requires
put_piece-requires c = (omega arith, c.requires.small c.args.piece (Memᴰ.head refl))

pub returns-clause-drawn : goal.returns-clause-drawn
returns-clause-drawn c =
    put_one c.args.self.now.board.now _ c.args.self.now.count c.args.piece c.put_piece.ensures
