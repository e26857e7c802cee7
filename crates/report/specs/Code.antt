-- What the code of this crate puts, over the lines.
use Rattle.std.specs.Prelude.{ℕ, ◌+◌, ◌*◌, List, [], ◌∷◌, ◌++◌, get_or}
use Rattle.lists.specs.Lists.{each, from}
use Rattle.leftedge.specs.declared.NetRecord.{NetRecord}
use Rattle.text.specs.Lines.{line}
use Rattle.report.specs.declared.Figures.{Figures}
use Rattle.report.specs.Lines.{board_line, bound_line, net_line, end_line}

-- the line of pair i of a ring buffer
abbrev pub pair_line : List ℕ → ℕ → List ℕ
pair_line ring i = line "RING" (get_or ring (2 * i) 0 ∷ get_or ring (2 * i + 1) 0 ∷ [])

-- the lines of the pairs at its front
unfoldable pub ring_text : List ℕ → ℕ → List ℕ
ring_text ring pairs = each (pair_line ring) (from 0 pairs)

-- the lines of a listing
unfoldable pub listing_text : Figures → List NetRecord → List ℕ
listing_text f records =
    board_line f.width f.tracks f.blank
    ++ (bound_line f.density f.chain ++ (each net_line records ++ end_line f.pieces))
