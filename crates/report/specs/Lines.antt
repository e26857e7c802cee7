-- SCOPE, "Judge, blanks, programs": the lines that programs print.
use Rattle.std.specs.Prelude.{ℕ, List, [], ◌∷◌, cond, eqb}
use Prim.Native.String.{String}
use Rattle.lists.specs.Lists.{each}
use Rattle.refusal.specs.declared.Refusal.{Refusal}
use Rattle.refusal.specs.Refusals.{Told, told_refusal}
use Rattle.channel.specs.Constraints.{Step}
use Rattle.leftedge.specs.declared.NetRecord.{NetRecord}
use Rattle.text.specs.Lines.{line}

-- "Any refusal or fault prints REFUSED, number, place"
unfoldable pub refused_line : Told → List ℕ
refused_line told = line "REFUSED" (told.number ∷ told.values)

-- the word of a success and the values answered, or the line of a refusal or fault
unfoldable pub told_line : String → Told → List ℕ
told_line word told = cond (eqb told.number 0) (line word told.values) (refused_line told)

abbrev pub refusal_line : Refusal → List ℕ
refusal_line r = refused_line (told_refusal r)

-- "tangled adds a line RING, net, column per pair"
unfoldable pub ring_lines : List Step → List ℕ
ring_lines steps = each (λ s. line "RING" (s.net ∷ s.column ∷ [])) steps

-- of a channel that has no ring (SCOPE, Req 05)
unfoldable pub none_line : List ℕ
none_line = line "NONE" []

-- "BOARD: width, tracks, blank"
unfoldable pub board_line : ℕ → ℕ → ℕ → List ℕ
board_line width tracks blank = line "BOARD" (width ∷ tracks ∷ blank ∷ [])

-- "BOUND: density, chain"
unfoldable pub bound_line : ℕ → ℕ → List ℕ
bound_line density chain = line "BOUND" (density ∷ chain ∷ [])

-- "NET: number, first, last (a straight net's column twice), track"
unfoldable pub net_line : NetRecord → List ℕ
net_line r = line "NET" (r.number.0 ∷ r.first.0 ∷ r.last.0 ∷ r.track.0 ∷ [])

-- "END: pieces"
unfoldable pub end_line : ℕ → List ℕ
end_line pieces = line "END" (pieces ∷ [])
