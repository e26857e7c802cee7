-- SCOPE, refusals 1, 3 to 5 and 7 of the router, and Req 07: its answer, the looks of its fill, and what each lent
-- buffer then holds.
use Rattle.router.specs.declared.Drawn.{Drawn}
use Rattle.std.specs.Prelude.{Result}
use Rattle.std.specs.Prelude.{ℕ, List, [], ◌∷◌, cond, length, eqb}
use Rattle.std.proofs.Math.Option.{Option, none, some}
use Rattle.lists.specs.Lists.{overlay}
use Rattle.refusal.specs.declared.Refusal.{Refusal}
use Rattle.refusal.specs.declared.Refusal.TheVariants.{Tangled}
use Rattle.refusal.specs.Refusals.{Told, number_of, ◌or_else◌, ok_unless, told, filled_unless}
use Rattle.refusal.specs.Trays.{Tray, ring_tray, board_tray, record_tray, short_tray}
use Rattle.grid.specs.Pieces.{Layout}
use Rattle.channel.specs.Channel.{Channel, width}
use Rattle.channel.specs.Constraints.{Step}
use Rattle.channel.specs.Answers.{rows_refusal}
use Rattle.leftedge.specs.declared.NetRecord.{NetRecord}
use Rattle.leftedge.specs.Fill.{Filling, filled, stuck}
use Rattle.leftedge.specs.Walk.{ring_of, ring_numbers}
use Rattle.leftedge.specs.Nets.{net_items, fill, looks, records}
use Rattle.boardfile.specs.Encode.{encode}
use Rattle.drawing.specs.Draw.{draw}

-- the ring that a fill shows: none where it is filled
unfoldable pub ring_shown : Channel → Filling → List Step
ring_shown ch (filled t ps) = []
ring_shown ch (stuck left) = ring_of (net_items ch) left

-- 7: "ring exists; number of pairs"
unfoldable pub tangled : Channel → Filling → Option Refusal
tangled ch (filled t ps) = none
tangled ch (stuck left) = some (Tangled (length (ring_shown ch (stuck left))))

-- the layout drawn for a filled channel
unfoldable pub layout_drawn : Channel → Filling → Layout
layout_drawn ch (filled t ps) = draw ch t ps
layout_drawn ch (stuck left) = record { tracks = 0; pieces = [] }

unfoldable pub records_made : Channel → Filling → List NetRecord
records_made ch (filled t ps) = records ch ps
records_made ch (stuck left) = []

-- the buffers that the router writes, in the order of refusal 1, with the lengths lent
abbrev pub route_trays : ℕ → ℕ → List Tray
route_trays ring board = record { lent = ring; needed = ring_tray } ∷ record { lent = board; needed = board_tray } ∷ []

abbrev pub route_trays_with_records : ℕ → ℕ → ℕ → List Tray
route_trays_with_records table ring board = record { lent = table; needed = record_tray } ∷ route_trays ring board

-- 1, 3 to 5 and 7, in rising number
unfoldable pub route_refusal : List Tray → Channel → Option Refusal
route_refusal trays ch = short_tray trays or_else rows_refusal ch or_else tangled ch (fill ch)

abbrev pub drawn_board : ℕ → ℕ → Drawn
drawn_board tracks pieces = record { tracks = tracks; pieces = pieces }

unfoldable pub route_answer : List Tray → Channel → Result Drawn Refusal
route_answer trays ch =
    let l = layout_drawn ch (fill ch) in
    ok_unless (route_refusal trays ch) (drawn_board l.tracks (length l.pieces))

-- the lent table and board after routing
unfoldable pub records_after : List Tray → Channel → List NetRecord → List NetRecord
records_after trays ch table = filled_unless (route_refusal trays ch) (records_made ch (fill ch)) table

unfoldable pub board_after : List Tray → Channel → List ℕ → List ℕ
board_after trays ch board = filled_unless (route_refusal trays ch) (encode (width ch) (layout_drawn ch (fill ch))) board

-- "the whole ring buffer, which the router writes only under 7"
unfoldable pub filled_under7 : Option Refusal → List ℕ → List ℕ → List ℕ
filled_under7 none pairs ring = ring
filled_under7 (some r) pairs ring = cond (eqb (number_of r) 7) (overlay pairs ring) ring

unfoldable pub ring_after : List Tray → Channel → List ℕ → List ℕ
ring_after trays ch ring = filled_under7 (route_refusal trays ch) (ring_numbers (ring_shown ch (fill ch))) ring

-- SCOPE, Req 07: the fill "returns the count with either outcome", a board or 7; under another refusal it is not begun
unfoldable pub looks_unless : Option Refusal → ℕ → ℕ
looks_unless none n = n
looks_unless (some r) n = cond (eqb (number_of r) 7) n 0

unfoldable pub looks_answered : List Tray → Channel → ℕ
looks_answered trays ch = looks_unless (route_refusal trays ch) (looks ch)

-- the pieces, then the tracks
abbrev pub route_told : Result Drawn Refusal → Told
route_told = told (λ d. d.pieces ∷ d.tracks ∷ [])
