-- Where an element lies on a line of the grid: a pin, and what meets branches, on its column, with the rows that it
-- covers; what meets trunks on its track, with the columns. Line 0 is none.
use Rattle.std.specs.Prelude.{ℕ, suc, ◌+◌, ◌-◌, ◌*◌, List, Bool, cond, ltb}
use Rattle.classes.specs.declared.Range.{Range}
use Rattle.grid.specs.Pieces.{kind_of, trunk_kind, branch_kind, left, right, low, high}
use Rattle.grid.specs.Touching.{kinds_meet}
use Rattle.channel.specs.Channel.{Channel, width}
use Rattle.wiring.specs.Pins.{column_of, row_of, net_of, pin_at}
use Rattle.wiring.specs.Layouts.{Element, pin, copper}
use Rattle.boardfile.specs.Open.{word_at, piece_of}
use Rattle.judge.specs.declared.boxes.Cover.{Cover}

unfoldable pub in_column : Channel → ℕ → Element → Range
in_column ch t (pin x) =
    record { line = cond (ltb 0 (net_of ch x)) (column_of x) 0; start = row_of t x; past = row_of t x + 1 }
in_column ch t (copper p) =
    record { line = cond (kinds_meet (kind_of p) branch_kind) (left p) 0; start = low p; past = high p + 1 }

unfoldable pub on_track : Element → Range
on_track (pin x) = record { line = 0; start = 0; past = 1 }
on_track (copper p) =
    record { line = cond (kinds_meet (kind_of p) trunk_kind) (low p) 0; start = left p; past = right p + 1 }

-- the range of a pin place, by its net, column and row; and those of a box
unfoldable pub pin_range : ℕ → ℕ → ℕ → Range
pin_range net column row = record { line = cond (ltb 0 net) column 0; start = row; past = row + 1 }

unfoldable pub cover_column : Cover → Range
cover_column c =
    record { line = cond (kinds_meet c.kind branch_kind) c.left.0 0; start = c.low.0; past = c.high.0 + 1 }

unfoldable pub cover_track : Cover → Range
cover_track c =
    record { line = cond (kinds_meet c.kind trunk_kind) c.low.0 0; start = c.left.0; past = c.right.0 + 1 }

-- element i of a board, from 0: the pin places in order of position, then the pieces of the file
unfoldable pub element_at : Channel → List ℕ → ℕ → Element
element_at ch board i =
    let pins = width ch + width ch in
    cond (ltb i pins) (pin (pin_at ch (suc i))) (copper (piece_of (word_at board (4 + 4 * (i - pins)))))

-- its range on its column, or across, on its track
unfoldable pub range_on : Bool → Channel → ℕ → List ℕ → ℕ → Range
range_on across ch t board i =
    let x = element_at ch board i in
    cond across (on_track x) (in_column ch t x)
