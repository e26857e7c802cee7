-- SCOPE, "Filling tracks" and "Spans and constraints": the nets of a channel as the items of the fill, and the table
-- of net records.
use Rattle.std.specs.Prelude.{ℕ, List, map, ltb}
use Rattle.lists.specs.Lists.{each, up_to}
use Rattle.grid.specs.Pieces.{column, track, net}
use Rattle.channel.specs.Channel.{Channel, width, nets, first_column, last_column}
use Rattle.channel.specs.Spans.{starting}
use Rattle.channel.specs.Constraints.{drops}
use Rattle.leftedge.specs.declared.NetRecord.{NetRecord}
use Rattle.leftedge.specs.Items.{Items, Place, track_of}
use Rattle.leftedge.specs.Fill.{Filling, fill_items}
use Rattle.leftedge.specs.Looks.{item_looks}

-- "Nets with spans are sorted by first column, then number"
unfoldable pub fill_order : Channel → List ℕ
fill_order ch = each (starting ch) (up_to (width ch))

unfoldable pub net_items : Channel → Items
net_items ch =
    record { order = fill_order ch; fits_after = λ m n. ltb (last_column ch m) (first_column ch n); drops = drops ch }

unfoldable pub fill : Channel → Filling
fill ch = fill_items (net_items ch)

-- SCOPE, Req 07: how many unplaced nets the fill examines, once per track scan
unfoldable pub looks : Channel → ℕ
looks ch = item_looks (net_items ch)

-- "a table of net records, one for each net: number, first, last, track (0 if straight), in rising number"
unfoldable pub record_of : Channel → List Place → ℕ → NetRecord
record_of ch ps n =
    record {
      number = net n;
      first = column (first_column ch n);
      last = column (last_column ch n);
      track = track (track_of ps n);
    }

unfoldable pub records : Channel → List Place → List NetRecord
records ch ps = map (record_of ch ps) (nets ch)
