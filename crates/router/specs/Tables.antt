-- The table of net records as the code makes it: from arrays by net number, a record for each number with a first
-- column.
use Rattle.std.specs.Prelude.{ℕ, ◌≡◌, List, map, Bool, not, length, get_or, replicate, eqb}
use Rattle.lists.specs.Lists.{keep, up_to, overlay}
use Rattle.refusal.specs.Trays.{record_tray}
use Rattle.grid.specs.Pieces.{column, track, net}
use Rattle.channel.specs.Spans.{Spans}
use Rattle.channel.specs.Channel.{highest_net}
use Rattle.leftedge.specs.declared.NetRecord.{NetRecord}
use Rattle.drawing.specs.Code.{column_in}

-- what the arrays have of number n
unfoldable pub record_at : Spans → List ℕ → ℕ → NetRecord
record_at s tracks n =
    record {
      number = net n;
      first = column (get_or s.first n 0);
      last = column (get_or s.last n 0);
      track = track (get_or tracks n 0);
    }

-- number n has a first column
abbrev pub has_first : Spans → ℕ → Bool
has_first s n = not (eqb (column_in s.first n) 0)

-- the records of the numbers from 1 to k that have a first column
unfoldable pub records_to : Spans → List ℕ → ℕ → List NetRecord
records_to s tracks k = map (record_at s tracks) (keep (has_first s) (up_to k))

abbrev pub records_by : Spans → List ℕ → List NetRecord
records_by s tracks = records_to s tracks highest_net

-- a record of nobody, and the table of them that the router fills
abbrev pub nobody : NetRecord
nobody = record { number = net 0; first = column 0; last = column 0; track = track 0 }

unfoldable pub no_records : List NetRecord
no_records = replicate record_tray nobody

-- a table whose front holds the records made, and the remainder nobody's
pub record Listed (made table : List NetRecord) (count : ℕ) : Type 0 where
  pub counted : count ≡ length made
  pub laid : table ≡ overlay made no_records
