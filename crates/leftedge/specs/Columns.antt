-- SCOPE, Req 06: the columns from which the fill works, in its own copy of 16-bit numbers.
use Rattle.std.specs.Prelude.{ℕ, ◌≡◌, get_or}
use mathlib.Core.List.{List, Memᴰ}
use Rattle.channel.specs.Channel.{Channel}
use Rattle.channel.specs.Spans.{firsts, lasts}
use Rattle.leftedge.specs.declared.NetRecord.{NetRecord}
use Rattle.leftedge.specs.Items.{Place}
use Rattle.leftedge.specs.Nets.{records}

-- the copy has at the number of a record its first and its last column
pub record CopiedFor (first last : List ℕ) (r : NetRecord) : Type 0 where
  pub begins : get_or first r.number.0 0 ≡ r.first.0
  pub ends : get_or last r.number.0 0 ≡ r.last.0

-- The copy, by net number: each entry is the column due, 0 where a number is no net's; and "that copy is shown equal to
-- the columns due in the net records", whatever tracks these have. Rules out: the last columns copied from the first
-- (ends); a copy that is off by one column (begins).
pub record ColumnsDue (ch : Channel) (first last : List ℕ) : Type 0 where
  pub begins : first ≡ firsts ch
  pub ends : last ≡ lasts ch
  pub recorded : (ps : List Place) (r : NetRecord) → Memᴰ r (records ch ps) → CopiedFor first last r
