-- What the code of the fill and of the walk answers and leaves, over the definitions.
use Rattle.std.specs.Prelude.{ℕ, ◌≤◌, ◌≡◌, ◌↔◌, length, take, get_or, replicate}
use mathlib.Core.List.{List, Memᴰ}
use Rattle.lists.specs.Lists.{overlay}
use Rattle.channel.specs.Channel.{Channel, spanning}
use Rattle.channel.specs.Parked.{NetsOnly}
use Rattle.channel.specs.Spans.{each512, Spans, SpansFound}
use Rattle.leftedge.specs.declared.Outcome.{Outcome}
use Rattle.leftedge.specs.declared.Outcome.TheVariants.{Placed, Stuck}
use Rattle.leftedge.specs.declared.Filled.{Filled}
use Rattle.leftedge.specs.Items.{track_of}
use Rattle.leftedge.specs.Fill.{Filling, filled, stuck}
use Rattle.leftedge.specs.Walk.{ring_of, ring_numbers}
use Rattle.leftedge.specs.Nets.{fill_order, net_items, fill, looks}
use Rattle.leftedge.specs.Invariants.{StuckWith}
use Rattle.leftedge.specs.Columns.{ColumnsDue}

-- how a fill ends, in numbers: the tracks, or the pairs of the ring shown
unfoldable pub outcome_of : Channel → Filling → Outcome
outcome_of ch (filled t ps) = Placed t
outcome_of ch (stuck left) = Stuck (length (ring_of (net_items ch) left))

-- the ring buffer afterwards: its front holds the pairs where the fill is stuck, else it is as it was
unfoldable pub ring_held : Channel → Filling → List ℕ → List ℕ
ring_held ch (filled t ps) ring = ring
ring_held ch (stuck left) ring = overlay (ring_numbers (ring_of (net_items ch) left)) ring

-- the track of each net number, by its place, 0 where it has none; where the fill is stuck nobody has one
unfoldable pub tracks_by : Filling → List ℕ
tracks_by (filled t ps) = each512 (track_of ps)
tracks_by (stuck left) = replicate 512 0

-- What `fill_tracks` answers, and what the tables and the ring buffer then hold. Rules out: a fill that puts all nets on its first
-- track (tracks); first and last columns exchanged (spans); a ring begun at the highest unplaced net (held); the last
-- scan not counted where it stays empty (looks).
pub record FillDone (ch : Channel) (ring : List ℕ) (r : Filled) (s : Spans) (table ring' : List ℕ)
    : Type 0 where
  pub outcome : r.outcome ≡ outcome_of ch (fill ch)
  pub spans : SpansFound ch s
  pub tracks : table ≡ tracks_by (fill ch)
  pub looks : r.looks ≡ looks ch
  pub held : ring' ≡ ring_held ch (fill ch) ring

-- where the fill of a channel's nets begins: its own copy of the columns, which is shown equal to those due in the net
-- records (SCOPE, Req 06), and the nets in the order of the scan
pub record NetsBegin (ch : Channel) (first last left : List ℕ) (count : ℕ) (tracks : List ℕ) : Type 0 where
  pub only : NetsOnly ch
  pub columns : ColumnsDue ch first last
  pub order : take count left ≡ fill_order ch
  pub counted : count ≡ length (fill_order ch)
  pub fits : count ≤ length left
  pub bare : tracks ≡ replicate 512 0

-- what `show_ring` answers of the nets left, and what the ring buffer then holds
pub record RingShown (ch : Channel) (left ring : List ℕ) (r : ℕ) (ring' : List ℕ) : Type 0 where
  pub counted : r ≡ length (ring_of (net_items ch) left)
  pub shown : ring' ≡ overlay (ring_numbers (ring_of (net_items ch) left)) ring

-- the state in which the walk begins: `left` are the nets left by a fill that is stuck, and just these have no track
-- among the nets with spans
pub record WalkFrom (ch : Channel) (tracks left : List ℕ) : Type 0 where
  pub only : NetsOnly ch
  pub stuck-with : StuckWith (net_items ch) left
  pub unplaced : (n : ℕ) → Memᴰ n (spanning ch) → (get_or tracks n 0 ≡ 0) ↔ Memᴰ n left
