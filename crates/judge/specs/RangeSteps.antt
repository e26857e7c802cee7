-- What the range of an element is, by the tests of its place.
use Prim.Native.Nat.{ℕ, suc, ◌+◌, ◌-◌, ◌*◌, ◌≤◌, ◌<◌}
use native.Mathlib.Omega.{arith}
use Rattle.std.proofs.Math.Numerals.{add-one}
use Rattle.std.specs.Prelude.{◌≡◌, List, Bool, true, false, cond, get_or, ltb, eqb}
use Rattle.std.proofs.Math.ListN.{length}
use Rattle.std.proofs.Math.Dec.{ltb→lt}
use Rattle.std.proofs.Common.{lt→ltb}
use Rattle.lists.specs.Tests.{T→true, fails→false}
use Rattle.lists.specs.Ends.{at_suc}
use Rattle.grid.specs.Pieces.{trunk_kind, branch_kind}
use Rattle.channel.specs.Channel.{rows}
use Rattle.wiring.specs.Pins.{column_of, row_of, net_of, pin_at}
use Rattle.wiring.specs.Layouts.{pin, copper}
use Rattle.boardfile.specs.Open.{fields_of, word_at, piece_of}
use Rattle.judge.specs.Code.{cover_of, box_of}
use Rattle.judge.specs.BoxLaws.{picked_box, box-picked}
use Rattle.judge.specs.PinPlaces.{pin_at-top, pin_at-bot}
use Rattle.judge.specs.Ranges.{pin_range, cover_column, cover_track, element_at, in_column, on_track}

module _ (tops bots board : List ℕ) (i : ℕ) where
  -- an element below the pins' number is a pin place, and another a piece
  below-pins : i < length tops + length tops
      → element_at (rows tops bots) board i ≡ pin (pin_at (rows tops bots) (suc i))
  unfolding element_at
  below-pins h = let pins = length tops + length tops in rw (T→true (ltb i pins) (lt→ltb i pins h))

  past-pins : length tops + length tops ≤ i
      → element_at (rows tops bots) board i ≡ copper (piece_of (word_at board (4 + 4 * (i - (length tops + length tops)))))
  unfolding element_at
  past-pins h =
      let pins = length tops + length tops in
      rw (fails→false (ltb i pins) (λ t. let k = ltb→lt i pins t in omega arith))

  -- a pin place of either row stands in its column
  pub top-column : (t : ℕ) → i < length tops
      → in_column (rows tops bots) t (element_at (rows tops bots) board i) ≡ pin_range (get_or tops i 0) (i + 1) (t + 1)
  unfolding in_column pin_range column_of row_of net_of
  top-column t h = rw (below-pins (omega arith), pin_at-top (rows tops bots) (suc i), at_suc, add-one i)

  pub bot-column : (t : ℕ) → length tops ≤ i → i < length tops + length tops
      → in_column (rows tops bots) t (element_at (rows tops bots) board i)
      ≡ pin_range (get_or bots (i - length tops) 0) (i - length tops + 1) 0
  unfolding in_column pin_range column_of row_of net_of
  bot-column t h k =
      let w = length tops in
      let place : suc i ≡ w + suc (i - w) = omega arith in
      rw (below-pins k, place, pin_at-bot (rows tops bots) (suc (i - w)) (omega arith), at_suc, add-one (i - w))

  -- a piece covers in its column what its box does
  pub piece-column : (t : ℕ) → length tops + length tops ≤ i
      → in_column (rows tops bots) t (element_at (rows tops bots) board i)
      ≡ cover_column (box_of (word_at board (4 + 4 * (i - (length tops + length tops)))))
  unfolding in_column cover_column cover_of box_of
  piece-column t h = rw past-pins

  -- on a track no pin place lies, and a piece covers what its box does
  pub pin-track : i < length tops + length tops
      → on_track (element_at (rows tops bots) board i) ≡ record { line = 0; start = 0; past = 1 }
  unfolding on_track
  pin-track h = rw below-pins

  pub piece-track : length tops + length tops ≤ i
      → on_track (element_at (rows tops bots) board i)
      ≡ cover_track (box_of (word_at board (4 + 4 * (i - (length tops + length tops)))))
  unfolding on_track cover_track cover_of box_of
  piece-track h = rw past-pins

-- the box of a word is small: its fields are those of the word, of ten bits each
pub box-small : (v : ℕ) → ((box_of v).high.0 < 1024) × ((box_of v).right.0 < 1024)
unfolding picked_box fields_of
box-small v =
    rw (box-picked v) (go (eqb (fields_of v).kind trunk_kind) (eqb (fields_of v).kind branch_kind))
  where
    go : (trunk branch : Bool)
        → (cond trunk (fields_of v).line (cond branch (fields_of v).to (fields_of v).from) < 1024)
        × (cond trunk (fields_of v).to (fields_of v).line < 1024)
    go true b = (omega arith, omega arith)
    go false true = (omega arith, omega arith)
    go false false = (omega arith, omega arith)
