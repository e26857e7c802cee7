-- What Req 09 promises of a joined list, as statements over the lists alone.
use Rattle.std.specs.Prelude.{ℕ, max, ◌+◌, ◌<◌, ◌≡◌, ◌↔◌, ◌⊎◌, T}
use mathlib.Core.List.{List, ◌++◌, map, Memᴰ}
use Rattle.grid.specs.Pieces.{column, net}
use Rattle.channel.specs.Channel.{Channel, width, positions, highest_net, is_net}
use Rattle.channel.specs.Density.{density}
use Rattle.channel.specs.Constraints.{chain, Tangled}
use Rattle.channel.specs.Answers.{Escapes}
use Rattle.leftedge.specs.declared.NetRecord.{NetRecord}
use Rattle.leftedge.specs.Items.{Place, track_of}
use Rattle.leftedge.specs.Fill.{filled}
use Rattle.leftedge.specs.Nets.{fill, records}
use Rattle.panel.specs.Joined.{highest, raised, joined, Fits}

-- a net record of the second list, as it stands on the panel: its number raised, its columns moved on, its track as it
-- is
unfoldable pub moved_record : Channel → NetRecord → NetRecord
moved_record ch r =
    record {
      number = net (raised (highest ch) r.number.0);
      first = column (width ch + r.first.0);
      last = column (width ch + r.last.0);
      track = r.track;
    }

-- "each net stands on the track it would have alone, and the panel needs the larger track count": of two lists and the
-- list jh that they make
pub record StandsAlone (ch dh jh : Channel) : Type 0 where
  pub tracks₁ : ℕ
  pub tracks₂ : ℕ
  pub places₁ : List Place
  pub places₂ : List Place
  pub places : List Place
  -- each list alone fills so many tracks, and both together as many as the larger
  pub first : fill ch ≡ filled tracks₁ places₁
  pub second : fill dh ≡ filled tracks₂ places₂
  pub larger : fill jh ≡ filled (max tracks₁ tracks₂) places
  -- each net of the first list, and each of the second under its raised number
  pub of-first : (n : ℕ) → T (is_net ch n) → track_of places n ≡ track_of places₁ n
  pub of-second : (n : ℕ) → T (is_net dh n) → track_of places (raised (highest ch) n) ≡ track_of places₂ n
  -- so the table of net records is that of the first list, and then that of the second, moved
  pub recorded : records jh places ≡ records ch places₁ ++ map (moved_record ch) (records dh places₂)

-- Of two lists that fit, and of the rows jh that they make. Rules out: numbers raised by the count of nets, so that two
-- nets get one number (escapes, tangled-exactly, recorded); 0 raised, so that every place gets a pin (rows).
pub record PanelPromise (ch dh jh : Channel) : Type 0 where
  pub rows : jh ≡ joined ch dh
  -- the joined list is refused by nothing that a list alone is refused by
  pub escapes : Escapes jh
  -- "The joined list is tangled exactly when either part is"
  pub tangled-exactly : Tangled jh ↔ (Tangled ch ⊎ Tangled dh)
  -- "otherwise each net stands on the track it would have alone"
  pub alone : (Tangled jh → ⊥) → StandsAlone ch dh jh
  -- and the bounds are the larger of both
  pub larger-density : density jh ≡ max (density ch) (density dh)
  pub larger-chain : (Tangled jh → ⊥) → chain jh ≡ max (chain ch) (chain dh)

-- a raised number of the second list that exceeds 511
pub record RaisedOver (ch dh : Channel) (n : ℕ) : Type 0 where
  pub number : ℕ
  pub stands : Memᴰ number (positions dh)
  pub is_raised : n ≡ raised (highest ch) number
  pub exceeds : highest_net < n

-- "Joining three lists that fit gives the same rows in either grouping"; of lists that do not fit it is so too, and one
-- grouping fits exactly if the other does. Rules out: numbers raised by those of the list before alone (same_rows).
pub record GroupPromise (ch dh eh : Channel) : Type 0 where
  pub same_rows : joined (joined ch dh) eh ≡ joined ch (joined dh eh)
  pub fits-exactly : (Fits ch dh × Fits (joined ch dh) eh) ↔ (Fits dh eh × Fits ch (joined dh eh))
