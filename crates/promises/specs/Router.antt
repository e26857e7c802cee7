-- Demand 3, Req 04, and demand 2's reading back, as statements: what is promised of the fill, its refusal as
-- tangled and the drawing, over every layout with any number of tracks and pieces.
use Rattle.std.specs.Prelude.{ℕ, ◌≤◌, ◌≡◌, ◌↔◌, length, T}
use mathlib.Core.List.{List, Memᴰ}
use Rattle.refusal.specs.Trays.{record_tray, ring_tray, board_tray}
use Rattle.grid.specs.declared.Piece.{Piece}
use Rattle.grid.specs.Pieces.{Layout}
use Rattle.channel.specs.Channel.{Channel, width, is_parked, without_parked, nets, spanning}
use Rattle.channel.specs.Density.{density}
use Rattle.channel.specs.Constraints.{Above, chain, Ring, Tangled, Unconstrained}
use Rattle.channel.specs.Answers.{Escapes}
use Rattle.channel.specs.Parked.{ParkedBeside}
use Rattle.wiring.specs.Pins.{Pin, net_of}
use Rattle.wiring.specs.Layouts.{pin, copper, Joined, Good, OneTrunkEach}
use Rattle.leftedge.specs.declared.NetRecord.{NetRecord}
use Rattle.leftedge.specs.Items.{Place}
use Rattle.leftedge.specs.Fill.{filled, stuck}
use Rattle.leftedge.specs.Walk.{ring_of, ring_numbers}
use Rattle.leftedge.specs.Nets.{net_items, fill, records}
use Rattle.boardfile.specs.Encode.{encode}
use Rattle.boardfile.specs.Promise.{ReadsBack}
use Rattle.drawing.specs.Draw.{draw}

-- the fill ends with a track that stays empty: "refused as tangled"
abbrev pub Refused : Channel → Type 0
Refused ch = (left : List ℕ) × (fill ch ≡ stuck left)

-- "no good layout of it with at most one trunk piece per net exists, whatever the number of tracks and pieces"
abbrev pub NoLayout : Channel → Type 0
NoLayout ch = (l : Layout) → Good ch l → OneTrunkEach ch l → ⊥

-- "every other good layout of that channel, split trunks included, has at least as many" tracks
abbrev pub Fewest : Channel → ℕ → Type 0
Fewest ch t = (l : Layout) → Good ch l → t ≤ l.tracks

-- SCOPE, Req 04: no piece of the layout is joined to a parked pin
abbrev pub Bare : Channel → Layout → Type 0
Bare ch l =
    (x : Pin) → T (is_parked ch (net_of ch x))
    → (p : Piece) → Memᴰ p l.pieces → Joined ch l (copper p) (pin x) → ⊥

-- SCOPE, Req 04: of no net record is the number parked
abbrev pub NoneParked : Channel → List NetRecord → Type 0
NoneParked ch made = (e : NetRecord) → Memᴰ e made → T (is_parked ch e.number.0) → ⊥

pub record ParkedPromise (ch : Channel) : Type 0 where
  -- "A net with just one pin is parked: the router gives it no record"
  pub no_record : (ps : List Place) → NoneParked ch (records ch ps)
  -- "no copper"
  pub no-copper : (t : ℕ) (ps : List Place) → fill ch ≡ filled t ps → Bare ch (draw ch t ps)
  -- "no part in spans or the above relation"
  pub no_span : (n : ℕ) → T (is_parked ch n) → Memᴰ n (spanning ch) → ⊥
  pub not-above : (n : ℕ) → T (is_parked ch n) → (m c : ℕ) → (Above ch n m c → ⊥) × (Above ch m n c → ⊥)
  -- "Tangled channels are those that stay so with the parked pins removed"
  pub stays-tangled : Tangled ch ↔ Tangled (without_parked ch)
  -- "Where the owner's promise looks for a column with pins of two different nets, parked pins are not counted"
  pub uncounted : Unconstrained ch ↔ ParkedBeside ch

pub record RouterPromise (ch : Channel) : Type 0 where
  pub refused-exactly : Refused ch ↔ NoLayout ch
  pub ring-exactly : Refused ch ↔ Tangled ch
  pub ring-shown : (left : List ℕ) → fill ch ≡ stuck left → Ring ch (ring_of (net_items ch) left)
  pub laid_out : (t : ℕ) (ps : List Place) → fill ch ≡ filled t ps
      → Good ch (draw ch t ps) × OneTrunkEach ch (draw ch t ps)
  pub fewest : Unconstrained ch → (t : ℕ) (ps : List Place) → fill ch ≡ filled t ps → (t ≡ density ch) × Fewest ch t
  pub floors : (t : ℕ) (ps : List Place) → fill ch ≡ filled t ps
      → (density ch ≤ t) × (chain ch ≤ t) × (t ≤ length (nets ch))
  pub read_back : (t : ℕ) (ps : List Place) → fill ch ≡ filled t ps
      → ReadsBack (width ch) (draw ch t ps) (encode (width ch) (draw ch t ps))

abbrev pub Req04 : Type 0
Req04 = (ch : Channel) → Escapes ch → ParkedPromise ch

abbrev pub Demand3 : Type 0
Demand3 = (ch : Channel) → Escapes ch → RouterPromise ch

-- what is stored fits the lengths that refusal 1 asks for
pub record TraysFit (ch : Channel) : Type 0 where
  pub records-fit : (ps : List Place) → length (records ch ps) ≤ record_tray
  pub ring-fits : (left : List ℕ) → fill ch ≡ stuck left → length (ring_numbers (ring_of (net_items ch) left)) ≤ ring_tray
  pub tracks-fit : (t : ℕ) (ps : List Place) → fill ch ≡ filled t ps → t ≤ 511
  pub pieces-fit : (t : ℕ) (ps : List Place) → fill ch ≡ filled t ps → length (draw ch t ps).pieces ≤ 2559
  pub board-fits : (t : ℕ) (ps : List Place) → fill ch ≡ filled t ps
      → length (encode (width ch) (draw ch t ps)) ≤ board_tray
