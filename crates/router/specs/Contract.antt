-- What the router promises of what the caller then holds: the equations of Route, demand 3 whole, and Reqs 02, 04 and
-- 07.
use Rattle.router.specs.declared.Drawn.{Drawn}
use Rattle.router.specs.Route.{drawn_board}
use Rattle.refusal.specs.declared.Refusal.{Refusal}
use Rattle.std.specs.Prelude.{Result, Ok, Err}
use Rattle.std.specs.Prelude.{ℕ, ◌+◌, ◌*◌, ◌≤◌, ◌≡◌, List, ◌↔◌, length, take}
use Rattle.std.proofs.Math.Option.{none}
use Rattle.refusal.specs.declared.Refusal.TheVariants as refusal
use Rattle.grid.specs.Pieces.{Layout}
use Rattle.grid.specs.Flipped.{flipped}
use Rattle.channel.specs.Channel.{Channel, width, without_parked, nets, spanning}
use Rattle.channel.specs.Density.{density}
use Rattle.channel.specs.Constraints.{chain, Step, Ring, Tangled, Unconstrained}
use Rattle.channel.specs.Turned.{turned}
use Rattle.wiring.specs.Layouts.{Good, OneTrunkEach}
use Rattle.leftedge.specs.Walk.{ring_numbers}
use Rattle.leftedge.specs.Looks.{ceiling}
use Rattle.leftedge.specs.Nets.{fill, looks}
use Rattle.boardfile.specs.Open.{open_refusal, file_width, file_tracks, file_count, file_layout}
use Rattle.leftedge.specs.declared.NetRecord.{NetRecord}
use Rattle.channel.specs.Parked.{ParkedBeside}
use Rattle.promises.specs.Router.{NoLayout, Fewest, Bare, NoneParked}
use Rattle.promises.specs.Bounds.{OneTrunkFloor, larger_bound}
use Rattle.router.specs.Route.{layout_drawn, route_told}

-- the front of the ring buffer is a ring of k different nets, each above the next in its named column, and the last
-- above the first
pub record ShowsRing (ch : Channel) (k : ℕ) (ring : List ℕ) : Type 0 where
  pub steps : List Step
  pub counted : length steps ≡ k
  pub is_ring : Ring ch steps
  pub stored : take (2 * k) ring ≡ ring_numbers steps

-- the board file of n pieces at the front of the board: it opens, has the channel's width and t tracks, holds just the
-- pieces drawn, and these are a good layout with at most one trunk piece per net
pub record HoldsLayout (ch : Channel) (t n : ℕ) (file : List ℕ) : Type 0 where
  pub opens : open_refusal file ≡ none
  pub same_width : file_width file ≡ width ch
  pub same_tracks : file_tracks file ≡ t
  pub same_count : file_count file ≡ n
  pub drawn : file_layout file ≡ layout_drawn ch (fill ch)
  pub good : Good ch (file_layout file)
  pub one_trunk_each : OneTrunkEach ch (file_layout file)

-- Demand 3, and the floor of Req 02, of the answer r and of the ring and board that the caller then holds. Rules out:
-- a router that calls each channel tangled, or does so before filling (tangled-exactly); one that hands out the same or
-- an empty board (laid_out); tracks answered one too many (laid_out, fewest).
pub record RoutePromise (ch : Channel) (r : Result Drawn Refusal) (ring board : List ℕ) : Type 0 where
  -- "refuses .. as tangled exactly when no good layout of it with at most one trunk piece per net exists"
  pub tangled-exactly : ((route_told r).number ≡ 7) ↔ NoLayout ch
  -- and exactly when a ring exists
  pub ring-exactly : ((route_told r).number ≡ 7) ↔ Tangled ch
  -- "That refusal shows a ring of different nets"
  pub ring-shown : (k : ℕ) → r ≡ Err (refusal.Tangled k) → ShowsRing ch k ring
  -- "Every other such channel gets a good layout with at most one trunk piece per net"
  pub every-other : ((route_told r).number ≡ 7 → ⊥) → (t n : ℕ) × (r ≡ Ok (drawn_board t n))
  pub laid_out : (t n : ℕ) → r ≡ Ok (drawn_board t n) → HoldsLayout ch t n (take (4 + 4 * n) board)
  -- "Where no column holds pins of two different nets, the tracks .. equal the density, and every other good layout ..
  -- has at least as many"
  pub fewest : Unconstrained ch → (t n : ℕ) → r ≡ Ok (drawn_board t n) → (t ≡ density ch) × Fewest ch t
  -- SCOPE, "Filling tracks": "Density and chain are each at most t, and t is at most the number of nets"
  pub floors : (t n : ℕ) → r ≡ Ok (drawn_board t n) → (density ch ≤ t) × (chain ch ≤ t) × (t ≤ length (nets ch))
  -- Req 02: "every good layout with at most one trunk piece per net has at least chain tracks, so the larger bound
  -- is a floor for such layouts". The board is one; where it has no more tracks than that, no such layout has fewer
  pub one-trunk-floor : (t n : ℕ) → r ≡ Ok (drawn_board t n) → (larger_bound ch ≤ t) × OneTrunkFloor ch (larger_bound ch)

-- the layout of the board file of n pieces at the front of the board, turned over
abbrev pub turned_board : ℕ → List ℕ → Layout
turned_board n board = flipped (file_layout (take (4 + 4 * n) board))

-- Req 02, of the answer r and of the board that the caller then holds. It follows from demand 3 and rules out no
-- further program; it says of the turned list what a fitter asks.
pub record TurnedOver (ch : Channel) (r : Result Drawn Refusal) (board : List ℕ) : Type 0 where
  -- "a turned channel is tangled exactly when the first is"
  pub tangled-exactly : ((route_told r).number ≡ 7) ↔ Tangled (turned ch)
  -- the same copper turned over is a good layout of the turned list, with at most one trunk piece per net
  pub good : (t n : ℕ) → r ≡ Ok (drawn_board t n) → Good (turned ch) (turned_board n board)
  pub one_trunk_each : (t n : ℕ) → r ≡ Ok (drawn_board t n) → OneTrunkEach (turned ch) (turned_board n board)

-- Req 04, of the answer r and of the records made and the board that the caller then holds. Rules out: a parked
-- net that gets a record (no_record); one that still blocks a column, for which a channel is called tangled
-- (tangled-exactly) or tracks are wasted (fewest); copper that ends at a parked pin (no-copper).
pub record ParkedBare (ch : Channel) (r : Result Drawn Refusal) (made : List NetRecord) (board : List ℕ) : Type 0 where
  -- "the router gives it no record"
  pub no_record : NoneParked ch made
  -- "no copper"
  pub no-copper : (t n : ℕ) → r ≡ Ok (drawn_board t n) → Bare ch (file_layout (take (4 + 4 * n) board))
  -- "Tangled channels are those that stay so with the parked pins removed"
  pub tangled-exactly : ((route_told r).number ≡ 7) ↔ Tangled (without_parked ch)
  -- "Where the owner's promise looks for a column with pins of two different nets, parked pins are not counted"
  pub fewest : ParkedBeside ch → (t n : ℕ) → r ≡ Ok (drawn_board t n) → (t ≡ density ch) × Fewest ch t

-- Req 07, of the number of looks that the caller is answered, with a board or under 7. Rules out: the last scan
-- not counted where it stays empty; a net counted only where it is placed; looks of a tangled channel answered as 0.
pub record LooksPromise (ch : Channel) (looked : ℕ) : Type 0 where
  -- "That number equals the sum over scans of the nets unplaced when the scan began."
  pub sum : looked ≡ looks ch
  -- "For n nets with spans it is at most n times (n + 1), halved."
  pub at_most : looked ≤ ceiling (length (spanning ch))
