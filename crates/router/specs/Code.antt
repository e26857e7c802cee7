-- What `route` and `route_rows` answer and leave: the equations of Route, and the promises of Contract.
use Rattle.std.specs.Prelude.{ℕ, ◌≤◌, ◌≡◌, List, [], length, take}
use Rattle.std.proofs.Math.Option.{Option, none, some}
use Rattle.refusal.specs.declared.Refusal.{Refusal}
use Rattle.refusal.specs.Trays.{Tray, record_tray, ring_tray, board_tray}
use Rattle.channel.specs.Channel.{Channel}
use Rattle.channel.specs.Answers.{Escapes}
use Rattle.leftedge.specs.declared.NetRecord.{NetRecord}
use Rattle.leftedge.specs.Nets.{fill}
use Rattle.router.specs.declared.Routing.{Routing}
use Rattle.router.specs.declared.Routed.{Routed}
use Rattle.router.specs.Route.{
  records_made,
  route_trays,
  route_trays_with_records,
  route_refusal,
  route_answer,
  records_after,
  board_after,
  ring_after,
  looks_answered,
}
use Rattle.router.specs.Contract.{RoutePromise, TurnedOver, ParkedBare, LooksPromise}
use Rattle.router.specs.Tables.{no_records}

-- the records answered by value: none under a refusal
unfoldable pub records_unless : Option Refusal → List NetRecord → List NetRecord
records_unless none made = made
records_unless (some r) made = []

module _ (ch : Channel) (table : List NetRecord) (ring board : List ℕ) where
  abbrev trays : List Tray
  trays = route_trays_with_records (length table) (length ring) (length board)

  -- What `route` answers, and what the caller's table and buffers then hold. Rules out: rows answered for, with the
  -- board untouched (board_held); a record with first and last exchanged, or a table written under a refusal
  -- (table_held); and with the promises the wrong programs of RoutePromise, ParkedBare and LooksPromise.
  pub record RouteDone (r : Routed) (table' : List NetRecord) (ring' board' : List ℕ) : Type 0 where
    pub answer : r.answer ≡ route_answer trays ch
    pub counted : r.count ≡ length (records_unless (route_refusal trays ch) (records_made ch (fill ch)))
    pub looks : r.looks ≡ looks_answered trays ch
    pub table_held : table' ≡ records_after trays ch table
    pub ring_held : ring' ≡ ring_after trays ch ring
    pub board_held : board' ≡ board_after trays ch board
    -- demand 3 whole, for every channel that escapes refusals 1 to 5
    pub promise : record_tray ≤ length table → ring_tray ≤ length ring → board_tray ≤ length board → Escapes ch
        → RoutePromise ch r.answer ring' board'
    -- and Req 02
    pub turned : record_tray ≤ length table → ring_tray ≤ length ring → board_tray ≤ length board → Escapes ch
        → TurnedOver ch r.answer board'
    -- and Req 04
    pub parked : record_tray ≤ length table → ring_tray ≤ length ring → board_tray ≤ length board → Escapes ch
        → ParkedBare ch r.answer (take r.count table') board'
    -- and Req 07
    pub looked : record_tray ≤ length table → ring_tray ≤ length ring → board_tray ≤ length board → Escapes ch
        → LooksPromise ch r.looks

module _ (ch : Channel) (ring board : List ℕ) where
  abbrev buffers : List Tray
  buffers = route_trays (length ring) (length board)

  -- What `route_rows` answers, the records by value, and what the caller's buffers then hold. Rules out: records of
  -- other nets or tracks, and any but nobody's past the count (table); a ring written for a channel that is not
  -- tangled (ring_held).
  pub record RowsDone (r : Routing) (ring' board' : List ℕ) : Type 0 where
    pub answer : r.answer ≡ route_answer buffers ch
    pub counted : r.count ≡ length (records_unless (route_refusal buffers ch) (records_made ch (fill ch)))
    pub looks : r.looks ≡ looks_answered buffers ch
    pub table : r.records ≡ records_after buffers ch no_records
    pub ring_held : ring' ≡ ring_after buffers ch ring
    pub board_held : board' ≡ board_after buffers ch board
    -- demand 3 whole, for every channel that escapes refusals 1 to 5
    pub promise : ring_tray ≤ length ring → board_tray ≤ length board → Escapes ch
        → RoutePromise ch r.answer ring' board'
    -- and Req 02
    pub turned : ring_tray ≤ length ring → board_tray ≤ length board → Escapes ch → TurnedOver ch r.answer board'
    -- and Req 04
    pub parked : ring_tray ≤ length ring → board_tray ≤ length board → Escapes ch
        → ParkedBare ch r.answer (take r.count r.records) board'
    -- and Req 07
    pub looked : ring_tray ≤ length ring → board_tray ≤ length board → Escapes ch → LooksPromise ch r.looks
