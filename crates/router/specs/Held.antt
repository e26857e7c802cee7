-- What the router's inner functions answer: the equations of the routing by value, and a refusal.
use Rattle.std.specs.Prelude.{Err}
use Rattle.std.specs.Prelude.{ℕ, ◌≡◌, List, length}
use Rattle.refusal.specs.declared.Refusal.{Refusal}
use Rattle.refusal.specs.Trays.{Tray}
use Rattle.channel.specs.Channel.{Channel}
use Rattle.leftedge.specs.Nets.{fill}
use Rattle.router.specs.declared.Routing.{Routing}
use Rattle.router.specs.Route.{records_made, route_trays, route_refusal, route_answer, records_after, board_after, ring_after, looks_answered}
use Rattle.router.specs.Tables.{no_records}
use Rattle.router.specs.Code.{records_unless}

-- the equations alone, of the routing by value, where the buffers of `trays` are lent
pub record HeldBy (trays : List Tray) (ch : Channel) (ring board : List ℕ) (r : Routing)
    (ring' board' : List ℕ) : Type 0 where
  pub answer : r.answer ≡ route_answer trays ch
  pub counted : r.count ≡ length (records_unless (route_refusal trays ch) (records_made ch (fill ch)))
  pub looks : r.looks ≡ looks_answered trays ch
  pub table : r.records ≡ records_after trays ch no_records
  pub ring_held : ring' ≡ ring_after trays ch ring
  pub board_held : board' ≡ board_after trays ch board

abbrev pub Held : Channel → List ℕ → List ℕ → Routing → List ℕ → List ℕ → Type 0
Held ch ring board = HeldBy (route_trays (length ring) (length board)) ch ring board

-- a refusal is answered after so many looks, and a table of nobody's
pub record RefusedWith (q : Refusal) (looked : ℕ) (r : Routing) : Type 0 where
  pub answer : r.answer ≡ Err q
  pub counted : r.count ≡ 0
  pub looks : r.looks ≡ looked
  pub table : r.records ≡ no_records
