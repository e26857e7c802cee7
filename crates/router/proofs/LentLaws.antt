-- From the routing by value to the table that the caller lends, and back to a table by value: the chain of refusals
-- with the table's in front.
use Rattle.std.specs.Prelude.{ℕ, ◌≤◌, ◌<◌, ◌≡◌, refl, List, length, take, ltb}
use Rattle.std.proofs.Common.{arith, sym, ◌∙◌, ap, subst, lt→ltb}
use Rattle.std.proofs.Math.Decide.{dec_le}
use Rattle.std.proofs.Math.Option.{Option, none, some}
use Rattle.std.proofs.lemmas.List.{length-map, length-replicate}
use Rattle.std.proofs.Math.Dec.{ltb→lt}
use Rattle.lists.specs.Lists.{keep, overlay}
use Rattle.lists.specs.Tests.{T→true, fails→false}
use Rattle.lists.specs.Overlays.{overlay-front}
use Rattle.refusal.specs.declared.Refusal.{Refusal}
use Rattle.refusal.specs.declared.Refusal.TheVariants as refusal
use Rattle.refusal.specs.Refusals.{refuse_at_first, ◌or_else◌, filled_unless}
use Rattle.refusal.specs.ChainLaws.{some-or-else}
use Rattle.refusal.specs.Trays.{Tray, record_tray, ring_tray, board_tray, short_tray}
use Rattle.channel.specs.Channel.{Channel, nets}
use Rattle.channel.specs.Answers.{Escapes, rows_refusal}
use Rattle.channel.specs.CountLaws.{nets-few}
use Rattle.leftedge.specs.declared.NetRecord.{NetRecord}
use Rattle.leftedge.specs.Fill.{Filling, filled, stuck}
use Rattle.leftedge.specs.Nets.{fill, record_of, records}
use Rattle.router.specs.declared.Routing.{Routing}
use Rattle.router.specs.declared.Routed.{Routed}
use Rattle.router.specs.Route.{
  tangled,
  records_made,
  route_trays,
  route_trays_with_records,
  route_refusal,
  route_answer,
  records_after,
  board_after,
  ring_after,
  looks_answered,
}
use Rattle.router.specs.Contract.{RoutePromise, TurnedOver, ParkedBare, LooksPromise}
use Rattle.router.proofs.ContractLaws.{route-promise, route-turned, route-parked, route-looks}
use Rattle.router.specs.Tables.{nobody, no_records}
use Rattle.router.specs.Code.{records_unless, RouteDone, RowsDone}
use Rattle.router.specs.Held.{HeldBy, Held}
use Rattle.router.proofs.HeldLaws.{room}

module _ (ch : Channel) (table ring board : ℕ) where
  abbrev longer : List Tray
  longer = route_trays_with_records table ring board

  -- a table that is too short is refused first
  pub short-table : table < record_tray → route_refusal longer ch ≡ some (refusal.ShortTray record_tray)
  unfolding route_refusal short_tray keep refuse_at_first
  short-table h =
      some-or-else (short_tray longer) (rows_refusal ch or_else tangled ch (fill ch)) (refusal.ShortTray record_tray)
      (rw (T→true (ltb table record_tray) (lt→ltb table record_tray h)))

  -- one that is long enough changes nothing in the chain
  module _ (h : record_tray ≤ table) where
    pub same-trays : short_tray longer ≡ short_tray (route_trays ring board)
    unfolding short_tray keep
    same-trays = rw (fails→false (ltb table record_tray) (λ t. let k = ltb→lt table record_tray t in omega arith))

    pub same-refusal : route_refusal longer ch ≡ route_refusal (route_trays ring board) ch
    unfolding route_refusal
    same-refusal = rw same-trays

-- the same, of what is answered and left
module _ (ch : Channel) (table : ℕ) (ring board : List ℕ) (h : record_tray ≤ table) where
  abbrev chain : List Tray
  chain = route_trays_with_records table (length ring) (length board)

  abbrev shorter : List Tray
  shorter = route_trays (length ring) (length board)

  same : route_refusal chain ch ≡ route_refusal shorter ch
  same = same-refusal ch table (length ring) (length board) h

  pub same_answer : route_answer chain ch ≡ route_answer shorter ch
  unfolding route_answer
  same_answer = rw same

  pub same-ring : ring_after chain ch ring ≡ ring_after shorter ch ring
  unfolding ring_after
  same-ring = rw same

  pub same-board : board_after chain ch board ≡ board_after shorter ch board
  unfolding board_after
  same-board = rw same

  pub same_count_lem : length (records_unless (route_refusal chain ch) (records_made ch (fill ch)))
      ≡ length (records_unless (route_refusal shorter ch) (records_made ch (fill ch)))
  same_count_lem = rw same

  pub same-looks : looks_answered chain ch ≡ looks_answered shorter ch
  unfolding looks_answered
  same-looks = rw same

  pub same-table : records_after chain ch no_records ≡ records_after shorter ch no_records
  unfolding records_after
  same-table = rw same

  pub widened : {r : Routing} {ring' board' : List ℕ} → Held ch ring board r ring' board'
      → HeldBy chain ch ring board r ring' board'
  widened e =
      record {
        answer = e.answer ∙ sym same_answer;
        counted = e.counted ∙ sym same_count_lem;
        looks = e.looks ∙ sym same-looks;
        table = e.table ∙ sym same-table;
        ring_held = e.ring_held ∙ sym same-ring;
        board_held = e.board_held ∙ sym same-board;
      }

-- there are never more records than the table must hold
made-fits : (ch : Channel) (f : Filling) → length (records_made ch f) ≤ record_tray
unfolding records_made records
made-fits ch (filled t ps) = let e = length-map (nets ch) (record_of ch ps) in let m = nets-few ch in omega arith
made-fits ch (stuck left) = omega arith

-- where nothing is refused, the table is long enough
lent-enough : (ch : Channel) (table ring board : ℕ) → route_refusal (route_trays_with_records table ring board) ch ≡ none
    → record_tray ≤ table
lent-enough ch table ring board h =
    elim (dec_le record_tray table) [
      | yes k ↦ k
      | no k ↦
          absurd (let z = sym h ∙ short-table ch table ring board (omega arith) in let y : ◌≡◌ {A = ℕ} 0 1 = cc in
          omega arith)
    ]

-- what is stored is within the table made and the table lent
pub held_fits : {ch : Channel} {table : ℕ} {ring board : List ℕ} {r : Routing} {ring' board' : List ℕ}
    → HeldBy (route_trays_with_records table (length ring) (length board)) ch ring board r ring' board'
    → (r.count ≤ 511) × (r.count ≤ table)
unfolding records_unless
held_fits {ch} {table} {ring} {board} {r} e =
    go (route_refusal (route_trays_with_records table (length ring) (length board)) ch) refl
  where
    go : (q : Option Refusal) → route_refusal (route_trays_with_records table (length ring) (length board)) ch ≡ q
        → (r.count ≤ 511) × (r.count ≤ table)
    go none h =
        let n : r.count ≡ length (records_made ch (fill ch)) = e.counted
        ∙ ap (λ (x : Option Refusal). length (records_unless x (records_made ch (fill ch)))) h in
        let most = made-fits ch (fill ch) in
        let lent = lent-enough ch table (length ring) (length board) h in
        (omega arith, omega arith)
    go (some q) h =
        let n : r.count ≡ 0 = e.counted ∙ ap (λ (x : Option Refusal). length
        (records_unless x (records_made ch (fill ch)))) h in (omega arith, omega arith)

-- the records laid over the front of the table are those of the definition
stored : (q : Option Refusal) (made table : List NetRecord)
    → overlay (records_unless q made) table ≡ filled_unless q made table
unfolding records_unless filled_unless
stored none made table = refl
stored (some q) made table = refl

-- so a table's front, as far as is counted, is the records answered
front : (q : Option Refusal) (made lent : List NetRecord) {table : List NetRecord} {count : ℕ}
    → table ≡ filled_unless q made lent → count ≡ length (records_unless q made)
    → take count table ≡ records_unless q made
front q made lent e n = rw (e, n, ← stored q made lent) (overlay-front (records_unless q made) lent)

-- of the table answered by value: what stands there as far as is counted
pub rows-front : {ch : Channel} {ring board ring' board' : List ℕ} {r : Routing} → RowsDone ch ring board r ring' board'
    → take r.count r.records
    ≡ records_unless (route_refusal (route_trays (length ring) (length board)) ch) (records_made ch (fill ch))
unfolding records_after
rows-front d = front _ _ _ d.table d.counted

-- and of the lent table
pub route-front : {ch : Channel} {table table' : List NetRecord} {ring board ring' board' : List ℕ} {r : Routed}
    → RouteDone ch table ring board r table' ring' board'
    → take r.count table'
    ≡ records_unless (route_refusal (route_trays_with_records (length table) (length ring) (length board)) ch)
    (records_made ch (fill ch))
unfolding records_after
route-front d = front _ _ _ d.table_held d.counted

-- the table stored at the front of the lent one
pub lent-done : {ch : Channel} {table table' : List NetRecord} {ring board ring' board' : List ℕ}
    {r : Routing} {q : Routed}
    → HeldBy (route_trays_with_records (length table) (length ring) (length board)) ch ring board r ring' board'
    → table' ≡ overlay (take r.count r.records) table
    → (q.answer ≡ r.answer) × (q.count ≡ r.count) × (q.looks ≡ r.looks)
    → RouteDone ch table ring board q table' ring' board'
unfolding records_after
lent-done {ch} {table} {table'} {ring} {board} {ring'} {board'} {r} {q} e t a =
    record {
      answer = a.0 ∙ e.answer;
      counted = a.1 ∙ e.counted;
      looks = a.2 ∙ e.looks;
      table_held = t ∙ rw (front _ _ _ e.table e.counted) (stored _ _ table);
      ring_held = e.ring_held;
      board_held = e.board_held;
      promise = promise;
      turned = turned;
      parked = parked;
      looked = looked;
    }
  where
    trays : List Tray
    trays = route_trays_with_records (length table) (length ring) (length board)

    turned : record_tray ≤ length table → ring_tray ≤ length ring → board_tray ≤ length board → Escapes ch
        → TurnedOver ch q.answer board'
    turned ht hr hb esc =
        let same = same-trays ch (length table) (length ring) (length board) ht in
        let fits = same ∙ room (length ring) (length board) hr hb in
        rw (a.0, e.answer, e.board_held) (route-turned trays ch fits esc board)

    parked : record_tray ≤ length table → ring_tray ≤ length ring → board_tray ≤ length board → Escapes ch
        → ParkedBare ch q.answer (take q.count table') board'
    parked ht hr hb esc =
        let same = same-trays ch (length table) (length ring) (length board) ht in
        let fits = same ∙ room (length ring) (length board) hr hb in
        let made = front _ _ table (t ∙ rw (front _ _ _ e.table e.counted) (stored _ _ table))
        (a.1 ∙ e.counted) in
        rw (a.0, e.answer, e.board_held) (route-parked trays ch fits esc made board)

    looked : record_tray ≤ length table → ring_tray ≤ length ring → board_tray ≤ length board → Escapes ch
        → LooksPromise ch q.looks
    looked ht hr hb esc =
        let same = same-trays ch (length table) (length ring) (length board) ht in
        let fits = same ∙ room (length ring) (length board) hr hb in
        route-looks trays ch fits esc (a.2 ∙ e.looks)

    promise : record_tray ≤ length table → ring_tray ≤ length ring → board_tray ≤ length board → Escapes ch
        → RoutePromise ch q.answer ring' board'
    promise ht hr hb esc =
        let same = same-trays ch (length table) (length ring) (length board) ht in
        let fits = same ∙ room (length ring) (length board) hr hb in
        rw (a.0, e.answer, e.ring_held, e.board_held) (route-promise trays ch fits esc ring board)

-- a table of its own, lent and then answered by value
pub rows-done : {ch : Channel} {table table' : List NetRecord} {ring board ring' board' : List ℕ}
    {q : Routed} {r : Routing}
    → table ≡ no_records → RouteDone ch table ring board q table' ring' board'
    → (r.answer ≡ q.answer) × (r.records ≡ table') × (r.count ≡ q.count) × (r.looks ≡ q.looks)
    → RowsDone ch ring board r ring' board'
unfolding no_records
rows-done {ch} {table} {table'} {ring} {board} {ring'} {board'} {q} {r} blank given a =
    record {
      answer = a.0 ∙ (d.answer ∙ same_answer ch size ring board fits);
      counted = a.2 ∙ (d.counted ∙ same_count_lem ch size ring board fits);
      looks = a.3 ∙ (d.looks ∙ same-looks ch size ring board fits);
      table = a.1 ∙ (d.table_held ∙ same-table ch size ring board fits);
      ring_held = d.ring_held ∙ same-ring ch size ring board fits;
      board_held = d.board_held ∙ same-board ch size ring board fits;
      promise = λ hr hb esc. rw a.0 (d.promise fits hr hb esc);
      turned = λ hr hb esc. rw a.0 (d.turned fits hr hb esc);
      parked = λ hr hb esc. rw (a.0, a.1, a.2) (d.parked fits hr hb esc);
      looked = λ hr hb esc. rw a.3 (d.looked fits hr hb esc);
    }
  where
    d : RouteDone ch no_records ring board q table' ring' board'
    d = subst (λ (t : List NetRecord). RouteDone ch t ring board q table' ring' board') blank given

    size : ℕ
    size = length no_records

    fits : record_tray ≤ size
    fits = omega (arith, length-replicate record_tray nobody)
