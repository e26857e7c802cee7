-- The equations of the routing by value, in each of its cases.
use Rattle.router.specs.Route.{drawn_board}
use Rattle.std.specs.Prelude.{Ok}
use Rattle.std.specs.Prelude.{ℕ, ◌≤◌, ◌<◌, ◌≡◌, List, length, ltb, eqb}
use Rattle.std.proofs.Common.{arith, ◌∙◌, ⊎_elim, ltb→lt, lt→ltb, eqb→eq}
use Rattle.std.proofs.Math.Path.{sym, subst⁻¹}
use mathlib.Core.List.Memᴰ
use Rattle.std.proofs.Math.Option.{none, some}
use Rattle.lists.specs.Lists.{keep, overlay}
use Rattle.lists.specs.Tests.{T→true, fails→false}
use Rattle.refusal.specs.declared.Refusal.{Refusal}
use Rattle.refusal.specs.declared.Refusal.TheVariants as refusal
use Rattle.refusal.specs.Refusals.{number_of, refuse_at_first, ◌or_else◌, answered, filled_unless}
use Rattle.refusal.specs.ChainLaws.{some-or-else, none-or-else-later}
use Rattle.refusal.specs.Trays.{Tray, ring_tray, board_tray, short_tray}
use Rattle.refusal.specs.TrayLaws.{trays-fit}
use Rattle.channel.specs.Channel.{Channel, width}
use Rattle.channel.specs.Answers.{Escapes, rows_refusal}
use Rattle.leftedge.specs.Items.{Place}
use Rattle.leftedge.specs.Fill.{filled, stuck}
use Rattle.leftedge.specs.Walk.{ring_of, ring_numbers}
use Rattle.leftedge.specs.Nets.{net_items, fill, looks, records}
use Rattle.boardfile.specs.Encode.{encode}
use Rattle.drawing.specs.Draw.{draw}
use Rattle.router.specs.declared.Routing.{Routing}
use Rattle.router.specs.Route.{
  tangled,
  records_made,
  route_trays,
  route_refusal,
  route_answer,
  records_after,
  board_after,
  ring_after,
  filled_under7,
  looks_unless,
  looks_answered,
}
use Rattle.router.proofs.ContractLaws.{only-tangled, stuck-answer, filled-answer, stuck-ring, filled-board}
use Rattle.router.proofs.ContractLaws.{looks-begun}
use Rattle.router.specs.Tables.{Listed}
use Rattle.router.specs.Code.{records_unless}
use Rattle.router.specs.Held.{Held, HeldBy, RefusedWith}

-- both buffers are long enough
pub room : (ring board : ℕ) → ring_tray ≤ ring → board_tray ≤ board → short_tray (route_trays ring board) ≡ none
room ring board hr hb =
    (trays-fit (route_trays ring board)).1 (λ b m.
    ⊎_elim (λ e. subst⁻¹ (λ (t : Tray). t.needed ≤ t.lent) e hr)
    (λ k. ⊎_elim (λ e. subst⁻¹ (λ (t : Tray). t.needed ≤ t.lent) e hb) (λ z. absurd (Memᴰ.not-nil z))
    (Memᴰ.cases_cons k)) (Memᴰ.cases_cons m))

-- the first buffer that is too short is refused
short-first : (ring board : List ℕ) → length ring < ring_tray
    → short_tray (route_trays (length ring) (length board)) ≡ some (refusal.ShortTray ring_tray)
unfolding short_tray keep refuse_at_first
short-first ring board h = rw (T→true (ltb (length ring) ring_tray) (lt→ltb (length ring) ring_tray h))

short-second : (ring board : List ℕ) → ring_tray ≤ length ring → length board < board_tray
    → short_tray (route_trays (length ring) (length board)) ≡ some (refusal.ShortTray board_tray)
unfolding short_tray keep refuse_at_first
short-second ring board hr h =
    rw (
      fails→false (ltb (length ring) ring_tray) (λ t. let k = ltb→lt (length ring) ring_tray t in omega arith),
      T→true (ltb (length board) board_tray) (lt→ltb (length board) board_tray h),
    )

-- a refusal other than 7: nothing is written, no record is answered
pub refused-held : (trays : List Tray) (ch : Channel) (ring board : List ℕ) {r : Routing} {q : Refusal}
    → route_refusal trays ch ≡ some q → (number_of q ≡ 7 → ⊥) → RefusedWith q 0 r
    → HeldBy trays ch ring board r ring board
unfolding route_answer answered records_unless records_after ring_after filled_under7 board_after filled_unless looks_answered
    looks_unless
refused-held trays ch ring board {r} {q} e other a =
    let not7 = fails→false (eqb (number_of q) 7) (λ t. other (eqb→eq (number_of q) 7 t)) in
    record {
      answer = a.answer ∙ sym (rw (e, answered));
      counted = a.counted ∙ sym (rw (e, records_unless));
      looks = a.looks ∙ sym (rw (e, looks_unless, not7));
      table = a.table ∙ sym (rw (e, filled_unless));
      ring_held = sym (rw (e, filled_under7, not7));
      board_held = sym (rw (e, filled_unless));
    }

module _ (ch : Channel) (ring board : List ℕ) where
  abbrev trays : List Tray
  trays = route_trays (length ring) (length board)

  -- 1, of either buffer; and of rows that are refused
  pub short-ring : length ring < ring_tray → route_refusal trays ch ≡ some (refusal.ShortTray ring_tray)
  unfolding route_refusal
  short-ring h =
      some-or-else (short_tray trays) (rows_refusal ch or_else tangled ch (fill ch)) (refusal.ShortTray ring_tray)
      (short-first ring board h)

  pub short-board : ring_tray ≤ length ring → length board < board_tray
      → route_refusal trays ch ≡ some (refusal.ShortTray board_tray)
  unfolding route_refusal
  short-board hr h =
      some-or-else (short_tray trays) (rows_refusal ch or_else tangled ch (fill ch)) (refusal.ShortTray board_tray)
      (short-second ring board hr h)

  module _ (hr : ring_tray ≤ length ring) (hb : board_tray ≤ length board) where
    pub rows-refused : (q : Refusal) → rows_refusal ch ≡ some q → route_refusal trays ch ≡ some q
    unfolding route_refusal
    rows-refused q e =
        none-or-else-later (short_tray trays) (rows_refusal ch or_else tangled ch (fill ch))
        (room (length ring) (length board) hr hb) ∙ some-or-else (rows_refusal ch) (tangled ch (fill ch)) q e

    module _ (esc : Escapes ch) where
      fits : short_tray trays ≡ none
      fits = room (length ring) (length board) hr hb

      only : route_refusal trays ch ≡ tangled ch (fill ch)
      only = only-tangled trays ch fits esc

      -- stuck: the ring alone is written
      pub stuck-held : {r : Routing} (left : List ℕ) {ring' : List ℕ} → fill ch ≡ stuck left
          → RefusedWith (refusal.Tangled (length (ring_of (net_items ch) left))) (looks ch) r
          → ring' ≡ overlay (ring_numbers (ring_of (net_items ch) left)) ring → Held ch ring board r ring' board
      unfolding records_unless records_after board_after filled_unless tangled
      stuck-held left e a h =
          record {
            answer = a.answer ∙ sym (stuck-answer trays ch fits esc left e);
            counted = a.counted ∙ sym (rw (only, e, tangled, records_unless));
            looks = a.looks ∙ sym (looks-begun trays ch fits esc);
            table = a.table ∙ sym (rw (only, e, tangled, filled_unless));
            ring_held = h ∙ sym (stuck-ring trays ch fits esc left ring e);
            board_held = sym (rw (only, e, tangled, filled_unless));
          }

      -- filled: the board is written, and the records are answered
      pub filled-held : {r : Routing} (t : ℕ) (ps : List Place) {board' : List ℕ} → fill ch ≡ filled t ps
          → r.answer ≡ Ok (drawn_board t (length (draw ch t ps).pieces)) → Listed (records ch ps) r.records r.count
          → r.looks ≡ looks ch → board' ≡ overlay (encode (width ch) (draw ch t ps)) board
          → Held ch ring board r ring board'
      unfolding records_unless records_after ring_after filled_under7 filled_unless tangled records_made
      filled-held t ps e a l seen h =
          record {
            answer = a ∙ sym (filled-answer trays ch fits esc t ps e);
            counted = l.counted ∙ sym (rw (only, e, tangled, records_unless, records_made));
            looks = seen ∙ sym (looks-begun trays ch fits esc);
            table = l.laid ∙ sym (rw (only, e, tangled, filled_unless, records_made));
            ring_held = sym (rw (only, e, tangled, filled_under7));
            board_held = h ∙ sym (filled-board trays ch fits esc t ps board e);
          }
