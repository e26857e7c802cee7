-- From what the router answers of an accepted channel to what the programs write: refused as tangled, or routed.
use Rattle.std.specs.Prelude.{Ok, Err}
use Rattle.router.specs.declared.Drawn.{Drawn}
use Rattle.router.specs.Route.{drawn_board}
use Rattle.std.specs.Prelude.{ℕ, ◌+◌, ◌*◌, ◌≤◌, ◌≡◌, refl, List, ◌++◌, take, drop}
use native.Mathlib.Omega.{arith}
use Rattle.std.proofs.Math.Path.{sym, ap, subst}
use Rattle.std.proofs.Common.{◌∙◌}
use Rattle.std.proofs.Math.Option.{none}
use Rattle.std.proofs.Math.ListN.{length}
use Rattle.std.proofs.lemmas.List.Edits.{sets}
use Rattle.std.proofs.Math.Seq.{take_at}
use Rattle.lists.specs.Stores.{sets-overlay}
use Rattle.refusal.specs.declared.Refusal.{Refusal}
use Rattle.refusal.specs.declared.Refusal.TheVariants as refusal
use Rattle.refusal.specs.Refusals.{place_of, answered, filled_unless}
use Rattle.refusal.specs.ChainLaws.{answered-none}
use Rattle.refusal.specs.Trays.{Tray, short_tray, record_tray, ring_tray, board_tray}
use Rattle.grid.specs.Pieces.{Layout}
use Rattle.channel.specs.Channel.{Channel, width}
use Rattle.channel.specs.Constraints.{Step}
use Rattle.channel.specs.Answers.{Escapes}
use Rattle.leftedge.specs.Items.{Place}
use Rattle.leftedge.specs.Fill.{Filling, filled, stuck}
use Rattle.leftedge.specs.Walk.{ring_of, ring_numbers}
use Rattle.leftedge.specs.Nets.{net_items, fill, records}
use Rattle.leftedge.specs.RingLists.{length-numbers}
use Rattle.boardfile.specs.Encode.{encode}
use Rattle.boardfile.specs.RoundTrip.{encoded-length}
use Rattle.drawing.specs.Draw.{draw}
use Rattle.blanks.specs.Stock.{no_blank}
use Rattle.promises.specs.Proved.{trays-fit}
use Rattle.router.specs.declared.Routing.{Routing}
use Rattle.router.specs.Route.{ring_shown, tangled, layout_drawn, records_made, route_trays, route_refusal, board_after}
use Rattle.router.proofs.ContractLaws.{only-tangled, stuck-answer, filled-answer, stuck-ring, filled-board}
use Rattle.router.specs.Code.{records_unless, RowsDone}
use Rattle.router.proofs.HeldLaws.{room}
use Rattle.router.proofs.LentLaws.{rows-front}
use Rattle.text.specs.Lines.{Put}
use Rattle.report.specs.Lines.{refusal_line, ring_lines}
use Rattle.report.specs.Code.{listing_text}
use Rattle.report.specs.CodeLaws.{ring-text}
use Rattle.programs.specs.Programs.{of_filled, listing, board_bytes}
use Rattle.programs.specs.Code.{unrouted_text, figures_of}
use Rattle.programs.specs.CodeLaws.{has-blank}

-- a channel that the router refuses: the lines of its refusal are those of a tangled one, and the board is not touched
pub record Unrouted (ch : Channel) (board ring' board' : List ℕ) (q : Refusal) : Type 0 where
  pub few : place_of q ≤ record_tray
  pub output : (output : Channel → List ℕ) → unrouted_text q ring' ≡ of_filled output ch
  pub kept : board' ≡ board

-- a channel that is routed: its records and figures make the listing, and the board file is put
pub record Routed (ch : Channel) (board : List ℕ) (r : Routing) (board' : List ℕ) (t n : ℕ) : Type 0 where
  pub few-tracks : t ≤ record_tray
  pub few-records : r.count ≤ record_tray
  pub few-pieces : n ≤ 2559
  pub listed : listing_text (figures_of ch t n) (take r.count r.records) ≡ of_filled listing ch
  pub put : Put board 0 (of_filled board_bytes ch) board' (4 + 4 * n)

-- the lines of a refusal, of a buffer whose front holds the ring
tangled-text : (steps : List Step) (ring : List ℕ)
    → take (2 * length steps) ring ≡ ring_numbers steps
    → unrouted_text (refusal.Tangled (length steps)) ring
    ≡ refusal_line (refusal.Tangled (length steps)) ++ ring_lines steps
unfolding unrouted_text
tangled-text steps ring e =
    ap (λ (l : List ℕ). refusal_line (refusal.Tangled (length steps)) ++ l) (ring-text steps ring e)

-- a listing whose tracks a blank holds
listing-text : (ch : Channel)
    → no_blank (layout_drawn ch (fill ch)).tracks ≡ none
    → listing ch
    ≡ listing_text (figures_of ch (layout_drawn ch (fill ch)).tracks (length (layout_drawn ch (fill ch)).pieces))
    (records_made ch (fill ch))
unfolding listing listing_text
listing-text ch h = answered-none refusal_line (no_blank (layout_drawn ch (fill ch)).tracks) _ h

module _ (output : Channel → List ℕ) (ch : Channel) where
  of-stuck : (left : List ℕ)
      → fill ch ≡ stuck left
      → refusal_line (refusal.Tangled (length (ring_of (net_items ch) left))) ++ ring_lines (ring_of (net_items ch) left)
      ≡ of_filled output ch
  unfolding of_filled answered tangled ring_shown
  of-stuck left e = rw (e, ring_shown, tangled)

  of-filled : (t : ℕ) (ps : List Place) → fill ch ≡ filled t ps → of_filled output ch ≡ output ch
  unfolding of_filled answered tangled
  of-filled t ps e = rw (e, tangled)

module _
    (ch : Channel) (esc : Escapes ch) {ring board ring' board' : List ℕ} {r : Routing} (hr : ring_tray ≤ length ring)
    (hb : board_tray ≤ length board) (done : RowsDone ch ring board r ring' board') where
  abbrev trays : List Tray
  trays = route_trays (length ring) (length board)

  enough : short_tray trays ≡ none
  enough = room (length ring) (length board) hr hb

  abbrev ring_from : List ℕ → List Step
  ring_from left = ring_of (net_items ch) left

  module _ {q : Refusal} (told : r.answer ≡ Err q) where
    -- the router refuses a tangled channel alone
    record Stuck : Type 0 where
      left : List ℕ
      unfilled : fill ch ≡ stuck left
      refused : q ≡ refusal.Tangled (length (ring_from left))

    refused→stuck : Stuck
    refused→stuck = go (fill ch) refl
      where
        go : (f : Filling) → fill ch ≡ f → Stuck
        go (filled t ps) e =
            let same = sym (done.answer ∙ filled-answer trays ch enough esc t ps e) ∙ told in
            absurd (let z : ◌≡◌ {A = ℕ} 0 1 = cc in omega arith)
        go (stuck left) e =
            let same = sym (done.answer ∙ stuck-answer trays ch enough esc left e) ∙ told in
            record { left = left; unfilled = e; refused = cc }

    pub unrouted : Unrouted ch board ring' board' q
    unfolding board_after filled_unless tangled
    unrouted =
        let s = refused→stuck in
        let steps = ring_from s.left in
        let numbers = ring_numbers steps in
        let fits = (trays-fit ch esc).ring-fits s.left s.unfilled in
        let twice = length-numbers steps in
        let few : length steps ≤ record_tray = omega arith in
        let held = done.ring_held ∙ stuck-ring trays ch enough esc s.left ring s.unfilled in
        let shown =
        ap (take (2 * length steps)) held ∙ take_at numbers (drop (length numbers) ring) (2 * length steps) twice in
        record {
          few = subst (λ (p : Refusal). place_of p ≤ record_tray) (sym s.refused) few;
          output = λ output.
              ap (λ (p : Refusal). unrouted_text p ring') s.refused
              ∙ (tangled-text steps ring' shown ∙ of-stuck output ch s.left s.unfilled);
          kept = done.board_held ∙ rw (only-tangled trays ch enough esc, s.unfilled, tangled, filled_unless);
        }

  module _ {t n : ℕ} (told : r.answer ≡ Ok (drawn_board t n)) where
    record Full : Type 0 where
      places : List Place
      fills : fill ch ≡ filled t places
      count : n ≡ length (draw ch t places).pieces

    routed→filled : Full
    routed→filled = go (fill ch) refl
      where
        go : (f : Filling) → fill ch ≡ f → Full
        go (filled u ps) e =
            let same = sym (done.answer ∙ filled-answer trays ch enough esc u ps e) ∙ told in
            let board : drawn_board u (length (draw ch u ps).pieces) ≡ drawn_board t n = cc in
            let tracks = ap (λ (d : Drawn). d.tracks) board in
            let count = sym (ap (λ (d : Drawn). d.pieces) board) in
            record {
              places = ps;
              fills = e ∙ ap (λ (k : ℕ). filled k ps) tracks;
              count = subst (λ (k : ℕ). n ≡ length (draw ch k ps).pieces) tracks count;
            }
        go (stuck left) e =
            let same = sym (done.answer ∙ stuck-answer trays ch enough esc left e) ∙ told in
            absurd (let z : ◌≡◌ {A = ℕ} 0 1 = cc in omega arith)

    abbrev places : List Place
    places = routed→filled.places

    fills : fill ch ≡ filled t places
    fills = routed→filled.fills

    made : records_unless (route_refusal trays ch) (records_made ch (fill ch)) ≡ records ch places
    unfolding records_unless tangled records_made
    made = rw (only-tangled trays ch enough esc, fills, tangled, records_unless, records_made)

    drawn : layout_drawn ch (fill ch) ≡ draw ch t places
    unfolding layout_drawn
    drawn = rw (fills, layout_drawn)

    tracks-drawn : (layout_drawn ch (fill ch)).tracks ≡ t
    unfolding draw
    tracks-drawn = ap (λ (l : Layout). l.tracks) drawn

    pieces-drawn : length (layout_drawn ch (fill ch)).pieces ≡ n
    pieces-drawn = ap (λ (l : Layout). length l.pieces) drawn ∙ sym routed→filled.count

    table : take r.count r.records ≡ records_made ch (fill ch)
    unfolding records_made
    table = rows-front done ∙ (made ∙ sym (rw (fills, records_made)))

    few : t ≤ record_tray
    few = (trays-fit ch esc).tracks-fit t places fills

    listed : listing_text (figures_of ch t n) (take r.count r.records) ≡ of_filled listing ch
    listed =
        let text = listing-text ch (ap no_blank tracks-drawn ∙ has-blank t few) in
        sym (of-filled listing ch t places fills ∙ (text ∙ rw (tracks-drawn, pieces-drawn, ← table)))

    board-file : of_filled board_bytes ch ≡ encode (width ch) (draw ch t places)
    board-file = of-filled board_bytes ch t places fills ∙ ap (encode (width ch)) drawn

    pub routed : Routed ch board r board' t n
    routed =
        let count = routed→filled.count in
        let pieces-fit = (trays-fit ch esc).pieces-fit t places fills in
        let records-fit = (trays-fit ch esc).records-fit places in
        let counted = done.counted ∙ ap length made in
        let size = ap length board-file ∙ encoded-length (width ch) (draw ch t places) in
        let board-fits = (trays-fit ch esc).board-fits t places fills in
        let held = filled-board trays ch enough esc t places board fills in
        let whole = sets-overlay board (encode (width ch) (draw ch t places)) (omega arith) in
        record {
          few-tracks = few;
          few-records = omega arith;
          few-pieces = omega arith;
          listed = listed;
          put = record {
            place = omega arith;
            stored = done.board_held ∙ (held ∙ sym (ap (sets board 0) board-file ∙ whole));
          };
        }
