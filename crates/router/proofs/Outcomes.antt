-- From what the router's parts answer to the equations of `route`: the rows refused, a fill that is stuck, and a fill
-- that is drawn and listed.
use Rattle.router.specs.Route.{drawn_board}
use Rattle.std.specs.Prelude.{Ok, Err}
use Rattle.std.specs.Prelude.{ℕ, ◌≤◌}
use native.Mathlib.Omega.{arith}
use Rattle.std.proofs.Math.Path.{◌≡◌, refl, sym, ap}
use Rattle.std.proofs.Common.{◌∙◌, subst}
use mathlib.Core.List.{List, Memᴰ}
use Rattle.std.proofs.Math.ListN.{length}
use Rattle.refusal.specs.declared.Refusal.{Refusal}
use Rattle.refusal.specs.declared.Refusal.TheVariants as refusal
use Rattle.refusal.specs.Trays.{ring_tray, board_tray}
use Rattle.grid.specs.Pieces.{Layout}
use Rattle.channel.specs.Channel.{Channel, spanning}
use Rattle.refusal.specs.ChainLaws.{err→some}
use Rattle.channel.proofs.ToldLaws.{rows-numbers}
use Rattle.channel.specs.Answers.{rows_refusal, rows_answer, Escapes}
use Rattle.channel.specs.Spans.{each512, Spans}
use Rattle.channel.proofs.SpanLaws.{spanning→}
use Rattle.leftedge.specs.declared.Outcome.TheVariants.{Placed, Stuck}
use Rattle.leftedge.specs.declared.Filled.{Filled}
use Rattle.leftedge.specs.declared.NetRecord.{NetRecord}
use Rattle.leftedge.specs.Items.{Place, track_of}
use Rattle.leftedge.specs.Fill.{Filling, filled, stuck}
use Rattle.leftedge.specs.Walk.{ring_of}
use Rattle.leftedge.specs.Nets.{net_items, fill, looks}
use Rattle.leftedge.proofs.NetLaws.{spanning→order}
use Rattle.leftedge.proofs.NetFill.{nets-filled}
use Rattle.leftedge.specs.Code.{outcome_of, ring_held, tracks_by, FillDone}
use Rattle.drawing.specs.Code.{track_in, drawn_by, Tracked, Drawable, BoardDrawn}
use Rattle.drawing.specs.CountLaws.{few-pieces}
use Rattle.drawing.proofs.CodeLaws.{track-is, drawn-by}
use Rattle.promises.specs.Proved.{trays-fit}
use Rattle.router.specs.declared.Routing.{Routing}
use Rattle.router.specs.Route.{route_trays}
use Rattle.router.specs.Tables.{records_by, Listed}
use Rattle.router.proofs.TableLaws.{made-records}
use Rattle.router.specs.Held.{Held, RefusedWith}
use Rattle.router.proofs.HeldLaws.{refused-held, rows-refused, stuck-held, filled-held}

-- a fill that placed every net, on t tracks: the places are those of the definitions, and the array has their tracks
pub record PlacedBy (ch : Channel) (t : ℕ) (tracks : List ℕ) : Type 0 where
  pub places : List Place
  pub ended : fill ch ≡ filled t places
  pub array : tracks ≡ each512 (track_of places)

module _ {ch : Channel} {ring ring' : List ℕ} {f : Filled} {s : Spans} {tracks : List ℕ}
    (done : FillDone ch ring f s tracks ring') where
  -- how the fill ended, from the code's answer
  pub placed→ : {t : ℕ} → f.outcome ≡ Placed t → PlacedBy ch t tracks × (ring' ≡ ring)
  unfolding outcome_of ring_held tracks_by
  placed→ {t} e = go (fill ch) refl
    where
      go : (g : Filling) → fill ch ≡ g → PlacedBy ch t tracks × (ring' ≡ ring)
      go (filled u ps) h =
          let told : Placed u ≡ Placed t = sym (done.outcome ∙ ap (outcome_of ch) h) ∙ e in
          let same : u ≡ t = cc in
          let array = done.tracks ∙ ap tracks_by h in
          (record { places = ps; ended = h ∙ ap (λ (k : ℕ). filled k ps) same; array = array }, done.held ∙ rw h)
      go (stuck left) h =
          let told = sym (done.outcome ∙ ap (outcome_of ch) h) ∙ e in
          let z : ◌≡◌ {A = ℕ} 0 1 = cc in
          absurd (omega arith)

module _ (ch : Channel) (esc : Escapes ch) where
  -- what the drawing asks of the tracks
  pub placed-tracked : {t : ℕ} {tracks : List ℕ} → PlacedBy ch t tracks → Tracked ch tracks t
  placed-tracked {t} {tracks} p =
      record { escapes = esc; few = (trays-fit ch esc).tracks-fit t p.places p.ended; tracked = tracked }
    where
      tracked : (n : ℕ) → Memᴰ n (spanning ch) → (1 ≤ track_in tracks n) × (track_in tracks n ≤ t)
      tracked n m =
          let here = track-is tracks p.places p.array n (spanning→ ch n m).0.low in
          rw (track_in, here)
          ((nets-filled ch esc t p.places p.ended).tracked n (spanning→order ch esc.even n m))

  -- a board as long as refusal 1 asks has room for the drawing
  pub placed-drawable : {t : ℕ} {tracks : List ℕ} {board : List ℕ} → board_tray ≤ length board → PlacedBy ch t tracks
      → Drawable ch tracks t board
  unfolding drawn_by
  placed-drawable {t} {tracks} long p =
      let few = few-pieces ch t (track_in tracks) esc in
      record { tracked = placed-tracked p; few = omega arith; long = omega arith }

module _ (ch : Channel) (ring board : List ℕ) (hr : ring_tray ≤ length ring) (hb : board_tray ≤ length board)
    {r : Routing} where
  -- the rows are refused
  pub rows-held : {q : Refusal} → Err q ≡ rows_answer ch → RefusedWith q 0 r
      → Held ch ring board r ring board
  unfolding rows_answer
  rows-held {q} e a =
      let said = err→some tt (rows_refusal ch) (sym e) in
      let low = rows-numbers ch q said in
      let first = rows-refused ch ring board hr hb q said in
      refused-held (route_trays (length ring) (length board)) ch ring board first (λ seven. omega arith) a

  module _ (esc : Escapes ch) {ring' : List ℕ} {f : Filled} {s : Spans} {tracks : List ℕ}
      (done : FillDone ch ring f s tracks ring') where
    -- the fill is stuck, and the ring is answered
    pub tangled-held : {pairs : ℕ} → f.outcome ≡ Stuck pairs → RefusedWith (refusal.Tangled pairs) f.looks r
        → Held ch ring board r ring' board
    unfolding outcome_of ring_held
    tangled-held {pairs} e a = go (fill ch) refl
      where
        go : (g : Filling) → fill ch ≡ g → Held ch ring board r ring' board
        go (filled u ps) h =
            let told = sym (done.outcome ∙ ap (outcome_of ch) h) ∙ e in
            let z : ◌≡◌ {A = ℕ} 0 1 = cc in
            absurd (omega arith)
        go (stuck left) h =
            let told = sym (done.outcome ∙ ap (outcome_of ch) h) ∙ e in
            let count : pairs ≡ length (ring_of (net_items ch) left) = cc in
            stuck-held ch ring board hr hb esc left h
            (subst (λ (k : ℕ). RefusedWith (refusal.Tangled k) (looks ch) r) count
            (subst (λ (j : ℕ). RefusedWith (refusal.Tangled pairs) j r) done.looks a))
            (done.held ∙ ap (λ (g : Filling). ring_held ch g ring) h)

    -- the fill is done, and the board and the records are answered
    pub routed-held : {t pieces : ℕ} {board' : List ℕ} → f.outcome ≡ Placed t → r.answer ≡ Ok (drawn_board t pieces) → BoardDrawn ch (drawn_by ch tracks t) board pieces board'
        → Listed (records_by s tracks) r.records r.count → r.looks ≡ f.looks
        → Held ch ring board r ring' board'
    routed-held {t} e a d listed seen =
        let p = placed→ done e in
        let ps = p.0.places in
        let drawn = drawn-by ch t ps tracks p.0.array in
        let made = made-records ch esc s done.spans ps tracks p.0.array in
        let count = d.counted ∙ ap (λ (l : Layout). length l.pieces) drawn in
        rw p.1
        (filled-held ch ring board hr hb esc t ps p.0.ended (a ∙ ap (λ (k : ℕ). Ok (drawn_board t k)) count)
        (subst (λ (l : List NetRecord). Listed l r.records r.count) made listed) (seen ∙ done.looks)
        (d.written ∙ rw drawn))
