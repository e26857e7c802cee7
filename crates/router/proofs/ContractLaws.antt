-- The equations of Route give the promises: the chain of refusals is silent up to 7 for a channel that escapes, and
-- then they are demand 3 and Reqs 02, 04 and 07.
use Rattle.router.specs.declared.Drawn.{Drawn}
use Rattle.router.specs.Route.{drawn_board}
use Rattle.std.specs.Prelude.{Result, Ok, Err}
use Rattle.std.specs.Prelude.{ℕ, ◌+◌, ◌*◌, ◌≡◌, List, ◌↔◌, ◌⊎◌, drop}
use Rattle.std.proofs.Common.{arith, sym, ◌∙◌, subst}
use Rattle.std.proofs.Math.Path.{ap, subst⁻¹}
use mathlib.Core.List.Memᴰ
use Rattle.std.proofs.Math.Logic.{⊎_elim}
use Rattle.std.proofs.Math.Option.{Option, none, some}
use Rattle.std.proofs.Math.ListN.{length, take}
use Rattle.std.proofs.Math.Seq.{take_at}
use Rattle.lists.specs.Lists.{overlay}
use Rattle.refusal.specs.declared.Refusal.{Refusal}
use Rattle.refusal.specs.declared.Refusal.TheVariants as refusal
use Rattle.refusal.specs.Refusals.{◌or_else◌, answered, told, filled_unless}
use Rattle.refusal.specs.ChainLaws.{none-or-else-later}
use Rattle.refusal.specs.Trays.{Tray, short_tray}
use Rattle.grid.specs.Pieces.{Layout}
use Rattle.channel.specs.Channel.{Channel, width}
use Rattle.channel.specs.Answers.{Escapes, rows_refusal}
use Rattle.channel.proofs.EscapeLaws.{accepted-exactly}
use Rattle.channel.proofs.TurnLaws.{turned-promise}
use Rattle.wiring.specs.Layouts.{Good, OneTrunkEach}
use Rattle.leftedge.specs.Items.{Place}
use Rattle.leftedge.specs.declared.NetRecord.{NetRecord}
use Rattle.leftedge.specs.Fill.{Filling, filled, stuck}
use Rattle.leftedge.specs.FillEnds.{filled-or-stuck}
use Rattle.leftedge.specs.Walk.{ring_of, ring_numbers}
use Rattle.leftedge.specs.Nets.{net_items, fill, looks}
use Rattle.leftedge.proofs.NetFill.{looks≤ceiling}
use Rattle.leftedge.specs.RingLists.{length-numbers}
use Rattle.boardfile.specs.Encode.{encode}
use Rattle.boardfile.specs.Open.{file_layout}
use Rattle.boardfile.specs.FieldLaws.{opened-length}
use Rattle.boardfile.specs.RoundTrip.{encoded-length}
use Rattle.drawing.specs.Draw.{draw}
use Rattle.promises.specs.Router.{Refused, RouterPromise, Bare, NoneParked}
use Rattle.promises.specs.Proved.{demand3, req04}
use Rattle.promises.proofs.TurnProved.{floor-promise, copper-promise}
use Rattle.router.specs.Route.{ring_shown, tangled, layout_drawn, records_made, route_refusal, route_answer}
use Rattle.router.specs.Route.{board_after}
use Rattle.router.specs.Route.{filled_under7, ring_after, looks_unless, looks_answered, route_told}
use Rattle.router.specs.Contract.{ShowsRing, HoldsLayout, RoutePromise, TurnedOver, ParkedBare, LooksPromise}
use Rattle.router.specs.Code.{records_unless}

module _ (trays : List Tray) (ch : Channel) (room : short_tray trays ≡ none) (esc : Escapes ch) where
  -- what is refused is 7 alone
  pub only-tangled : route_refusal trays ch ≡ tangled ch (fill ch)
  unfolding route_refusal
  only-tangled =
      none-or-else-later (short_tray trays) (rows_refusal ch or_else tangled ch (fill ch)) room
      ∙ none-or-else-later (rows_refusal ch) (tangled ch (fill ch)) ((accepted-exactly ch).1 esc)

  -- the answer, ring and board by the end of the fill
  pub stuck-answer : (left : List ℕ) → fill ch ≡ stuck left
      → route_answer trays ch ≡ Err (refusal.Tangled (length (ring_of (net_items ch) left)))
  unfolding route_answer answered tangled ring_shown
  stuck-answer left e = rw (only-tangled, e, tangled, answered)

  pub filled-answer : (t : ℕ) (ps : List Place) → fill ch ≡ filled t ps
      → route_answer trays ch ≡ Ok (drawn_board t (length (draw ch t ps).pieces))
  unfolding route_answer answered tangled layout_drawn draw
  filled-answer t ps e = rw (only-tangled, e, tangled, answered, layout_drawn)

  pub stuck-ring : (left ring : List ℕ) → fill ch ≡ stuck left
      → ring_after trays ch ring ≡ overlay (ring_numbers (ring_of (net_items ch) left)) ring
  unfolding ring_after filled_under7 tangled ring_shown
  stuck-ring left ring e = rw (only-tangled, e, tangled, filled_under7, ring_shown)

  pub filled-board : (t : ℕ) (ps : List Place) (board : List ℕ) → fill ch ≡ filled t ps
      → board_after trays ch board ≡ overlay (encode (width ch) (draw ch t ps)) board
  unfolding board_after filled_unless tangled layout_drawn
  filled-board t ps board e = rw (only-tangled, e, tangled, filled_unless, layout_drawn)

  -- the fill is begun, so its looks are answered, however it ends
  pub looks-begun : looks_answered trays ch ≡ looks ch
  unfolding looks_answered looks_unless tangled
  looks-begun =
      ⊎_elim (λ f. rw (only-tangled, f.2, tangled, looks_unless)) (λ r. rw (only-tangled, r.1, tangled, looks_unless))
      (filled-or-stuck (fill ch))

  pub route-looks : {looked : ℕ} → looked ≡ looks_answered trays ch → LooksPromise ch looked
  route-looks e = let sum = e ∙ looks-begun in record { sum = sum; at_most = rw sum (looks≤ceiling ch esc) }

  promise : RouterPromise ch
  promise = demand3 ch esc

  -- how the fill ends
  ends : ((t : ℕ) × (ps : List Place) × (fill ch ≡ filled t ps)) ⊎ Refused ch
  ends = filled-or-stuck (fill ch)

  abbrev number : ℕ
  number = (route_told (route_answer trays ch)).number

  filled-number : (t : ℕ) (ps : List Place) → fill ch ≡ filled t ps → number ≡ 0
  unfolding told
  filled-number t ps e = ap (λ (r : Result Drawn Refusal). (route_told r).number) (filled-answer t ps e)

  seven-exactly : (number ≡ 7) ↔ Refused ch
  unfolding told
  seven-exactly = (
    λ h. ⊎_elim (λ f. absurd (let z = filled-number f.0 f.1 f.2 in omega arith)) (λ r. r) ends,
    λ r. ap (λ (a : Result Drawn Refusal). (route_told a).number) (stuck-answer r.0 r.1),
  )

  -- a routed answer comes of a filled channel
  routed-filled : (t n : ℕ) → route_answer trays ch ≡ Ok (drawn_board t n)
      → (ps : List Place) × (fill ch ≡ filled t ps) × (length (draw ch t ps).pieces ≡ n)
  routed-filled t n h = ⊎_elim was-filled was-stuck ends
    where
      was-filled : ((u : ℕ) × (ps : List Place) × (fill ch ≡ filled u ps))
          → (ps : List Place) × (fill ch ≡ filled t ps) × (length (draw ch t ps).pieces ≡ n)
      was-filled f =
          let same = sym (filled-answer f.0 f.1 f.2) ∙ h in
          let board : drawn_board f.0 (length (draw ch f.0 f.1).pieces) ≡ drawn_board t n = cc in
          let tracks = ap (λ (d : Drawn). d.tracks) board in
          let count = ap (λ (d : Drawn). d.pieces) board in (
            f.1,
            f.2 ∙ ap (λ (u : ℕ). filled u f.1) tracks,
            subst (λ (u : ℕ). length (draw ch u f.1).pieces ≡ n) tracks count,
          )

      was-stuck : Refused ch → (ps : List Place) × (fill ch ≡ filled t ps) × (length (draw ch t ps).pieces ≡ n)
      was-stuck r =
          let same = sym (stuck-answer r.0 r.1) ∙ h in
          let z : ◌≡◌ {A = ℕ} 0 1 = cc in
          absurd (omega arith)

  shows-ring : (ring : List ℕ) (k : ℕ) → route_answer trays ch ≡ Err (refusal.Tangled k)
      → ShowsRing ch k (ring_after trays ch ring)
  shows-ring ring k h =
      ⊎_elim (λ f. absurd (let same = sym (filled-answer f.0 f.1 f.2) ∙ h in let z : ◌≡◌ {A = ℕ} 0 1 = cc in
      omega arith)) shown ends
    where
      shown : Refused ch → ShowsRing ch k (ring_after trays ch ring)
      shown r =
          let steps = ring_of (net_items ch) r.0 in
          let same = sym (stuck-answer r.0 r.1) ∙ h in
          let counted : length steps ≡ k = cc in
          let pairs = ring_numbers steps in
          let size : length pairs ≡ 2 * k = length-numbers steps ∙ ap (λ (m : ℕ). 2 * m) counted in
          record {
            steps = steps;
            counted = counted;
            is_ring = promise.ring-shown r.0 r.1;
            stored = ap (take (2 * k)) (stuck-ring r.0 ring r.1)
                ∙ take_at pairs (drop (length pairs) ring) (2 * k) size;
          }

  holds-layout : (board : List ℕ) (t n : ℕ) → route_answer trays ch ≡ Ok (drawn_board t n)
      → HoldsLayout ch t n (take (4 + 4 * n) (board_after trays ch board))
  unfolding layout_drawn file_layout draw
  holds-layout board t n h =
      let r = routed-filled t n h in
      let ps = r.0 in
      let l = draw ch t ps in
      let file = encode (width ch) l in
      let size : length file ≡ 4 + 4 * n = encoded-length (width ch) l ∙ ap (λ (m : ℕ). 4 + 4 * m) r.2 in
      let front : take (4 + 4 * n) (board_after trays ch board) ≡ file =
      ap (take (4 + 4 * n)) (filled-board t ps board r.1)
      ∙ take_at file (drop (length file) board) (4 + 4 * n) size in
      let back = promise.read_back t ps r.1 in
      let good = promise.laid_out t ps r.1 in
      subst⁻¹ (HoldsLayout ch t n) front
      (record {
        opens = back.opens;
        same_width = back.same_width;
        same_tracks = ap (λ (m : Layout). m.tracks) back.same_layout;
        same_count = (let whole = opened-length file back.opens in omega arith);
        drawn = back.same_layout
            ∙ ap (layout_drawn ch) (sym r.1);
        good = subst⁻¹ (Good ch) back.same_layout good.0;
        one_trunk_each = subst⁻¹ (OneTrunkEach ch) back.same_layout good.1;
      })

  pub route-promise : (ring board : List ℕ) → RoutePromise ch (route_answer trays ch) (ring_after trays ch ring)
      (board_after trays ch board)
  route-promise ring board =
      record {
        tangled-exactly = (
          λ h. promise.refused-exactly.0 (seven-exactly.0 h),
          λ h.
              seven-exactly.1 (promise.refused-exactly.1 h),
        );
        ring-exactly = (
          λ h. promise.ring-exactly.0 (seven-exactly.0 h),
          λ h.
              seven-exactly.1 (promise.ring-exactly.1 h),
        );
        ring-shown = shows-ring ring;
        every-other = λ h. ⊎_elim (λ f. (
          f.0,
          length (draw ch f.0 f.1).pieces,
          filled-answer f.0 f.1 f.2,
        )) (λ r. absurd (h (seven-exactly.1 r))) ends;
        laid_out = holds-layout board;
        fewest = λ free t n h. let r = routed-filled t n h in
            promise.fewest free t r.0 r.1;
        floors = λ t n h. let r = routed-filled t n h in
            promise.floors t r.0 r.1;
        one-trunk-floor = λ t n h. let r = routed-filled t n h in
            let f = promise.floors t r.0 r.1 in (omega arith, (floor-promise ch esc).larger-floor);
      }

  pub route-turned : (board : List ℕ) → TurnedOver ch (route_answer trays ch) (board_after trays ch board)
  route-turned board =
      let alike = (turned-promise ch).tangled-exactly esc in
      let copper = copper-promise ch esc in
      record {
        tangled-exactly = (
          λ h. alike.1 (promise.ring-exactly.0 (seven-exactly.0 h)),
          λ h. seven-exactly.1 (promise.ring-exactly.1 (alike.0 h)),
        );
        good = λ t n h. let l = (holds-layout board t n h).good in
            (copper.same-copper _ l.on_grid).0 l;
        one_trunk_each = λ t n h. let l = holds-layout board t n h in
            (copper.same-trunks _ l.good.on_grid).0 l.one_trunk_each;
      }

  -- the records answered have no parked number: none is made under a refusal, and those made are of nets
  none-parked : NoneParked ch (records_unless (route_refusal trays ch) (records_made ch (fill ch)))
  unfolding records_unless records_made
  none-parked = go (route_refusal trays ch) (fill ch)
    where
      go : (q : Option Refusal) (f : Filling) → NoneParked ch (records_unless q (records_made ch f))
      go none (filled t ps) = (req04 ch esc).no_record ps
      go none (stuck left) = λ e m p. Memᴰ.not-nil m
      go (some q) f = λ e m p. Memᴰ.not-nil m

  pub route-parked : {made : List NetRecord} → made ≡ records_unless (route_refusal trays ch) (records_made ch (fill ch))
      → (board : List ℕ) → ParkedBare ch (route_answer trays ch) made (board_after trays ch board)
  route-parked same board =
      record {
        no_record = subst⁻¹ (NoneParked ch) same none-parked;
        no-copper = λ t n h. let r = routed-filled t n h in
            subst⁻¹ (Bare ch) ((holds-layout board t n h).drawn ∙ ap (layout_drawn ch) r.1)
            (unfold layout_drawn in ((req04 ch esc).no-copper t r.0 r.1));
        tangled-exactly = (
          λ h. (req04 ch esc).stays-tangled.0 (promise.ring-exactly.0 (seven-exactly.0 h)),
          λ h. seven-exactly.1 (promise.ring-exactly.1 ((req04 ch esc).stays-tangled.1 h)),
        );
        fewest = λ beside t n h. let r = routed-filled t n h in
            promise.fewest ((req04 ch esc).uncounted.1 beside) t r.0 r.1;
      }
