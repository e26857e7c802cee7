-- Demand 3 and Req 04, proved for every channel that escapes refusals 3 to 5. A filled channel's drawing is a
-- good layout with one trunk piece per net; no such layout exists beside a ring; and the fill is filled or stuck.
use Rattle.std.specs.Prelude.{ℕ, ◌≤◌, ◌≡◌, refl, List, [], ◌∷◌, length, T}
use Rattle.std.proofs.Common.{arith, sym, subst, ⊎_elim}
use mathlib.Core.List.Memᴰ
use Rattle.std.proofs.lemmas.List.{length-map}
use Rattle.lists.specs.Ranges.{length-each}
use Rattle.refusal.specs.Trays.{ring_tray, board_tray}
use Rattle.channel.specs.Channel.{Channel, width, highest_net, is_parked, nets}
use Rattle.channel.specs.Density.{density}
use Rattle.channel.specs.Constraints.{chain, Step, Tangled, Unconstrained}
use Rattle.channel.specs.Answers.{Escapes}
use Rattle.channel.specs.CountLaws.{nets-few}
use Rattle.channel.proofs.SpanLaws.{nets→, spanning→}
use Rattle.channel.proofs.ParkedLaws.{parked-no-net, uncounted}
use Rattle.channel.proofs.ShownLaws.{tangled-shown}
use Rattle.wiring.specs.Layouts.{Good, OneTrunkEach}
use Rattle.wiring.specs.Order.{no-ring}
use Rattle.wiring.specs.Floor.{density-floor}
use Rattle.wiring.specs.ChainFloor.{chain-floor}
use Rattle.leftedge.specs.declared.NetRecord.{NetRecord}
use Rattle.leftedge.specs.Items.{Place}
use Rattle.leftedge.specs.Fill.{filled, stuck}
use Rattle.leftedge.specs.FillEnds.{filled-or-stuck}
use Rattle.leftedge.specs.Walk.{ring_of, ring_numbers}
use Rattle.leftedge.specs.Nets.{net_items, fill, record_of, records}
use Rattle.leftedge.proofs.NetFill.{nets-filled, stuck-ring, ring-length, filled-untangled, tracks≤nets, tracks≤density}
use Rattle.boardfile.specs.Encode.{encode}
use Rattle.boardfile.specs.Promise.{ReadsBack}
use Rattle.boardfile.specs.RoundTrip.{read_back, encoded-length}
use Rattle.drawing.specs.Draw.{draw}
use Rattle.drawing.proofs.GoodLaws.{drawn-good, parked-bare}
use Rattle.drawing.specs.CountLaws.{drawn-pieces}
use Rattle.promises.specs.Router.{Refused, NoLayout, Fewest, Req04, Demand3, TraysFit}
use Rattle.promises.specs.Bounds.{DensityFloor}

pub density-is-floor : DensityFloor
density-is-floor = density-floor

module _ (ch : Channel) (esc : Escapes ch) where
  laid_out : (t : ℕ) (ps : List Place) → fill ch ≡ filled t ps → Good ch (draw ch t ps) × OneTrunkEach ch (draw ch t ps)
  laid_out t ps e = drawn-good ch esc t ps (nets-filled ch esc t ps e)

  refused→no-layout : Refused ch → NoLayout ch
  refused→no-layout r l g one = no-ring ch esc l g one (ring_of (net_items ch) r.0) (stuck-ring ch esc r.0 r.1)

  -- beside a ring, or where no layout exists, the fill is stuck
  otherwise-refused : (((t : ℕ) (ps : List Place) → fill ch ≡ filled t ps → ⊥)) → Refused ch
  otherwise-refused h = ⊎_elim (λ r. absurd (h r.0 r.1 r.2)) (λ r. r) (filled-or-stuck (fill ch))

  no-layout→refused : NoLayout ch → Refused ch
  no-layout→refused h = otherwise-refused (λ t ps e. let r = laid_out t ps e in h (draw ch t ps) r.0 r.1)

  tangled→refused : Tangled ch → Refused ch
  tangled→refused r = otherwise-refused (λ t ps e. filled-untangled ch esc t ps e r)

  module _ (t : ℕ) (ps : List Place) (e : fill ch ≡ filled t ps) where
    density≤tracks : density ch ≤ t
    unfolding draw
    density≤tracks = density-floor ch esc (draw ch t ps) (laid_out t ps e).0

    chain≤tracks : chain ch ≤ t
    unfolding draw
    chain≤tracks = let l = laid_out t ps e in chain-floor ch esc (draw ch t ps) l.0 l.1

    reads-back : ReadsBack (width ch) (draw ch t ps) (encode (width ch) (draw ch t ps))
    unfolding draw
    reads-back =
        let few = tracks≤nets ch esc t ps (nets-filled ch esc t ps e) in
        let most = nets-few ch in
        let pieces = drawn-pieces ch t ps esc in
        read_back (width ch) (draw ch t ps) (record {
          wide = esc.wide;
          narrow = esc.narrow;
          tracks = omega arith;
          pieces = omega arith;
          on_grid = (laid_out t ps e).0.on_grid;
        })

pub demand3 : Demand3
demand3 ch esc =
    record {
      refused-exactly = (refused→no-layout ch esc, no-layout→refused ch esc);
      ring-exactly = (λ r. (ring_of (net_items ch) r.0, stuck-ring ch esc r.0 r.1), tangled→refused ch esc);
      ring-shown = stuck-ring ch esc;
      laid_out = laid_out ch esc;
      fewest = fewest;
      floors = λ t ps e. (
        density≤tracks ch esc t ps e,
        chain≤tracks ch esc t ps e,
        tracks≤nets ch esc t ps (nets-filled ch esc t ps e),
      );
      read_back = reads-back ch esc;
    }
  where
    fewest : Unconstrained ch → (t : ℕ) (ps : List Place) → fill ch ≡ filled t ps → (t ≡ density ch) × Fewest ch t
    fewest free t ps e =
        let up = tracks≤density ch esc t ps (nets-filled ch esc t ps e) free in
        let down = density≤tracks ch esc t ps e in
        let same : t ≡ density ch = omega arith in
        (same, λ l g. let floor = density-floor ch esc l g in omega arith)

-- what Req 04 says of parked pins
pub req04 : Req04
unfolding records record_of
req04 ch esc =
    record {
      no_record = λ ps e m parked. let r = Memᴰ.of_map (record_of ch ps) (nets ch) m in
          parked-no-net ch r.0 (subst (λ (d : NetRecord). T (is_parked ch d.number.0)) (sym r.2) parked)
          (nets→ ch r.0 r.1).is_net;
      no-copper = λ t ps e. parked-bare ch esc t ps (nets-filled ch esc t ps e);
      no_span = λ n parked m. parked-no-net ch n parked (spanning→ ch n m).0.is_net;
      not-above = λ n parked m c. (
        λ h. parked-no-net ch n parked h.upper,
        λ h. parked-no-net ch n parked h.lower,
      );
      stays-tangled = tangled-shown ch;
      uncounted = uncounted ch esc.even;
    }

-- what is stored fits: at most 511 records, 511 pairs, 511 tracks and 2,559 pieces
pub trays-fit : (ch : Channel) → Escapes ch → TraysFit ch
unfolding records ring_numbers
trays-fit ch esc =
    record {
      records-fit = λ ps. let e = length-map (nets ch) (record_of ch ps) in
          omega (arith, most);
      ring-fits = ring-fits;
      tracks-fit = tracks-fit;
      pieces-fit = λ t ps e. drawn-pieces ch t ps esc;
      board-fits = board-fits;
    }
  where
    most : length (nets ch) ≤ highest_net
    most = nets-few ch

    ring-fits : (left : List ℕ) → fill ch ≡ stuck left → length (ring_numbers (ring_of (net_items ch) left)) ≤ ring_tray
    ring-fits left e =
        let steps = ring_of (net_items ch) left in
        let pairs = length-each 2 (λ (s : Step). s.net ∷ (s.column ∷ [])) steps (λ s. refl) in
        let counted = length-map steps (λ (s : Step). s.net) in
        let few = ring-length ch esc left e in
        omega (arith, most)

    tracks-fit : (t : ℕ) (ps : List Place) → fill ch ≡ filled t ps → t ≤ 511
    tracks-fit t ps e = let h = tracks≤nets ch esc t ps (nets-filled ch esc t ps e) in omega (arith, most)

    board-fits : (t : ℕ) (ps : List Place) → fill ch ≡ filled t ps
        → length (encode (width ch) (draw ch t ps)) ≤ board_tray
    board-fits t ps e =
        let n = encoded-length (width ch) (draw ch t ps) in let few = drawn-pieces ch t ps esc in omega arith
