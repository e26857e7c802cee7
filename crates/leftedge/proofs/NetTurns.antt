-- The fill of a channel's nets as an instance of the fill of items: the tables of the nets, and what the fill of items
-- leaves is what the fill of the channel answers.
use Rattle.std.specs.Prelude.{◌≤◌, ℕ, ◌<◌, ◌≡◌, refl, ◌↔◌, length, take, replicate}
use native.Mathlib.Omega.{arith}
use Rattle.std.proofs.Math.Path.{sym, ap}
use Rattle.std.proofs.Common.{◌∙◌, subst, length-take}
use mathlib.Core.List.{List, [], Memᴰ}
use Rattle.std.proofs.Math.ListN.{get_or, length-replicate}
use Rattle.lists.specs.Lists.{any_of, overlay}
use Rattle.lists.specs.Counts.{get_or-zeros}
use Rattle.lists.specs.Arrays.{length-map-from, numbered-at, numbered}
use Rattle.items.specs.Steps.{StepsLinked}
use Rattle.items.specs.StepLaws.{waiting_none}
use Rattle.channel.specs.Channel.{Channel, first_column, last_column}
use Rattle.channel.specs.Answers.{Escapes}
use Rattle.channel.specs.Parked.{NetsOnly}
use Rattle.channel.specs.Spans.{Spans, SpansFound}
use Rattle.channel.proofs.SpanLaws.{spanning-small}
use Rattle.channel.proofs.StepsLaws.{nets-stepped}
use Rattle.leftedge.specs.declared.tracks.FillEnd.TheVariants as ends
use Rattle.leftedge.specs.declared.tracks.ItemsFilled.{ItemsFilled}
use Rattle.leftedge.specs.declared.Outcome.TheVariants.{Placed, Stuck}
use Rattle.leftedge.specs.declared.Filled.{Filled}
use Rattle.leftedge.specs.Items.{Place, track_of, is_placed}
use Rattle.leftedge.specs.Fill.{Filling, filled, stuck}
use Rattle.leftedge.specs.Walk.{ring_of, ring_numbers}
use Rattle.leftedge.specs.Nets.{fill_order, net_items, fill, looks}
use Rattle.leftedge.proofs.NetLaws.{nets-orderly, order→spanning, spanning→order, starts-inside, order-length}
use Rattle.leftedge.proofs.NetFill.{nets-stuck}
use Rattle.leftedge.specs.Tables.{FillBegins, end_of, FillEnds}
use Rattle.leftedge.specs.FollowLaws.{own-net}
use Rattle.leftedge.specs.Code.{outcome_of, ring_held, tracks_by, FillDone, NetsBegin, RingShown, WalkFrom}

module _ {ch : Channel} {first last left tracks : List ℕ} {count : ℕ}
    (b : NetsBegin ch first last left count tracks) where
  abbrev esc : Escapes ch
  esc = b.only.escapes

  pub nets-begin : {head next under : List ℕ} → StepsLinked ch.top ch.bot head next under → length head ≡ 512
      → length under ≡ 512 → FillBegins (net_items ch) first last [] ch.top head next under left count tracks
  unfolding net_items
  nets-begin {head} {next} {under} l h u =
      let steps = nets-stepped b.only (fill_order ch) head next under l (order→spanning ch)
      (spanning→order ch esc.even) in
      let few = order-length ch esc in
      let size = (spanning-small ch).2 in
      let count-few = b.counted in
      record {
        orderly = nets-orderly ch esc;
        tabled = record {
          stepped = steps.stepped;
          fits = λ m n k j apart. sym (rw (last_of m (low m k), first_of n (low n j)) (own-net m n _ _ apart));
          starts = λ n m. let e = first_of n (low n m) in
              let s = starts-inside ch esc.even n (order→spanning ch n m) in omega arith;
          number = λ n m. let k = low n m in (
            rw b.columns.begins (omega (arith, length-map-from (first_column ch) 512)),
            rw b.columns.ends (omega (arith, length-map-from (last_column ch) 512)),
            omega arith,
          );
        };
        held = record {
          waits = λ n. steps.counted n ∙ sym (waiting_none (is_placed []) (λ e. unfold is_placed any_of in refl) _);
          tracked = λ n k. unfold track_of in (ap (λ (l : List ℕ). get_or l n 0) b.bare ∙ get_or-zeros 512 n);
          number = λ n m. let k = low n m in (
            omega arith,
            rw b.bare (omega (
              arith,
              length-replicate {A = ℕ} 512
                  0,
            )),
          );
        };
        order = b.order;
        counted = b.counted;
        fits = b.fits;
        few = omega arith;
      }
    where
      low : (n : ℕ) → Memᴰ n (fill_order ch) → n < 512
      low n m = (spanning-small ch).1 n (order→spanning ch n m)

      first_of : (n : ℕ) → n < 512 → get_or first n 0 ≡ first_column ch n
      first_of = numbered-at (first_column ch) 512 b.columns.begins

      last_of : (n : ℕ) → n < 512 → get_or last n 0 ≡ last_column ch n
      last_of = numbered-at (last_column ch) 512 b.columns.ends

-- which fill ends so
end-placed : (f : Filling) (t : ℕ) → ends.Placed t ≡ end_of f → (ps : List Place) × (f ≡ filled t ps)
unfolding end_of
end-placed (filled k ps) t e = let same : t ≡ k = cc in (ps, ap (λ (j : ℕ). filled j ps) (sym same))
end-placed (stuck ls) t e = absurd (let z : ◌≡◌ {A = ℕ} 0 1 = cc in omega arith)

end-stuck : (f : Filling) (n : ℕ) → ends.Stuck n ≡ end_of f → (ls : List ℕ) × (n ≡ length ls) × (f ≡ stuck ls)
unfolding end_of
end-stuck (filled k ps) n e = absurd (let z : ◌≡◌ {A = ℕ} 0 1 = cc in omega arith)
end-stuck (stuck ls) n e = let same : n ≡ length ls = cc in (ls, same, refl)

-- every net is placed
pub placed-done : {ch : Channel} {q : ItemsFilled} {left tracks : List ℕ} {t : ℕ} {ring ring' : List ℕ} {r : Filled}
    {s : Spans}
    → FillEnds (net_items ch) (fill ch) q left tracks → q.end ≡ ends.Placed t → length tracks ≡ 512 → ring' ≡ ring
    → r.outcome ≡ Placed t → SpansFound ch s → r.looks ≡ q.looks → FillDone ch ring r s tracks ring'
unfolding outcome_of ring_held tracks_by looks
placed-done {ch} {tracks = tracks} {t = t} e is long untouched outcome spans seen =
    let f = end-placed (fill ch) t (sym is ∙ e.end) in
    let placed = numbered (track_of f.0) 512 tracks long (λ n k. e.placed t f.0 f.1 n (omega arith)) in
    record {
      outcome = rw f.1 outcome;
      spans = spans;
      tracks = rw f.1 placed;
      looks = seen ∙ e.looks;
      held = rw f.1 untouched;
    }

-- the fill is stuck, and the ring is shown
module _ {ch : Channel} (only : NetsOnly ch) {q : ItemsFilled} {left tracks : List ℕ} {n : ℕ}
    (e : FillEnds (net_items ch) (fill ch) q left tracks) (is : q.end ≡ ends.Stuck n) where
  found : (ls : List ℕ) × (n ≡ length ls) × (fill ch ≡ stuck ls)
  found = end-stuck (fill ch) n (sym is ∙ e.end)

  shown-left : take n left ≡ found.0
  shown-left = ap (λ (k : ℕ). take k left) found.1 ∙ e.left found.0 found.2

  stuck_there : fill ch ≡ stuck (take n left)
  stuck_there = found.2 ∙ ap stuck (sym shown-left)

  -- so many stand at the front of those left
  pub left-fits : n ≤ length left
  left-fits = let l = length-take n left in let s = ap length shown-left in let q = found.1 in omega arith

  pub walk_begins : WalkFrom ch tracks (take n left)
  walk_begins =
      record {
        only = only;
        stuck-with = nets-stuck ch only.escapes (take n left) stuck_there;
        unplaced = λ m k. subst (λ (l : List ℕ). (get_or tracks m 0 ≡ 0) ↔ Memᴰ m l) (sym shown-left)
            (e.unplaced found.0 found.2 m (spanning→order ch only.escapes.even m k));
      }

  pub stuck-done : {ring before after ring' : List ℕ} {r : Filled} {s : Spans} {bare : List ℕ} {pairs : ℕ}
      → before ≡ ring
      → RingShown ch (take n left) before pairs after → ring' ≡ after → r.outcome ≡ Stuck pairs
      → SpansFound ch s → bare ≡ replicate 512 0 → r.looks ≡ q.looks → FillDone ch ring r s bare ring'
  unfolding outcome_of ring_held tracks_by looks
  stuck-done untouched shown stays outcome spans none seen =
      record {
        outcome = rw stuck_there (outcome ∙ ap Stuck shown.counted);
        spans = spans;
        tracks = rw stuck_there none;
        looks = seen ∙ e.looks;
        held = rw stuck_there (stays ∙ (shown.shown ∙ ap (overlay (ring_numbers (ring_of (net_items ch) (take n left))))
            untouched));
      }
