-- With its parked pins removed a channel has the same items to fill tracks with, so the same fill, looks and ring.
use Prim.Native.Nat.{ℕ}
use Rattle.std.proofs.Math.Path.{◌≡◌, refl, ap, ap₂, fun_ext}
use Rattle.std.proofs.Common.{◌∙◌}
use mathlib.Core.List.{List}
use Rattle.std.specs.Prelude.{Bool, length}
use Rattle.std.proofs.Math.Dec.{ltb}
use Rattle.lists.specs.Lists.{each, up_to, overlay}
use Rattle.channel.specs.Channel.{Channel, width, without_parked, first_column, last_column}
use Rattle.channel.specs.Constraints.{Drop, drops}
use Rattle.channel.specs.Spans.{Spans, SpansFound, starting}
use Rattle.channel.proofs.ShownLaws.{width-shown, first-shown, last-shown, firsts-shown, lasts-shown}
use Rattle.channel.proofs.ShownLaws.{starting-shown, drops-shown}
use Rattle.leftedge.specs.declared.Outcome.TheVariants.{Stuck}
use Rattle.leftedge.specs.declared.Filled.{Filled}
use Rattle.leftedge.specs.Items.{Items}
use Rattle.leftedge.specs.Fill.{Filling, filled, stuck, fill_items}
use Rattle.leftedge.specs.Walk.{ring_of, ring_numbers}
use Rattle.leftedge.specs.Looks.{item_looks}
use Rattle.leftedge.specs.Nets.{fill_order, net_items, fill, looks}
use Rattle.leftedge.specs.Code.{outcome_of, ring_held, tracks_by, FillDone}

module _ (ch : Channel) where
  abbrev shown : Channel
  shown = without_parked ch

  order-shown : fill_order shown ≡ fill_order ch
  unfolding fill_order
  order-shown =
      ap (λ (w : ℕ). each (starting shown) (up_to w)) (width-shown ch)
      ∙ ap (λ (s : ℕ → List ℕ). each s (up_to (width ch))) (fun_ext (starting-shown ch))

  pub items_shown : net_items shown ≡ net_items ch
  unfolding net_items
  items_shown =
      let fit : ◌≡◌ {A = ℕ → ℕ → Bool} (λ m n. ltb (last_column shown m) (first_column shown n))
      (λ m n. ltb (last_column ch m) (first_column ch n)) =
      fun_ext (λ m. fun_ext (λ n. ap₂ ltb (last-shown ch m) (first-shown ch n))) in
      ap {B = Items} (λ (l : List ℕ). record {
        order = l;
        fits_after = λ m n. ltb (last_column shown m) (first_column shown n);
        drops = drops shown;
      }) order-shown
      ∙ (ap {B = Items} (λ (f : ℕ → ℕ → Bool). record { order = fill_order ch; fits_after = f; drops = drops shown }) fit
      ∙ ap {B = Items} (λ (d : ℕ → List Drop). record {
        order = fill_order ch;
        fits_after = λ m n. ltb (last_column ch m) (first_column ch n);
        drops = d;
      }) (fun_ext (drops-shown ch)))

  pub fill-shown : fill shown ≡ fill ch
  unfolding fill
  fill-shown = ap fill_items items_shown

  pub looks-shown : looks shown ≡ looks ch
  unfolding looks
  looks-shown = ap item_looks items_shown

  -- what the code finds and fills of the rows that show nets only is the channel's
  spans-shown : {s : Spans} → SpansFound shown s → SpansFound ch s
  spans-shown h =
      record {
        first = h.first ∙ firsts-shown ch;
        last = h.last ∙ lasts-shown ch;
      }

  outcome-shown : (f : Filling) → outcome_of shown f ≡ outcome_of ch f
  unfolding outcome_of
  outcome-shown (filled t ps) = refl
  outcome-shown (stuck left) = ap (λ (it : Items). Stuck (length (ring_of it left))) items_shown

  held-shown : (f : Filling) (ring : List ℕ) → ring_held shown f ring ≡ ring_held ch f ring
  unfolding ring_held
  held-shown (filled t ps) ring = refl
  held-shown (stuck left) ring = ap (λ (it : Items). overlay (ring_numbers (ring_of it left)) ring) items_shown

  pub filled-shown : {ring ring' : List ℕ} {r : Filled} {s : Spans} {tracks : List ℕ}
      → FillDone shown ring r s tracks ring' → FillDone ch ring r s tracks ring'
  filled-shown {ring} h =
      record {
        outcome = h.outcome ∙ (outcome-shown (fill shown) ∙ ap (outcome_of ch) fill-shown);
        spans = spans-shown h.spans;
        tracks = h.tracks ∙ ap tracks_by fill-shown;
        looks = h.looks ∙ looks-shown;
        held = h.held ∙ (held-shown (fill shown) ring ∙ ap (λ (f : Filling). ring_held ch f ring) fill-shown);
      }
