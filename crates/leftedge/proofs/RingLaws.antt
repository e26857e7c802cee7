-- The ring that the code shows is the walk's. Of each net left the column kept is that of its first drop, so the code's
-- walk and the definition's are one, and the part from the first visit of the net met again on is the walk from that
-- net until it is met.
use Prim.Native.Nat.{ℕ, zero, suc, ◌+◌, ◌*◌, ◌≤◌, ◌<◌}
use Rattle.std.proofs.Common.{arith, ◌∙◌, eqb→eq, eq-eqb, ne_eqb}
use Rattle.std.specs.Prelude.{◌≡◌, ◌&&◌, length, drop, get_or}
use Rattle.std.proofs.Math.Path.{refl, sym, ap, subst}
use mathlib.Core.List.Memᴰ
use mathlib.Core.List.{List, [], ◌∷◌, ◌++◌, map, Memᴰ}
use Rattle.std.proofs.Math.Bool.{Bool, true, false}
use Rattle.std.proofs.lemmas.List.{length-map}
use Rattle.std.proofs.Math.Dec.{T, eqb, eqb_refl}
use Rattle.lists.specs.Lists.{keep, is_in, up_to, head_or, at, least, overlay, Distinct}
use Rattle.lists.specs.Tests.{same_test, T→true, true→T, fails→false}
use Rattle.lists.specs.Members.{is_in→member, member→is_in, in-up_to}
use Rattle.lists.specs.Pigeonhole.{distinct_head, distinct_tail, pigeonhole}
use Rattle.lists.specs.Ends.{get_or-member}
use Rattle.lists.specs.Places.{keep-keep, length_from}
use Rattle.lists.specs.Arrays.{numbered-at}
use Rattle.channel.specs.Channel.{Channel, width}
use Rattle.channel.specs.Constraints.{above, Drop, drops, Step, nets_of}
use Rattle.channel.proofs.Laws.{above→}
use Rattle.channel.proofs.SpanLaws.{spanning→, above-column, lower-spans}
use Rattle.channel.specs.Spans.{each512}
use Rattle.channel.specs.Nets.{IsNet}
use Rattle.leftedge.specs.Items.{Items}
use Rattle.leftedge.specs.Walk.{first_drop, from_visit, walk, ring_of, ring_numbers}
use Rattle.leftedge.specs.Nets.{net_items}
use Rattle.leftedge.proofs.WalkLaws.{first-drop, least-left}
use Rattle.leftedge.proofs.NetLaws.{order→spanning, falls→above}
use Rattle.leftedge.specs.Code.{WalkFrom, RingShown}
use Rattle.leftedge.specs.Ring.{over_wanted, lowest_over, bare, lowest_drop, net_below, after, met, pair_of, steps_by}
use Rattle.leftedge.specs.RingLists.{keep_same, keep-map, steps-more}
use Rattle.leftedge.specs.Ring.{Confines, Closes}
use Rattle.leftedge.specs.TrailLaws.{length-met, get_or-met, drop-met, met-distinct, after-inside, met-few}

-- the drop in column c
abbrev pub drop_in : List ℕ → ℕ → Drop
drop_in bot c = record { column = c; lower = at bot c }

-- the first of some drops
pub head-drop : (bot : List ℕ) (cs : List ℕ) → head_or (record { column = 0; lower = 0 }) (map (drop_in bot) cs) ≡ drop_in bot
    (head_or 0 cs)
unfolding head_or at
head-drop bot [] = refl
head-drop bot (c ∷ cs) = refl

nets-by : (columns ns : List ℕ) → nets_of (steps_by columns ns) ≡ ns
nets-by columns [] = refl
nets-by columns (n ∷ ns) = ap (λ (l : List ℕ). n ∷ l) (nets-by columns ns)

-- of different nets, the steps from the visit of the net at place i on are those from place i on
from_place : (columns ns : List ℕ) (i n : ℕ) → Distinct ns → i < length ns → get_or ns i 0 ≡ n
    → from_visit n (steps_by columns ns) ≡ steps_by columns (drop i ns)
unfolding from_visit
from_place columns [] i n d h e = absurd (omega arith)
from_place columns (m ∷ ns) zero n d h e = rw (eq-eqb m n e)
from_place columns (m ∷ ns) (suc i) n d h e =
    let apart : m ≡ n → ⊥ = λ q. distinct_head m ns d (Memᴰ.cast (q ∙ sym e) (get_or-member ns i (omega arith))) in
    rw (ne_eqb m n apart) (from_place columns ns i n (distinct_tail m ns d) (omega arith) e)

module _ (it : Items) (left : List ℕ) where
  -- a walk stops at a net that it has met, and else goes by the net's first drop
  walk-stops : (fuel : ℕ) (trail : List Step) (n : ℕ) → Memᴰ n (nets_of trail)
      → walk fuel it left trail n ≡ from_visit n trail
  unfolding walk
  walk-stops zero trail n m = refl
  walk-stops (suc fuel) trail n m = rw (T→true (is_in n (nets_of trail)) (member→is_in m))

  walk-goes : (fuel : ℕ) (trail : List Step) (n : ℕ) (d : Drop) → (Memᴰ n (nets_of trail) → ⊥)
      → first_drop it left n ≡ d → walk (suc fuel) it left trail n ≡ walk fuel it left
      (trail ++ (record { net = n; column = d.column } ∷ [])) d.lower
  unfolding walk
  walk-goes fuel trail n d out e =
      rw (fails→false (is_in n (nets_of trail)) (λ t. out (is_in→member n (nets_of trail) t)))
      (ap (λ (x : Drop). walk fuel it left (trail ++ (record { net = n; column = x.column } ∷ [])) x.lower) e)

  -- a walk whose drops are by the columns kept comes along the nets met, until one is met again
  module _ (columns : List ℕ) (next : ℕ → ℕ) (start steps : ℕ)
      (by : (k : ℕ) → first_drop it left (after next start k) ≡ record
      { column = get_or columns (after next start k) 0; lower = next (after next start k) })
      (unmet : (k : ℕ) → k < steps → Memᴰ (after next start k) (met next start k) → ⊥)
      (again : Memᴰ (after next start steps) (met next start steps)) where
    walk-met : (j k fuel : ℕ) → j + k ≡ steps → steps ≤ fuel + k
        → walk fuel it left (steps_by columns (met next start k)) (after next start k) ≡ from_visit
        (after next start steps) (steps_by columns (met next start steps))
    walk-met zero k fuel e h =
        let here : k ≡ steps = omega arith in
        rw here (walk-stops fuel (steps_by columns (met next start steps)) (after next start steps)
        (rw (nets-by columns (met next start steps)) again))
    walk-met (suc j) k zero e h = absurd (omega arith)
    walk-met (suc j) k (suc fuel) e h =
        walk-goes fuel (steps_by columns (met next start k)) (after next start k) _
        (rw (nets-by columns (met next start k)) (unmet k (omega arith))) (by k)
        ∙ (further ∙ walk-met j (suc k) fuel (omega arith) (omega arith))
      where
        further : walk fuel it left (steps_by columns (met next start k) ++ (pair_of columns (after next start k) ∷ []))
            (next (after next start k)) ≡ walk fuel it left (steps_by columns (met next start (suc k)))
            (after next start (suc k))
        further =
            unfold after met in (ap (λ (l : List Step). walk fuel it left l (next (after next start k)))
            (sym (steps-more columns (met next start k) (after next start k))))

module _ (ch : Channel) (tracks left : List ℕ) (w : WalkFrom ch tracks left) where
  -- a net below another has no track exactly if it is left
  free-below : (n c : ℕ) → (above ch n (at ch.bot c) c && is_in (at ch.bot c) left) ≡ over_wanted ch (bare tracks) n c
  unfolding over_wanted
  free-below n c = go (above ch n (at ch.bot c) c) refl
    where
      go : (t : Bool) → above ch n (at ch.bot c) c ≡ t
          → (t && is_in (at ch.bot c) left) ≡ (t && eqb (get_or tracks (at ch.bot c) 0) 0)
      go false e = refl
      go true e =
          let b = at ch.bot c in
          let u = w.unplaced b (lower-spans ch w.only.escapes (above→ ch n b c (true→T _ e))) in
          same_test _ _ (λ t. subst (λ (k : ℕ). T (eqb k 0)) (sym (u.1 (is_in→member b left t))) (eqb_refl 0))
          (λ t. member→is_in (u.0 (eqb→eq (get_or tracks b 0) 0 t)))

  -- the column kept is that of the first drop
  first-drop-kept : (n : ℕ) → first_drop (net_items ch) left n ≡ drop_in ch.bot (lowest_drop ch tracks n)
  unfolding first_drop net_items drops lowest_over
  first-drop-kept n =
      let on : ℕ → Bool = λ c. above ch n (at ch.bot c) c in
      ap (head_or (record { column = 0; lower = 0 }))
      (keep-map (λ d. is_in d.lower left) (drop_in ch.bot) (keep on (up_to (width ch))))
      ∙ (head-drop ch.bot _ ∙ ap (λ (cs : List ℕ). drop_in ch.bot (head_or 0 cs))
      (keep-keep (λ c. is_in (at ch.bot c) left) on (up_to (width ch)) ∙ keep_same _ _ (free-below n) (up_to (width ch))))

  left-net : (n : ℕ) → Memᴰ n left → IsNet ch n
  left-net n m = (spanning→ ch n (order→spanning ch n (w.stuck-with.items n m))).0

  left-few : length left ≤ 511
  left-few =
      let p = pigeonhole left (up_to 511) w.stuck-with.distinct
      (λ n m. let h = left-net n m in in-up_to 511 n h.positive h.low) in
      let l = length_from 1 511 in
      omega arith

  pub left-some : 0 < length left
  left-some = w.stuck-with.some_left

  module _ (columns : List ℕ) (e : columns ≡ each512 (lowest_drop ch tracks)) where
    column-kept : (n : ℕ) → Memᴰ n left → first_drop (net_items ch) left n ≡ drop_in ch.bot (get_or columns n 0)
    column-kept n m =
        let low = (left-net n m).low in
        first-drop-kept n ∙ sym (ap (drop_in ch.bot)
        (numbered-at (lowest_drop ch tracks) 512 e n (omega arith)))

    -- the walk never leaves the nets left
    pub left-confines : Confines ch.bot columns (least left) left
    left-confines =
        record {
          few = left-few;
          low = λ n m. let h = (left-net n m).low in
              omega arith;
          begins = least-left (net_items ch) left w.stuck-with;
          column = column;
          stays = stays;
        }
      where
        column : (n : ℕ) → Memᴰ n left → (1 ≤ get_or columns n 0) × (get_or columns n 0 ≤ length ch.bot)
        column n m =
            let f = (first-drop (net_items ch) left w.stuck-with n m).0 in
            let c = above-column ch w.only.escapes (falls→above ch n _ _ f) in
            let same = ap (λ (d : Drop). d.column) (column-kept n m) in
            let even = w.only.escapes.even in
            omega arith

        stays : (n : ℕ) → Memᴰ n left → Memᴰ (net_below ch.bot columns n) left
        stays n m =
            Memᴰ.cast (sym (ap (λ (d : Drop). d.lower) (column-kept n m)))
            (first-drop (net_items ch) left w.stuck-with n m).1

    module _ {again pairs : ℕ} (t : Closes (net_below ch.bot columns) (least left) again pairs) where
      abbrev down : ℕ → ℕ
      down = net_below ch.bot columns

      -- nor does it from the net met again
      pub again-confines : Confines ch.bot columns again left
      again-confines =
          let c = left-confines in
          record {
            few = c.few;
            low = c.low;
            begins = Memᴰ.cast t.first (after-inside down (least left) left c.begins c.stays t.place);
            column = c.column;
            stays = c.stays;
          }

      steps-few : t.steps ≤ length left
      steps-few = met-few down (least left) left left-confines.begins left-confines.stays t.steps t.unmet

      pub pairs-few : pairs ≤ 511
      pairs-few = let a = steps-few in let b = left-few in let s = t.split in omega arith

      pub pairs-fit : {room : ℕ} → 1022 ≤ room → 2 * pairs ≤ room
      pairs-fit h = let f = pairs-few in omega arith

      abbrev nets : List ℕ
      nets = met down (least left) t.steps

      first-place : get_or nets t.place 0 ≡ again
      first-place =
          let s = t.split in let p = t.some in
          get_or-met down (least left) t.steps t.place (omega arith) ∙ sym t.first

      inside : t.place < length nets
      inside = let s = t.split in let p = t.some in omega (arith, length-met down (least left) t.steps)

      walked : ring_of (net_items ch) left ≡ from_visit again (steps_by columns nets)
      walked =
          unfold ring_of after met in
          (walk-met (net_items ch) left columns down (least left) t.steps
          (λ k. column-kept _ (after-inside down (least left) left left-confines.begins left-confines.stays k))
          t.unmet (Memᴰ.cast (sym t.second ∙ sym first-place) (get_or-member nets t.place inside)) t.steps 0
          (length left) (omega arith) (let few = steps-few in omega arith)
          ∙ ap (λ (n : ℕ). from_visit n (steps_by columns nets)) (sym t.second))

      -- the walk's ring is the walk from the net met again until it is met
      pub ring-closed : steps_by columns (met down again pairs) ≡ ring_of (net_items ch) left
      ring-closed =
          ap (λ (n : ℕ). steps_by columns (met down n pairs)) t.first
          ∙ (ap (steps_by columns) (sym (drop-met down (least left) t.place pairs)
          ∙ ap (λ (k : ℕ). drop t.place (met down (least left) k)) t.split)
          ∙ (sym (from_place columns nets t.place again (met-distinct down (least left) t.steps t.unmet) inside
          first-place) ∙ sym walked))

      -- so it is shown
      pub ring-shown : {ring ring' : List ℕ}
          → ring' ≡ overlay (ring_numbers (steps_by columns (met down again pairs))) ring
          → RingShown ch left ring pairs ring'
      ring-shown {ring} e =
          record {
            counted =
                sym (length-met down again pairs) ∙ (sym (length-map (met down again pairs) (pair_of columns))
                ∙ ap (λ (ss : List Step). length ss) ring-closed);
            shown = e ∙ ap (λ (ss : List Step). overlay (ring_numbers ss) ring) ring-closed;
          }
