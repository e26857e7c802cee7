-- With its parked pins removed a channel has the same nets, in the same columns, and the same ones above each other; so
-- spans, density, chain and rings are the same. And then every number of its rows but 0 names a net.
use Prim.Native.Nat.{ℕ, zero, suc, ◌+◌, ◌-◌, ◌≤◌, ◌<◌}
use Rattle.std.proofs.Common.{arith, sym, ◌∙◌, subst, inl, inr, ⊎_elim, eqb→eq}
use Rattle.std.specs.Prelude.{◌≡◌, ◌↔◌, ◌⊎◌, T, leb}
use Rattle.std.proofs.Math.Path.{refl, ap}
use mathlib.Core.List.{List, map, map-append, Memᴰ}
use Rattle.std.proofs.Math.Bool.{cond}
use Rattle.std.proofs.Math.ListN.{length, length-map}
use Rattle.std.proofs.Math.Dec.{eqb}
use Rattle.lists.specs.Lists.{keep, up_to, greatest, at}
use Rattle.lists.specs.Tests.{T→true, fails→false, same_test, eq→T, passes?}
use Rattle.lists.specs.Members.{keep-member}
use Rattle.lists.specs.Ends.{at_map, at-inside, member-at}
use Rattle.lists.specs.Ranges.{fails→none-kept, length-keep-map}
use Rattle.lists.specs.Arrays.{numbered-same}
use Rattle.lists.specs.Tallies.{keep_same}
use Rattle.lists.specs.Updates.{map_same}
use Rattle.channel.specs.Channel.{Channel, width, positions, pin_count, is_parked, is_net, unless_parked}
use Rattle.channel.specs.Channel.{without_parked}
use Rattle.channel.specs.Channel.{stands, has_pin, first_column, last_column, nets, spanning}
use Rattle.channel.specs.Density.{density}
use Rattle.channel.specs.Constraints.{Above, above, Drop, drops, below, depth, chain, Step, Descends, last, next}
use Rattle.channel.specs.Constraints.{Tangled}
use Rattle.channel.specs.Answers.{Escapes}
use Rattle.channel.specs.Spans.{firsts, lasts, starting}
use Rattle.channel.specs.Parked.{NetsOnly}
use Rattle.channel.proofs.Laws.{net-positive, net-counted, counted-net, above→, →above, PinAmong, top-holds}
use Rattle.channel.proofs.Laws.{bot-holds}
use Rattle.channel.proofs.ParkedLaws.{parked-no-net, pin-parked}
use Rattle.channel.proofs.SameLaws.{SamePins, same_first, same-last, same-nets, same-spanning, same-density}

module _ (ch : Channel) where
  abbrev shown : Channel
  shown = without_parked ch

  itself : (n : ℕ) → (T (is_parked ch n) → ⊥) → unless_parked ch n ≡ n
  unfolding unless_parked
  itself n f = rw (fails→false (is_parked ch n) f)

  removed : (n : ℕ) → T (is_parked ch n) → unless_parked ch n ≡ 0
  unfolding unless_parked
  removed n t = rw (T→true (is_parked ch n) t)

  -- the number is left as it is, or removed
  left-or-removed : (n : ℕ) → ((T (is_parked ch n) → ⊥) × (unless_parked ch n ≡ n)) ⊎ (unless_parked ch n ≡ 0)
  left-or-removed n =
      elim (passes? (is_parked ch n)) [
        | inl t ↦ inr (removed n t)
        | inr f ↦ inl (f, itself n f)
      ]

  none_left : unless_parked ch 0 ≡ 0
  none_left = ⊎_elim (λ r. r.1) (λ z. z) (left-or-removed 0)

  pub top-shown : (c : ℕ) → at shown.top c ≡ unless_parked ch (at ch.top c)
  unfolding without_parked
  top-shown c = at_map (unless_parked ch) none_left ch.top c

  pub bot-shown : (c : ℕ) → at shown.bot c ≡ unless_parked ch (at ch.bot c)
  unfolding without_parked
  bot-shown c = at_map (unless_parked ch) none_left ch.bot c

  pub width-shown : width shown ≡ width ch
  unfolding without_parked
  width-shown = length-map ch.top (unless_parked ch)

  bot-length : length shown.bot ≡ length ch.bot
  unfolding without_parked
  bot-length = length-map ch.bot (unless_parked ch)

  -- where a net's number is left, it stood
  module _ (n x : ℕ) (net : T (is_net ch n)) where
    left→stood : unless_parked ch x ≡ n → x ≡ n
    left→stood e =
        let positive = net-positive ch n net in
        ⊎_elim (λ r. sym r.1 ∙ e) (λ z. absurd (omega arith)) (left-or-removed x)

    stood→left : x ≡ n → unless_parked ch x ≡ n
    stood→left e = itself x (λ t. parked-no-net ch x t (subst (λ (k : ℕ). T (is_net ch k)) (sym e) net)) ∙ e

    left-test : eqb (unless_parked ch x) n ≡ eqb x n
    left-test =
        same_test (eqb (unless_parked ch x) n) (eqb x n) (λ t. eq→T _ _ (left→stood (eqb→eq (unless_parked ch x) n t)))
        (λ t. eq→T _ _ (stood→left (eqb→eq x n t)))

    counted-test : eqb n (unless_parked ch x) ≡ eqb n x
    counted-test =
        same_test (eqb n (unless_parked ch x)) (eqb n x)
        (λ t. eq→T _ _ (sym (left→stood (sym (eqb→eq n (unless_parked ch x) t)))))
        (λ t. eq→T _ _ (sym (stood→left (sym (eqb→eq n x t)))))

  -- a net keeps its pins, and another number has none left
  count_left : (n : ℕ) → pin_count shown n ≡ length (keep (λ x. eqb n (unless_parked ch x)) (positions ch))
  unfolding pin_count without_parked
  count_left n =
      ap (λ (l : List ℕ). length (keep (eqb n) l)) (sym (map-append (unless_parked ch) ch.top ch.bot))
      ∙ length-keep-map (eqb n) (unless_parked ch) (positions ch)

  net-count : (n : ℕ) → T (is_net ch n) → pin_count shown n ≡ pin_count ch n
  unfolding pin_count
  net-count n net =
      count_left n ∙ ap length (keep_same (λ x. eqb n (unless_parked ch x)) (eqb n) (positions ch)
      (λ x m. counted-test n x net))

  other-count : (n : ℕ) → 0 < n → (T (is_net ch n) → ⊥) → pin_count shown n ≡ 0
  other-count n h other =
      count_left n ∙ ap length (fails→none-kept (λ x. eqb n (unless_parked ch x)) (positions ch)
      (λ x m t. let e = eqb→eq n (unless_parked ch x) t in
      let p = member-at m in
      ⊎_elim (λ r. let same = e ∙ r.1 in r.0 (subst (λ (k : ℕ). T (is_parked ch k)) same
      (pin-parked ch n p.0 h (record { in_row = p.1; holds = p.2 ∙ sym same }) other)))
      (λ z. omega arith) (left-or-removed x)))

  pub net-shown : (n : ℕ) → is_net shown n ≡ is_net ch n
  net-shown n = same_test (is_net shown n) (is_net ch n) before after
    where
      before : T (is_net shown n) → T (is_net ch n)
      before t =
          let many = net-counted shown n t in
          ⊎_elim (λ k. k) (λ f. let none = other-count n (net-positive shown n t) f in absurd (omega arith))
          (passes? (is_net ch n))

      after : T (is_net ch n) → T (is_net shown n)
      after t =
          counted-net shown n (net-positive ch n t)
          (subst (λ (k : ℕ). 1 < k) (sym (net-count n t)) (net-counted ch n t))

  pub stands-shown : (n c : ℕ) → T (is_net ch n) → stands shown n c ≡ stands ch n c
  stands-shown n c net =
      rw (top-shown c, bot-shown c, left-test n (at ch.top c) net, left-test n (at ch.bot c) net)

  -- the columns of a net, and the nets
  pin-shown : (n c : ℕ) → has_pin shown n c ≡ has_pin ch n c
  pin-shown n c =
      ⊎_elim (λ t. rw (net-shown n, stands-shown n c t)) (λ f. rw (net-shown n, fails→false (is_net ch n) f))
      (passes? (is_net ch n))

  same-pins : SamePins shown ch
  same-pins = record { wide = width-shown; net = net-shown; pin = pin-shown }

  pub first-shown : (n : ℕ) → first_column shown n ≡ first_column ch n
  first-shown = same_first same-pins

  pub last-shown : (n : ℕ) → last_column shown n ≡ last_column ch n
  last-shown = same-last same-pins

  pub firsts-shown : firsts shown ≡ firsts ch
  firsts-shown = numbered-same (first_column shown) (first_column ch) 512 (λ n below. first-shown n)

  pub lasts-shown : lasts shown ≡ lasts ch
  lasts-shown = numbered-same (last_column shown) (last_column ch) 512 (λ n below. last-shown n)

  pub spanning-shown : spanning shown ≡ spanning ch
  spanning-shown = same-spanning same-pins

  pub starting-shown : (c : ℕ) → starting shown c ≡ starting ch c
  unfolding starting
  starting-shown c =
      ap (keep (λ n. eqb (first_column shown n) c)) spanning-shown
      ∙ keep_same (λ n. eqb (first_column shown n) c) (λ n. eqb (first_column ch n) c) (spanning ch)
      (λ n m. ap (λ (k : ℕ). eqb k c) (first-shown n))

  pub density-shown : density shown ≡ density ch
  density-shown = same-density same-pins

  -- which net is above which
  pub shown→above : {a b c : ℕ} → Above shown a b c → Above ch a b c
  shown→above {a} {b} {c} h =
      let upper = subst T (net-shown a) h.upper in
      let lower = subst T (net-shown b) h.lower in
      record {
        on_top = left→stood a (at ch.top c) upper (sym (top-shown c) ∙ h.on_top);
        on_bot = left→stood b (at ch.bot c) lower (sym (bot-shown c) ∙ h.on_bot);
        upper = upper;
        lower = lower;
        different = h.different;
      }

  pub above→shown : {a b c : ℕ} → Above ch a b c → Above shown a b c
  above→shown {a} {b} {c} h =
      record {
        on_top = top-shown c ∙ stood→left a (at ch.top c) h.upper h.on_top;
        on_bot = bot-shown c ∙ stood→left b (at ch.bot c) h.lower h.on_bot;
        upper = subst T (sym (net-shown a)) h.upper;
        lower = subst T (sym (net-shown b)) h.lower;
        different = h.different;
      }

  drop-test : (n c : ℕ) → above shown n (at shown.bot c) c ≡ above ch n (at ch.bot c) c
  drop-test n c =
      same_test (above shown n (at shown.bot c) c) (above ch n (at ch.bot c) c)
      (λ t. let h = shown→above (above→ shown n (at shown.bot c) c t) in
      subst (λ (k : ℕ). T (above ch n k c)) (sym h.on_bot) (→above ch n (at shown.bot c) c h))
      (λ t. let h = above→shown (above→ ch n (at ch.bot c) c t) in
      subst (λ (k : ℕ). T (above shown n k c)) (sym h.on_bot) (→above shown n (at ch.bot c) c h))

  pub drops-shown : (n : ℕ) → drops shown n ≡ drops ch n
  unfolding drops
  drops-shown n =
      ap (λ (w : ℕ). map step (keep (λ c. above shown n (at shown.bot c) c) (up_to w))) width-shown
      ∙ (ap (map step) (keep_same (λ c. above shown n (at shown.bot c) c) (λ c. above ch n (at ch.bot c) c)
      (up_to (width ch)) (λ c m. drop-test n c))
      ∙ map_same step (λ c. record { column = c; lower = at ch.bot c })
      (keep (λ c. above ch n (at ch.bot c) c) (up_to (width ch))) same)
    where
      step : ℕ → Drop
      step c = record { column = c; lower = at shown.bot c }

      same : (c : ℕ) → Memᴰ c (keep (λ c. above ch n (at ch.bot c) c) (up_to (width ch)))
          → step c ≡ record { column = c; lower = at ch.bot c }
      same c m =
          let k = keep-member (λ c. above ch n (at ch.bot c) c) (up_to (width ch)) m in
          let h = above→shown (above→ ch n (at ch.bot c) c k.1) in
          ap {B = Drop} (λ (e : ℕ). record { column = c; lower = e }) h.on_bot

  depth-shown : (fuel n : ℕ) → depth fuel shown n ≡ depth fuel ch n
  unfolding depth
  depth-shown zero n = refl
  depth-shown (suc fuel) n =
      ap (λ (l : List ℕ). suc (greatest l))
      (ap (λ (l : List Drop). map (depth fuel shown) (map (λ (d : Drop). d.lower) l)) (drops-shown n)
      ∙ map_same (depth fuel shown) (depth fuel ch) (below ch n) (λ b m. depth-shown fuel b))

  pub chain-shown : chain shown ≡ chain ch
  unfolding chain
  chain-shown =
      let most = ap (λ (l : List ℕ). greatest (map (depth (suc (length (nets shown))) shown) l)) spanning-shown
      ∙ (ap (λ (l : List ℕ). greatest (map (depth (suc (length l)) shown) (spanning ch))) (same-nets same-pins)
      ∙ ap greatest (map_same (depth (suc (length (nets ch))) shown) (depth (suc (length (nets ch))) ch) (spanning ch)
      (λ n m. depth-shown (suc (length (nets ch))) n))) in
      ap (λ (m : ℕ). cond (leb m (length (nets shown))) m 0) most
      ∙ ap (λ (l : List ℕ). cond (leb (greatest (map (depth (suc (length (nets ch))) ch) (spanning ch))) (length l))
      (greatest (map (depth (suc (length (nets ch))) ch) (spanning ch))) 0) (same-nets same-pins)

  -- SCOPE, Req 04: "Tangled channels are those that stay so with the parked pins removed"
  pub tangled-shown : Tangled ch ↔ Tangled shown
  tangled-shown = (
    λ r. (r.0, record { distinct = r.1.distinct; closed = descends (λ a b c h. above→shown h) r.1.closed }),
    λ r. (r.0, record { distinct = r.1.distinct; closed = descends (λ a b c h. shown→above h) r.1.closed }),
  )
    where
      descends : {Over Under : ℕ → ℕ → ℕ → Type 0} {end : ℕ} {steps : List Step}
          → ((a b c : ℕ) → Over a b c → Under a b c) → Descends Over end steps → Descends Under end steps
      descends f (last h) = last (f _ _ _ h)
      descends f (next h d) = next (f _ _ _ h) (descends f d)

  module _ (esc : Escapes ch) where
    still-low : (n k : ℕ) → k ≡ unless_parked ch n → n ≤ 511 → k ≤ 511
    still-low n k e h = ⊎_elim (λ r. let z = r.1 in omega arith) (λ z. omega arith) (left-or-removed n)

    pub escapes-shown : Escapes shown
    escapes-shown =
        record {
          narrow = subst (λ (w : ℕ). w ≤ 512) (sym width-shown) esc.narrow;
          even = bot-length ∙ (esc.even ∙ sym width-shown);
          wide = subst (λ (w : ℕ). 0 < w) (sym width-shown) esc.wide;
          low = λ c. (
            still-low _ _ (top-shown c) (esc.low c).0,
            still-low _ _ (bot-shown c) (esc.low c).1,
          );
        }

    -- a number that stands in the rows and is left is a net's
    left-net : (n k i : ℕ) → (0 < n → PinAmong ch n i) → k ≡ unless_parked ch n → 0 < k → T (is_net shown k)
    left-net n k i stood e h =
        ⊎_elim (λ r. let same = e ∙ r.1 in let positive : 0 < n = subst (λ (j : ℕ). 0 < j) same h in
        subst T (sym (net-shown k)) (subst (λ (j : ℕ). T (is_net ch j)) (sym same)
        (⊎_elim (λ t. t) (λ f. absurd (r.0 (pin-parked ch n i positive (stood positive) f))) (passes? (is_net ch n)))))
        (λ z. absurd (omega arith)) (left-or-removed n)

    pub only-shown : NetsOnly shown
    only-shown =
        record {
          escapes = escapes-shown;
          on_top = λ c. left-net (at ch.top c) _ (c - 1) (λ h. let r = at-inside ch.top c h in
              top-holds ch _ c r.0 r.1 refl) (top-shown c);
          on_bot = λ c. left-net (at ch.bot c) _ (width ch + (c - 1)) (λ h. let r = at-inside ch.bot c h in
              bot-holds ch _ c esc.even r.0 (let l = r.1 in let e = esc.even in omega arith) refl)
              (bot-shown c);
        }
