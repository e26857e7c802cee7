-- No net is above the highest number of the rows. The nets with spans are the numbers, as far as that, whose first
-- column is before their last; and as items with spans their density is the channel's.
use Rattle.std.specs.Prelude.{ℕ, max, ◌+◌, ◌-◌, ◌≤◌, ◌<◌, ◌≡◌, refl, Bool, length, take, T, ltb}
use Rattle.std.proofs.Common.{arith, sym, ◌∙◌, ⊎_elim}
use Rattle.std.proofs.Math.Path.{ap}
use mathlib.Core.List.{List, [], ◌∷◌, Memᴰ}
use Rattle.std.proofs.Math.ListN.{replicate}
use Rattle.std.proofs.lemmas.List.{length-replicate, take-replicate}
use Rattle.lists.specs.Lists.{keep, up_to, last_or, greatest}
use Rattle.lists.specs.Members.{keep-member, kept, up_to-member, in-up_to}
use Rattle.lists.specs.Ends.{from-rising, keep-rising}
use Rattle.lists.specs.Greatest.{at≤greatest, greatest≤}
use Rattle.lists.specs.Pigeonhole.{length-keep}
use Rattle.lists.specs.Arrays.{length-map-from, get_or-numbered}
use Rattle.lists.specs.Unique.{rising-unique}
use Rattle.items.specs.Order.{by_number, sorted_by, Sortable}
use Rattle.items.specs.OrderLaws.{sorted-same}
use Rattle.items.specs.Density.{densest, Spanned}
use Rattle.items.specs.DensityLaws.{densest-same}
use Rattle.channel.specs.Channel.{Channel, width, widest, highest_net, pin_columns, first_column, last_column, nets}
use Rattle.channel.specs.Channel.{is_net, has_span, spanning}
use Rattle.channel.specs.Density.{density}
use Rattle.channel.specs.Answers.{Escapes}
use Rattle.channel.specs.Spans.{firsts, lasts}
use Rattle.channel.proofs.EscapeLaws.{top-low, bot-low}
use Rattle.channel.proofs.Laws.{pin-column, net→pin, pin-in-first, pin-in-last}
use Rattle.channel.proofs.SpanLaws.{span-strict, spanning→, →spanning, spanning-rising, pin→net}
use Rattle.channel.specs.CountLaws.{nets-few}
use Rattle.channel.specs.Nets.{PinIn}
use Rattle.channel.proofs.DensityLaws.{density-densest}

-- number n has a span, by tables of first and of last columns
abbrev pub spans_by : List ℕ → List ℕ → ℕ → Bool
spans_by first last n = ltb (by_number first n) (by_number last n)

-- those of the numbers from 1 to n
abbrev pub spans_to : List ℕ → List ℕ → ℕ → List ℕ
spans_to first last n = keep (spans_by first last) (up_to n)

-- what the tables have of number n
columns : (ch : Channel) (n : ℕ) → n ≤ highest_net
    → (by_number (firsts ch) n ≡ first_column ch n) × (by_number (lasts ch) n ≡ last_column ch n)
columns ch n l =
    (get_or-numbered (first_column ch) 512 n (omega arith), get_or-numbered (last_column ch) 512 n (omega arith))

-- a number with a last column has a pin in some column
last→pin : (ch : Channel) (n : ℕ) → 0 < last_column ch n → (c : ℕ) × PinIn ch n c
unfolding last_column last_or
last→pin ch n some = go (pin_columns ch n) refl
  where
    go : (cs : List ℕ) → pin_columns ch n ≡ cs → (c : ℕ) × PinIn ch n c
    go [] q = absurd (omega (arith, ap (last_or 0) q))
    go (c ∷ cs) q = (c, pin-column ch n c (rw q (Memᴰ.head refl)))

-- no number of the rows is above h, which is itself no higher than a net's may be
pub record Highest (ch : Channel) (h : ℕ) : Type 0 where
  pub low : h ≤ highest_net
  pub tops : greatest ch.top ≤ h
  pub bots : greatest ch.bot ≤ h

module _ (ch : Channel) (esc : Escapes ch) where
  -- what one row's greatest number, and then the other's, comes to is such a number
  pub highest-of : (u h : ℕ) → u ≡ max 0 (greatest ch.top) → h ≡ max u (greatest ch.bot) → Highest ch h
  highest-of u h e f =
      let t = greatest≤ ch.top highest_net (λ k. top-low ch k esc) in
      let b = greatest≤ ch.bot highest_net (λ k. bot-low ch k esc) in
      record { low = omega arith; tops = omega arith; bots = omega arith }

  module _ {h : ℕ} (most : Highest ch h) where
    pub net≤highest : (n : ℕ) → T (is_net ch n) → n ≤ h
    net≤highest n t =
        let p = net→pin ch n esc.even t in
        ⊎_elim (λ e. omega (arith, at≤greatest ch.top p.0, most.tops))
        (λ e. omega (arith, at≤greatest ch.bot p.0, most.bots)) p.1.pin

    pub spanning-numbers : spans_to (firsts ch) (lasts ch) h ≡ spanning ch
    unfolding has_span
    spanning-numbers =
        rising-unique _ _ (keep-rising _ (up_to h) (from-rising 1 h)) (spanning-rising ch) to-spanning of-spanning
      where
        by-table : (n : ℕ) → n ≤ h → spans_by (firsts ch) (lasts ch) n ≡ has_span ch n
        by-table n l = let t = columns ch n (omega (arith, most.low)) in rw (t.0, t.1)

        to-spanning : (n : ℕ) → Memᴰ n (spans_to (firsts ch) (lasts ch) h) → Memᴰ n (spanning ch)
        to-spanning n m =
            let k = keep-member (spans_by (firsts ch) (lasts ch)) (up_to h) m in
            let r = up_to-member h k.0 in
            let s = span-strict ch n (rw (by-table n r.1) at k.1) in
            let p = last→pin ch n (omega arith) in
            →spanning ch n (pin→net ch esc n p.0 p.1) s

        of-spanning : (n : ℕ) → Memᴰ n (spanning ch) → Memᴰ n (spans_to (firsts ch) (lasts ch) h)
        of-spanning n m =
            let s = spanning→ ch n m in
            let l = net≤highest n s.0.is_net in
            kept _ (in-up_to h n s.0.positive l) (rw (by-table n l) s.1)

-- counts for columns 0 to w before anything is counted, lent from those of the widest channel
unfoldable pub no_counts : ℕ → List ℕ
no_counts w = take (w + 1) (replicate 513 0)

module _ (w : ℕ) (narrow : w ≤ widest) where
  no-counts : no_counts w ≡ replicate (w + 1) 0
  unfolding no_counts
  no-counts = take-replicate (w + 1) 513 0 (omega arith)

  pub counts-long : length (no_counts w) ≡ w + 1
  counts-long = rw no-counts (length-replicate {A = ℕ} (w + 1) 0)

-- the nets with spans, listed with their columns by number, as items with spans
module _ (ch : Channel) (esc : Escapes ch) {items first last : List ℕ} (listed : items ≡ spanning ch)
    (begins : first ≡ firsts ch) (ends : last ≡ lasts ch) where
  pub net-items : Spanned items first last (no_counts (width ch)) (no_counts (width ch))
  unfolding spanning
  net-items =
      let long = counts-long (width ch) esc.narrow in
      let none = no-counts (width ch) esc.narrow ∙ ap (λ (k : ℕ). replicate k 0) (sym long) in
      rw (listed, begins, ends) (record {
        few = omega (arith, length-keep (has_span ch) (nets ch), nets-few ch);
        even = refl;
        number = λ n m. let l = (spanning→ ch n m).0.low in
            omega (arith, length-map-from (first_column ch) 512, length-map-from (last_column ch) 512);
        span = λ n m. let s = spanning→ ch n m in
            let p = net→pin ch n esc.even s.0.is_net in
            let t = columns ch n s.0.low in
            omega (arith, (pin-in-first ch n p.0 p.1).first, (pin-in-last ch n p.0 p.1).last);
        none-starts = none;
        none-ends = none;
      })

  pub items-density : {r : ℕ}
      → r ≡ densest (by_number first) (by_number last) items (length (no_counts (width ch)) - 1) → r ≡ density ch
  items-density counted =
      let long : length (no_counts (width ch)) - 1 ≡ width ch = omega (arith, counts-long (width ch) esc.narrow) in
      rw (counted, listed, begins, ends, long) (densest-same _ _ (first_column ch) (last_column ch) (spanning ch)
      (λ n m. columns ch n (spanning→ ch n m).0.low) (width ch) ∙ sym (density-densest ch))

  -- they may be sorted, which makes the order of the nets themselves
  pub net-sortable : {next : List ℕ} → length next ≡ 513 → Sortable items first (no_counts (width ch)) next
  net-sortable long =
      let s = net-items in
      record {
        rising = rw listed (spanning-rising ch);
        number = λ n m. let l = (spanning→ ch n (rw listed at m)).0 in
            (l.positive, (s.number n m).0, omega (arith, l.low));
        small = λ n m. omega (arith, (spanning→ ch n (rw listed at m)).0.low);
        column = λ n m. let e = s.span n m in (e.0, omega arith);
        empty = s.none-starts;
      }

  pub net-sorted : sorted_by (by_number first) items (length (no_counts (width ch)) - 1) ≡ sorted_by (first_column ch)
      (spanning ch) (width ch)
  net-sorted =
      let long : length (no_counts (width ch)) - 1 ≡ width ch = omega (arith, counts-long (width ch) esc.narrow) in
      rw (listed, begins, long) (sorted-same _ (first_column ch) (spanning ch) (width ch)
      (λ n m. (columns ch n (spanning→ ch n m).0.low).0))
