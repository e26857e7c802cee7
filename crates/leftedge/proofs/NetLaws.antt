-- The nets of a channel as items: the order of the scan lists each net with a span once, by first column, and its spans
-- meet what is asked of items.
use Rattle.std.specs.Prelude.{ℕ, ◌≤◌, ◌<◌, ◌≡◌, refl, length, T}
use Rattle.std.proofs.Common.{arith, sym, ◌∙◌, ap, ltb→lt, lt→ltb}
use mathlib.Core.List.{Memᴰ}
use Rattle.lists.specs.Lists.{Distinct}
use Rattle.items.specs.Order.{sorted_by}
use Rattle.items.specs.OrderLaws.{sorted→, →sorted, sorted-distinct, sorted-length, sorted-split}
use Rattle.channel.specs.Channel.{Channel, width, first_column, last_column, spanning}
use Rattle.channel.specs.Constraints.{Above}
use Rattle.channel.specs.Answers.{Escapes}
use Rattle.channel.proofs.Laws.{drop→above, net→pin, pin-in-first, pin-after-first, pin-before-last}
use Rattle.channel.proofs.SpanLaws.{spanning→, spanning-small, lower-spans, upper-pin, lower-pin}
use Rattle.channel.specs.Spans.{starting}
use Rattle.leftedge.specs.Nets.{fill_order, net_items}
use Rattle.leftedge.specs.Invariants.{Falls, Before, Orderly}

-- the order is that of any items sorted by a key
pub order-sorted : (ch : Channel) → fill_order ch ≡ sorted_by (first_column ch) (spanning ch) (width ch)
unfolding fill_order starting sorted_by
order-sorted ch = refl

-- one that stands before another in the order starts no later
pub before-starts : (ch : Channel) (m n : ℕ) → Before m n (net_items ch).order → first_column ch m ≤ first_column ch n
unfolding net_items
before-starts ch m n b =
    sorted-split (first_column ch) (spanning ch) (width ch) b.front b.back (sym (order-sorted ch) ∙ b.split)
    b.earlier b.later

-- the order has the nets with spans, and no other
pub order→spanning : (ch : Channel) (n : ℕ) → Memᴰ n (net_items ch).order → Memᴰ n (spanning ch)
unfolding net_items
order→spanning ch n m = (sorted→ (first_column ch) (spanning ch) (width ch) (rw (order-sorted ch) at m)).0

-- they start within the channel
pub starts-inside : (ch : Channel) → length ch.bot ≡ width ch → (n : ℕ) → Memᴰ n (spanning ch)
    → (1 ≤ first_column ch n) × (first_column ch n ≤ width ch)
starts-inside ch even n m =
    let p = net→pin ch n even (spanning→ ch n m).0.is_net in
    let first = pin-in-first ch n p.0 p.1 in
    (first.first, first.last)

pub spanning→order : (ch : Channel) → length ch.bot ≡ width ch → (n : ℕ) → Memᴰ n (spanning ch)
    → Memᴰ n (net_items ch).order
unfolding net_items
spanning→order ch even n m =
    let s = starts-inside ch even n m in
    rw (order-sorted ch) (→sorted (first_column ch) (spanning ch) (width ch) m s.0 s.1)

pub order-length : (ch : Channel) → Escapes ch → length (fill_order ch) ≡ length (spanning ch)
order-length ch esc =
    ap length (order-sorted ch) ∙ sorted-length (first_column ch) (spanning ch) (width ch) (spanning-small ch).0
    (starts-inside ch esc.even)

-- "its first column exceeds the last column of the net placed before it"
pub fits-after→ : (ch : Channel) (m n : ℕ) → T ((net_items ch).fits_after m n) → last_column ch m < first_column ch n
unfolding net_items
fits-after→ ch m n h = ltb→lt (last_column ch m) (first_column ch n) h

pub →fits-after : (ch : Channel) (m n : ℕ) → last_column ch m < first_column ch n → T ((net_items ch).fits_after m n)
unfolding net_items
→fits-after ch m n h = lt→ltb (last_column ch m) (first_column ch n) h

pub falls→above : (ch : Channel) (a b c : ℕ) → Falls (net_items ch) a b c → Above ch a b c
unfolding net_items
falls→above ch a b c m = drop→above ch a (record { column = c; lower = b }) m

pub nets-orderly : (ch : Channel) → Escapes ch → Orderly (net_items ch)
nets-orderly ch esc = record { distinct = distinct; inside = inside; chained = chained; apart = apart }
  where
    distinct : Distinct (net_items ch).order
    distinct = unfold net_items in (
        rw (order-sorted ch) (sorted-distinct (first_column ch) (spanning ch) (width ch) (spanning-small ch).0))

    inside : (a b c : ℕ) → Memᴰ a (net_items ch).order → Falls (net_items ch) a b c
        → Memᴰ b (net_items ch).order
    inside a b c m f = spanning→order ch esc.even b (lower-spans ch esc (falls→above ch a b c f))

    chained : (l m n : ℕ) → Memᴰ m (net_items ch).order → T ((net_items ch).fits_after l m)
        → T ((net_items ch).fits_after m n) → T ((net_items ch).fits_after l n)
    chained l m n k h₁ h₂ =
        let s = (spanning→ ch m (order→spanning ch m k)).2 in
        let a = fits-after→ ch l m h₁ in
        let b = fits-after→ ch m n h₂ in
        →fits-after ch l n (omega arith)

    apart : (a b c : ℕ) → Falls (net_items ch) a b c → T ((net_items ch).fits_after b a) → ⊥
    apart a b c f h =
        let ab = falls→above ch a b c f in
        let x = pin-after-first ch a c (upper-pin ch esc ab) in
        let y = pin-before-last ch b c (lower-pin ch esc ab) in
        let z = fits-after→ ch b a h in
        omega arith
