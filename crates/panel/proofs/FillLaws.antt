-- The nets of a panel are two halves, the second of which always fits after the first: its columns follow. So where
-- each list alone is filled, the panel is, with each net on the track that it has alone.
use Rattle.std.specs.Prelude.{ℕ, ◌≡◌, length, T}
use Rattle.std.proofs.Common.{arith, ◌∙◌}
use Rattle.std.proofs.Math.Path.{sym, ap, ap₂}
use mathlib.Core.List.{List, ◌++◌, map, Memᴰ, map-id}
use Rattle.std.proofs.Math.Dec.{ltb, lt→ltb}
use Rattle.channel.specs.Channel.{Channel, width, is_net, first_column, last_column}
use Rattle.channel.specs.Constraints.{below}
use Rattle.channel.proofs.Laws.{columns-inside, net-positive}
use Rattle.channel.proofs.SpanLaws.{spanning→}
use Rattle.leftedge.specs.Nets.{net_items}
use Rattle.leftedge.proofs.HalfLaws.{PartOf, Halves}
use Rattle.leftedge.proofs.NetLaws.{order→spanning, starts-inside}
use Rattle.panel.specs.Joined.{highest, raised, joined, Fits}
use Rattle.panel.specs.RaiseLaws.{raised-some, raised-apart}
use Rattle.panel.proofs.JoinLaws.{net≤highest}
use Rattle.panel.proofs.PartLaws.{first-first, last-first, first-second, last-second, below-first, below-second}
use Rattle.panel.proofs.NetLaws.{less-sum, order-both}

module _ {ch dh : Channel} (fit : Fits ch dh) where
  abbrev both : Channel
  both = joined ch dh

  abbrev up : ℕ → ℕ
  up = raised (highest ch)

  even₁ : length ch.bot ≡ width ch
  even₁ = fit.first.even

  even₂ : length dh.bot ≡ width dh
  even₂ = fit.second.even

  net-of : (ch : Channel) (n : ℕ) → Memᴰ n (net_items ch).order → T (is_net ch n)
  net-of ch n m = (spanning→ ch n (order→spanning ch n m)).0.is_net

  first_part : PartOf (net_items both) (net_items ch) (λ n. n)
  unfolding net_items
  first_part =
      record {
        apart = λ m n e. e;
        fits = λ m n hm hn.
            ap₂ ltb (last-first ch dh even₁ m (net-of ch m hm)) (first-first ch dh even₁ n (net-of ch n hn));
        below = λ n hn. below-first ch dh even₁ n (net-of ch n hn) ∙ sym (map-id (below ch n));
      }

  second-part : PartOf (net_items both) (net_items dh) up
  unfolding net_items
  second-part =
      record {
        apart = raised-apart (highest ch);
        fits = λ m n hm hn.
            ap₂ ltb (last-second ch dh even₁ m (net-of dh m hm) even₂)
            (first-second ch dh even₁ n (net-of dh n hn) even₂)
            ∙ less-sum (width ch) (last_column dh m) (first_column dh n);
        below = λ n hn. below-second ch dh even₁ n (net-of dh n hn);
      }

  pub panel-halves : Halves (net_items both) (net_items ch) (net_items dh) (λ n. n) up
  panel-halves =
      record { order = order; first = first_part; second = second-part; disjoint = disjoint; after = after }
    where
      order : (net_items both).order ≡ map (λ n. n) (net_items ch).order ++ map up (net_items dh).order
      order = unfold net_items in (
          order-both fit
          ∙ ap (λ (l : List ℕ). l ++ map up (net_items dh).order) (sym (map-id (net_items ch).order)))

      disjoint : (m n : ℕ) → Memᴰ m (net_items ch).order → Memᴰ n (net_items dh).order → m ≡ up n → ⊥
      disjoint m n hm hn e =
          let low = net≤highest ch even₁ m (net-of ch m hm) in
          let some = net-positive dh n (net-of dh n hn) in
          let r = raised-some (highest ch) n some in
          omega arith

      after : (m n : ℕ) → Memᴰ m (net_items ch).order → Memᴰ n (net_items dh).order
          → T ((net_items both).fits_after m (up n))
      after m n hm hn = unfold net_items in (
          let l = last-first ch dh even₁ m (net-of ch m hm) in
          let f = first-second ch dh even₁ n (net-of dh n hn) even₂ in
          let inside = (columns-inside ch m).1 in
          let starts = (starts-inside dh even₂ n (order→spanning dh n hn)).0 in
          lt→ltb (last_column both m) (first_column both (up n)) (omega arith))
