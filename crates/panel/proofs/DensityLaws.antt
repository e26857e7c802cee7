-- The density of a panel is the larger of both: no span of one list holds a column of the other.
use Rattle.std.specs.Prelude.{ℕ, max, ◌+◌, ◌≤◌, ◌<◌, ◌≡◌, length, leb}
use native.Mathlib.Omega.{arith}
use Rattle.std.proofs.Math.Path.{sym, ap, ap₂}
use Rattle.std.proofs.Common.{◌∙◌, leb→le, le→leb}
use mathlib.Core.List.Memᴰ
use mathlib.Core.List.{List, ◌++◌, map, map-map, map-append, Memᴰ}
use Rattle.lists.specs.Lists.{up_to, greatest, within}
use Rattle.lists.specs.Tests.{same_test, within→}
use Rattle.lists.specs.Members.{up_to-member}
use Rattle.lists.specs.Parts.{up_to-two, greatest-append}
use Rattle.lists.specs.Ranges.{length-keep-map, fails→none-kept}
use Rattle.lists.specs.Tallies.{keep_same, length-keep-append}
use Rattle.lists.specs.Updates.{map_same}
use Rattle.channel.specs.Channel.{Channel, width, first_column, last_column, spanning}
use Rattle.channel.specs.Density.{Span, spans_over, spans_of, density}
use Rattle.channel.proofs.Laws.{columns-inside}
use Rattle.channel.proofs.SpanLaws.{spanning→}
use Rattle.leftedge.proofs.NetLaws.{starts-inside}
use Rattle.panel.specs.Joined.{highest, raised, joined, Fits}
use Rattle.panel.proofs.JoinLaws.{width-both}
use Rattle.panel.proofs.PartLaws.{first-first, last-first, first-second, last-second}
use Rattle.panel.proofs.NetLaws.{spanning-both}

at-most-sum : (d a b : ℕ) → leb (d + a) (d + b) ≡ leb a b
at-most-sum d a b =
    same_test (leb (d + a) (d + b)) (leb a b)
    (λ t. let h = leb→le (d + a) (d + b) t in le→leb a b (omega arith))
    (λ t. let h = leb→le a b t in le→leb (d + a) (d + b) (omega arith))

-- a span moved on by d columns
abbrev moved : ℕ → Span → Span
moved d s = record { first = d + s.first; last = d + s.last }

-- the span of a net
abbrev span_of : Channel → ℕ → Span
span_of ch n = record { first = first_column ch n; last = last_column ch n }

-- spans moved on hold the columns moved on, and as many
over-moved : (d c : ℕ) (spans : List Span) → spans_over (map (moved d) spans) (d + c) ≡ spans_over spans c
unfolding spans_over
over-moved d c spans =
    length-keep-map (λ s. within s.first (d + c) s.last) (moved d) spans
    ∙ ap length (keep_same (λ s. within (d + s.first) (d + c) (d + s.last)) (λ s. within s.first c s.last) spans
    (λ s m. rw (at-most-sum d s.first c, at-most-sum d c s.last)))

none_over : (spans : List Span) (c : ℕ) → ((s : Span) → Memᴰ s spans → (c < s.first → ⊥) → s.last < c)
    → spans_over spans c ≡ 0
unfolding spans_over
none_over spans c out =
    ap length (fails→none-kept (λ s. within s.first c s.last) spans
    (λ s m t. let r = within→ s.first c s.last t in
    let low = r.0 in let high = r.1 in let o = out s m (λ h. omega arith) in omega arith))

over-two : (xs ys : List Span) (c : ℕ) → spans_over (xs ++ ys) c ≡ spans_over xs c + spans_over ys c
unfolding spans_over
over-two xs ys c = length-keep-append (λ s. within s.first c s.last) xs ys

module _ {ch dh : Channel} (fit : Fits ch dh) where
  abbrev both : Channel
  both = joined ch dh

  abbrev up : ℕ → ℕ
  up = raised (highest ch)

  abbrev on : Span → Span
  on = moved (width ch)

  spans-both : spans_of both ≡ spans_of ch ++ map on (spans_of dh)
  unfolding spans_of
  spans-both =
      ap (map (span_of both)) (spanning-both fit)
      ∙ (map-append (span_of both) (spanning ch) (map up (spanning dh))
      ∙ ap₂ ◌++◌ (map_same (span_of both) (span_of ch) (spanning ch) (λ n m. let net = (spanning→ ch n m).0.is_net in
      rw (first-first ch dh fit.first.even n net, last-first ch dh fit.first.even n net)))
      (map-map (span_of both) up (spanning dh)
      ∙ (map_same (λ n. span_of both (up n)) (λ n. on (span_of dh n)) (spanning dh)
      (λ n m. let net = (spanning→ dh n m).0.is_net in
      rw (
        first-second ch dh fit.first.even n net fit.second.even,
        last-second ch dh fit.first.even n net fit.second.even,
      )) ∙ sym (map-map on (span_of dh) (spanning dh)))))

  first-inside : (c : ℕ) → width ch < c → spans_over (spans_of ch) c ≡ 0
  unfolding spans_of
  first-inside c past =
      none_over (spans_of ch) c (λ s m h. let r = Memᴰ.of_map (span_of ch) (spanning ch) m in
      let l = (columns-inside ch r.0).1 in let e = ap (λ (x : Span). x.last) r.2 in omega arith)

  second-inside : (c : ℕ) → c ≤ width ch → spans_over (map on (spans_of dh)) c ≡ 0
  unfolding spans_of
  second-inside c before =
      none_over (map on (spans_of dh)) c (λ s m h. absurd (h (later s m)))
    where
      later : (s : Span) → Memᴰ s (map on (map (span_of dh) (spanning dh))) → c < s.first
      later s m =
          let r = Memᴰ.of_map on (map (span_of dh) (spanning dh)) m in
          let q = Memᴰ.of_map (span_of dh) (spanning dh) r.1 in
          let l = (starts-inside dh fit.second.even q.0 q.1).0 in
          let e = ap (λ (x : Span). x.first) r.2 in
          let f = ap (λ (x : Span). x.first) q.2 in
          omega arith

  pub density-both : density both ≡ max (density ch) (density dh)
  unfolding density
  density-both =
      let d = width ch in
      ap (λ (w : ℕ). greatest (map (spans_over (spans_of both)) (up_to w))) (width-both ch dh)
      ∙ (ap (λ (l : List ℕ). greatest (map (spans_over (spans_of both)) l)) (up_to-two d (width dh))
      ∙ (ap greatest (map-append (spans_over (spans_of both)) (up_to d) (map (λ c. d + c) (up_to (width dh)))
      ∙ ap₂ ◌++◌ (map_same (spans_over (spans_of both)) (spans_over (spans_of ch)) (up_to d) in-first)
      (map-map (spans_over (spans_of both)) (λ c. d + c) (up_to (width dh))
      ∙ map_same (λ c. spans_over (spans_of both) (d + c)) (spans_over (spans_of dh)) (up_to (width dh)) in-second))
      ∙ greatest-append (map (spans_over (spans_of ch)) (up_to d)) (map (spans_over (spans_of dh)) (up_to (width dh)))))
    where
      parts : (c : ℕ) → spans_over (spans_of both) c ≡ spans_over (spans_of ch) c + spans_over (map on (spans_of dh)) c
      parts c =
          ap (λ (l : List Span). spans_over l c) spans-both ∙ over-two (spans_of ch) (map on (spans_of dh)) c

      in-first : (c : ℕ) → Memᴰ c (up_to (width ch)) → spans_over (spans_of both) c ≡ spans_over (spans_of ch) c
      in-first c m = let e = parts c in let z = second-inside c (up_to-member _ m).1 in omega arith

      in-second : (c : ℕ) → Memᴰ c (up_to (width dh))
          → spans_over (spans_of both) (width ch + c) ≡ spans_over (spans_of dh) c
      in-second c m =
          let e = parts (width ch + c) in
          let l = (up_to-member (width dh) m).0 in
          let z = first-inside (width ch + c) (omega arith) in
          let o = over-moved (width ch) c (spans_of dh) in
          omega arith
