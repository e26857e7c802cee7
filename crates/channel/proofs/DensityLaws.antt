-- The density as a count of nets: it is the number of nets over some column, and no column has more.
use Rattle.std.specs.Prelude.{ℕ, ◌≤◌, ◌<◌, ◌≡◌, length}
use Rattle.std.proofs.Common.{sym, ◌∙◌, ap}
use mathlib.Core.List.{Memᴰ}
use Rattle.lists.specs.Lists.{up_to, greatest, within, Distinct}
use Rattle.lists.specs.Tests.{within→, →within}
use Rattle.lists.specs.Members.{keep-member, kept, up_to-member}
use Rattle.lists.specs.Ends.{keep-rising, rising-distinct}
use Rattle.lists.specs.Ranges.{length-keep-map}
use Rattle.lists.specs.Greatest.{greatest-map-reached}
use Rattle.lists.specs.Updates.{map_same}
use Rattle.items.specs.Density.{holding, densest}
use Rattle.channel.specs.Channel.{Channel, width, first_column, last_column, spanning}
use Rattle.channel.specs.Density.{Span, spans_over, spans_of, density}
use Rattle.channel.specs.Nets.{nets_over, Over}
use Rattle.channel.proofs.SpanLaws.{spanning-rising}

pub over→ : (ch : Channel) (c n : ℕ) → Memᴰ n (nets_over ch c) → Over ch c n
unfolding nets_over
over→ ch c n m =
    let r = keep-member (λ e. within (first_column ch e) c (last_column ch e)) (spanning ch) m in
    let k = within→ (first_column ch n) c (last_column ch n) r.1 in
    record { spans = r.0; begins = k.0; ends = k.1 }

pub →over : (ch : Channel) (c n : ℕ) → Over ch c n → Memᴰ n (nets_over ch c)
unfolding nets_over
→over ch c n o =
    kept (λ e. within (first_column ch e) c (last_column ch e)) o.spans
    (→within (first_column ch n) c (last_column ch n) o.begins o.ends)

pub over-distinct : (ch : Channel) (c : ℕ) → Distinct (nets_over ch c)
unfolding nets_over
over-distinct ch c =
    rising-distinct (nets_over ch c) (keep-rising (λ n. within (first_column ch n) c (last_column ch n)) (spanning ch)
    (spanning-rising ch))

-- the density is that of the nets with spans as items
pub density-densest : (ch : Channel) → density ch ≡ densest (first_column ch) (last_column ch) (spanning ch) (width ch)
unfolding density densest holding spans_over spans_of
density-densest ch =
    ap greatest (map_same _ _ (up_to (width ch)) (λ c m. length-keep-map (λ (s : Span). within s.first c s.last)
    (λ n. record { first = first_column ch n; last = last_column ch n }) (spanning ch)))

pub density-reached : (ch : Channel) → 0 < density ch
    → (c : ℕ) × (1 ≤ c) × (c ≤ width ch) × (length (nets_over ch c) ≡ density ch)
unfolding nets_over densest holding
density-reached ch h =
    let e = density-densest ch in
    let r = greatest-map-reached (holding (first_column ch) (last_column ch) (spanning ch)) (up_to (width ch))
    (rw e at h) in
    let b = up_to-member (width ch) r.1 in
    (r.0, b.0, b.1, r.2 ∙ sym e)
