-- SCOPE, "Spans and constraints": local density and density, counted over a list of spans.
use Rattle.std.specs.Prelude.{ℕ, List, map, length}
use Rattle.lists.specs.Lists.{keep, up_to, greatest, within}
use Rattle.channel.specs.Channel.{Channel, width, first_column, last_column, spanning}

-- the columns first to last, both ends included
pub record Span : Type 0 where
  pub first : ℕ
  pub last : ℕ

-- "Local density at a column counts the spans holding it"
unfoldable pub spans_over : List Span → ℕ → ℕ
spans_over spans c = length (keep (λ s. within s.first c s.last) spans)

-- the spans of a channel, one for each net that has one
unfoldable pub spans_of : Channel → List Span
spans_of ch = map (λ n. record { first = first_column ch n; last = last_column ch n }) (spanning ch)

abbrev pub local_density : Channel → ℕ → ℕ
local_density ch c = spans_over (spans_of ch) c

-- "density is the greatest"
unfoldable pub density : Channel → ℕ
density ch = greatest (map (spans_over (spans_of ch)) (up_to (width ch)))
