-- SCOPE, "Spans and constraints": how many items hold a column, and the most of them, over any list of items with a
-- first and a last column; and what the code that counts them asks.
use Rattle.std.specs.Prelude.{ℕ, zero, suc, ◌+◌, ◌-◌, ◌≤◌, ◌<◌, ◌≡◌, length, get_or, replicate}
use mathlib.Core.List.{List, map, Memᴰ}
use Rattle.lists.specs.Lists.{keep, up_to, greatest, within}

-- "Local density at a column counts the spans holding it"
unfoldable pub holding : (ℕ → ℕ) → (ℕ → ℕ) → List ℕ → ℕ → ℕ
holding first last ns c = length (keep (λ n. within (first n) c (last n)) ns)

-- "density is the greatest", over columns 1 to w
unfoldable pub densest : (ℕ → ℕ) → (ℕ → ℕ) → List ℕ → ℕ → ℕ
densest first last ns w = greatest (map (holding first last ns) (up_to w))

-- by the counts of items that start and of items that end in each column: how many go on past column c
unfoldable pub carried : List ℕ → List ℕ → ℕ → ℕ
carried starts ends zero = 0
carried starts ends (suc c) = carried starts ends c + get_or starts (suc c) 0 - get_or ends (suc c) 0

-- and how many hold it
unfoldable pub holding_by : List ℕ → List ℕ → ℕ → ℕ
holding_by starts ends c = carried starts ends (c - 1) + get_or starts c 0

-- each item has a place in the table, and its column a count; no count reaches its limit
pub record Countable (items columns counts : List ℕ) : Type 0 where
  pub few : length items < 4294967296
  pub number : (n : ℕ) → Memᴰ n items → n < length columns
  pub column : (n : ℕ) → Memᴰ n items → get_or columns n 0 < length counts
  pub empty : counts ≡ replicate (length counts) 0

-- no more items end in a column than hold it, and those that hold it can be counted
pub record Sweepable (starts ends : List ℕ) : Type 0 where
  pub even : length ends ≡ length starts
  pub ended : (c : ℕ) → get_or ends (suc c) 0 ≤ holding_by starts ends (suc c)
  pub few : (c : ℕ) → holding_by starts ends (suc c) < 4294967296

-- items with spans: each begins in a column from 1 on, ends no earlier, and `starts` and `ends` have a place for both
pub record Spanned (items first last starts ends : List ℕ) : Type 0 where
  pub few : length items < 4294967296
  pub even : length ends ≡ length starts
  pub number : (n : ℕ) → Memᴰ n items → (n < length first) × (n < length last)
  pub span : (n : ℕ) → Memᴰ n items
      → (0 < get_or first n 0) × (get_or first n 0 ≤ get_or last n 0) × (get_or last n 0 < length starts)
  pub none-starts : starts ≡ replicate (length starts) 0
  pub none-ends : ends ≡ replicate (length ends) 0
