-- What the code of the walk keeps: for each net its lowest column over an unplaced net, and the nets that a walk down
-- by these columns meets.
use Rattle.std.specs.Prelude.{ℕ, zero, suc, ◌+◌, ◌≤◌, ◌<◌, ◌≡◌, Bool, ◌&&◌, length, get_or, eqb}
use mathlib.Core.List.{List, [], ◌∷◌, ◌++◌, map, Memᴰ}
use Rattle.lists.specs.Lists.{keep, up_to, head_or, at}
use Rattle.channel.specs.Channel.{Channel, width}
use Rattle.channel.specs.Constraints.{above, Step}

-- in column c net n is directly above a net that is wanted below it
unfoldable pub over_wanted : Channel → (ℕ → ℕ → Bool) → ℕ → ℕ → Bool
over_wanted ch wanted n c = above ch n (at ch.bot c) c && wanted n (at ch.bot c)

-- the lowest such column of net n, 0 if there is none
unfoldable pub lowest_over : Channel → (ℕ → ℕ → Bool) → ℕ → ℕ
lowest_over ch wanted n = head_or 0 (keep (over_wanted ch wanted n) (up_to (width ch)))

-- the walk wants a net without a track
abbrev pub bare : List ℕ → ℕ → ℕ → Bool
bare tracks n b = eqb (get_or tracks b 0) 0

abbrev pub lowest_drop : Channel → List ℕ → ℕ → ℕ
lowest_drop ch tracks n = lowest_over ch (bare tracks) n

-- the net below n in the column that is kept for n
abbrev pub net_below : List ℕ → List ℕ → ℕ → ℕ
net_below bot columns n = at bot (get_or columns n 0)

-- the net after k steps from n
unfoldable pub after : (ℕ → ℕ) → ℕ → ℕ → ℕ
after next n zero = n
after next n (suc k) = next (after next n k)

-- the nets of the first k steps
unfoldable pub met : (ℕ → ℕ) → ℕ → ℕ → List ℕ
met next n zero = []
met next n (suc k) = met next n k ++ (after next n k ∷ [])

-- a net with the column that is kept for it, and so for each net
abbrev pub pair_of : List ℕ → ℕ → Step
pair_of columns n = record { net = n; column = get_or columns n 0 }

abbrev pub steps_by : List ℕ → List ℕ → List Step
steps_by columns ns = map (pair_of columns) ns

-- a list of nets that the walk never leaves
pub record Confines (bot columns : List ℕ) (start : ℕ) (ns : List ℕ) : Type 0 where
  pub few : length ns ≤ 511
  pub low : (n : ℕ) → Memᴰ n ns → n < 512
  pub begins : Memᴰ start ns
  pub column : (n : ℕ) → Memᴰ n ns → (1 ≤ get_or columns n 0) × (get_or columns n 0 ≤ length bot)
  pub stays : (n : ℕ) → Memᴰ n ns → Memᴰ (net_below bot columns n) ns

abbrev pub Confined : List ℕ → List ℕ → ℕ → Type 0
Confined bot columns start = (ns : List ℕ) × Confines bot columns start ns

-- what the number v says of n and the nets met: 0 that n is not among them, else 1 plus its place
pub data Visited (ns : List ℕ) (n v : ℕ) : Type 0 where
  not_yet : v ≡ 0 → (Memᴰ n ns → ⊥) → Visited ns n v
  visited : (i : ℕ) → v ≡ i + 1 → i < length ns → get_or ns i 0 ≡ n → Visited ns n v

-- A walk that has come to n in so many steps: none of its nets is met again on the way, and `visits` has the place of
-- each.
pub record Marked (next : ℕ → ℕ) (start : ℕ) (visits : List ℕ) (n steps : ℕ) : Type 0 where
  pub long : length visits ≡ 512
  pub here : n ≡ after next start steps
  pub unmet : (k : ℕ) → k < steps → Memᴰ (after next start k) (met next start k) → ⊥
  pub places : (m : ℕ) → m < 512 → Visited (met next start steps) m (get_or visits m 0)

-- a walk that meets a net again, `count` steps after its first visit, and no net before
pub record Closes (next : ℕ → ℕ) (start again count : ℕ) : Type 0 where
  pub steps : ℕ
  pub place : ℕ
  pub split : place + count ≡ steps
  pub some : 0 < count
  pub first : again ≡ after next start place
  pub second : again ≡ after next start steps
  pub unmet : (k : ℕ) → k < steps → Memᴰ (after next start k) (met next start k) → ⊥
