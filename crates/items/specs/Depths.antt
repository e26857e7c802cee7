-- The most items on a path down, over any items; and what the code that peels them asks and answers.
use Rattle.std.specs.Prelude.{ℕ, zero, suc, ◌+◌, ◌-◌, ◌≤◌, ◌<◌, ◌≡◌, ◌⊎◌, cond, length, get_or, set, eqb}
use mathlib.Core.List.{List, [], ◌∷◌, map, Memᴰ}
use Rattle.std.proofs.lemmas.List.Edits.{sets}
use Rattle.lists.specs.Lists.{greatest, at, is_in, overlay, Distinct}
use Rattle.lists.specs.Counts.{lowered}
use Rattle.items.specs.Steps.{waiting, Stepped, CanLower}

-- the most items on a path down from n, counted as far as `fuel` items; `below` lists what is directly below each
unfoldable pub depth_by : (ℕ → List ℕ) → ℕ → ℕ → ℕ
depth_by below zero n = 0
depth_by below (suc fuel) n = suc (greatest (map (depth_by below fuel) (below n)))

-- the most items on a path down from n are d: more fuel finds no longer one
pub record Deep (below : ℕ → List ℕ) (n d : ℕ) : Type 0 where
  pub positive : 0 < d
  pub steady : (fuel : ℕ) → d ≤ fuel → depth_by below fuel n ≡ d

-- What `longest_chain` answers: the depth of the deepest item, 0 if there are no items; or 0 where the paths down from
-- some item never end, since it is on a ring or above one
pub data Peeled (below : ℕ → List ℕ) (items : List ℕ) (r : ℕ) : Type 0 where
  all-peeled : r ≤ length items → ((n : ℕ) → Memᴰ n items → (d : ℕ) × (d ≤ r) × Deep below n d)
      → (r ≡ 0) ⊎ ((n : ℕ) × Memᴰ n items × Deep below n r) → Peeled below items r
  never-peeled : r ≡ 0 → (n : ℕ) → Memᴰ n items → ((fuel : ℕ) → fuel ≤ depth_by below fuel n)
      → Peeled below items r

-- what `longest_chain` leaves: the peeled items in the queue's front, and for each item how many below it are not
-- peeled; those with none are the peeled ones
pub record PeelLeft (below : ℕ → List ℕ) (items queue under' queue' : List ℕ) : Type 0 where
  pub gone : List ℕ
  pub distinct : Distinct gone
  pub inside : (n : ℕ) → Memᴰ n gone → Memᴰ n items
  pub queues : queue' ≡ overlay gone queue
  pub waits : (n : ℕ) → get_or under' n 0 ≡ waiting (λ b. is_in b gone) (below n)
  pub nothing : (n : ℕ) → Memᴰ n gone → get_or under' n 0 ≡ 0
  pub clear : (n : ℕ) → Memᴰ n items → get_or under' n 0 ≡ 0 → Memᴰ n gone

-- what is known of the items: which are directly below which, and how many steps lead down from each
pub record StepsCounted (below : ℕ → List ℕ) (items us head next under : List ℕ) : Type 0 where
  pub stepped : Stepped below items us head next
  pub counted : (n : ℕ) → get_or under n 0 ≡ length (below n)

-- items with such steps, with a place in the tables and in the queue
pub record Peelable (items us head next under queue : List ℕ) : Type 0 where
  pub below : ℕ → List ℕ
  pub steps : StepsCounted below items us head next under
  pub distinct : Distinct items
  pub number : (n : ℕ) → Memᴰ n items → (n < length head) × (n < length under)
  pub few : length items < 4294967296
  pub room : length items ≤ length queue

-- those of a list whose counts come to 0 as the counts are lowered for each, in that order
unfoldable pub freed : List ℕ → List ℕ → List ℕ
freed [] under = []
freed (n ∷ ns) under =
    let left = get_or under n 0 - 1 in
    let rest = freed ns (set under n left) in
    cond (eqb left 0) (n ∷ rest) rest

-- the counts can be lowered, and the queue has room for what is freed
pub record CanPeel (us next : List ℕ) (start : ℕ) (under queue : List ℕ) (count : ℕ) : Type 0 where
  pub lowers : CanLower us next start under
  pub room : count + length (freed (map (at us) lowers.places) under) ≤ length queue

-- what a walk along the places leaves of counts and queue
pub record PeelDone (uppers under queue : List ℕ) (count : ℕ) (under' queue' : List ℕ) (r : ℕ) : Type 0 where
  pub lowers : under' ≡ lowered uppers under
  pub counts : r ≡ count + length (freed uppers under)
  pub queues : queue' ≡ sets queue count (freed uppers under)
