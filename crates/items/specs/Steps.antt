-- Steps between items, told by two rows: place c, counted from 1, puts the upper row's item above the lower row's, if
-- both are there and differ. Each item's steps are linked by the lower item, and counts tell how many still wait.
use Rattle.std.specs.Prelude.{ℕ, ◌≤◌, ◌<◌, ◌≡◌, Bool, cond, ◌&&◌, not, length, get_or, replicate, eqb}
use mathlib.Core.List.{List, map, Memᴰ}
use Rattle.lists.specs.Lists.{keep, up_to, at}
use Rattle.lists.specs.Ends.{Rising}
use Rattle.lists.specs.Counts.{times}
use Rattle.items.specs.Chains.{Chained}

-- place c is a step
unfoldable pub is_step : List ℕ → List ℕ → ℕ → Bool
is_step us ls c = (not (eqb (at us c) 0) && not (eqb (at ls c) 0)) && not (eqb (at us c) (at ls c))

-- its lower item, 0 if it is none
unfoldable pub lower_of : List ℕ → List ℕ → ℕ → ℕ
lower_of us ls c = cond (is_step us ls c) (at ls c) 0

-- the steps down from item n, and those that lead to it, lowest place first
unfoldable pub steps_from : List ℕ → List ℕ → ℕ → List ℕ
steps_from us ls n = keep (λ c. is_step us ls c && eqb (at us c) n) (up_to (length us))

unfoldable pub steps_to : List ℕ → List ℕ → ℕ → List ℕ
steps_to us ls n = keep (λ c. is_step us ls c && eqb (at ls c) n) (up_to (length us))

-- the items directly below n, once for each step
abbrev pub step_below : List ℕ → List ℕ → ℕ → List ℕ
step_below us ls n = map (at ls) (steps_from us ls n)

-- how many of bs are not done
unfoldable pub waiting : (ℕ → Bool) → List ℕ → ℕ
waiting done bs = length (keep (λ b. not (done b)) bs)

-- the places of the row `us` in which b stands below, linked from `start`: of every item a the row has as many uppers
-- there as `below` has b's
pub record Rises (below : ℕ → List ℕ) (us next : List ℕ) (start b : ℕ) : Type 0 where
  pub places : List ℕ
  pub chained : Chained next start places
  pub rising : Rising places
  pub in_row : (c : ℕ) → Memᴰ c places → c ≤ length us
  pub turned : (a : ℕ) → times b (below a) ≡ times a (map (at us) places)

-- `below` lists what is directly below each item: both are items, and the steps to each are linked
pub record Stepped (below : ℕ → List ℕ) (items us head next : List ℕ) : Type 0 where
  pub upper : (a b : ℕ) → Memᴰ b (below a) → Memᴰ a items
  pub lower : (a b : ℕ) → Memᴰ b (below a) → Memᴰ b items
  pub rises : (b : ℕ) → Memᴰ b items → Rises below us next (get_or head b 0) b

-- two rows of steps between numbers that the tables have places for; nothing is linked or counted yet
pub record StepRows (us ls head next under : List ℕ) : Type 0 where
  pub even : length ls ≡ length us
  pub few : length us < 65536
  pub room : length us < length next
  pub upper : (c : ℕ) → at us c < length under
  pub lower : (c : ℕ) → at ls c < length head
  pub unlinked : head ≡ replicate (length head) 0
  pub uncounted : under ≡ replicate (length under) 0

-- the steps to each item are linked, and the steps down from each are counted
pub record StepsLinked (us ls head next under : List ℕ) : Type 0 where
  pub linked : (b : ℕ) → 0 < b → Chained next (get_or head b 0) (steps_to us ls b)
  pub counted : (n : ℕ) → get_or under n 0 ≡ length (step_below us ls n)

-- the places linked from `start` are places of the row, and no count of their upper items would fall below 0
pub record CanLower (us next : List ℕ) (start : ℕ) (under : List ℕ) : Type 0 where
  pub places : List ℕ
  pub chained : Chained next start places
  pub rising : Rising places
  pub in_row : (c : ℕ) → Memᴰ c places → c ≤ length us
  pub enough : (n : ℕ) → times n (map (at us) places) ≤ get_or under n 0
