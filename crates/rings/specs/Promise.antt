-- SCOPE, Req 05, what the ring with the fewest nets is: over every ring of the channel.
use Rattle.std.specs.Prelude.{ℕ, ◌*◌, ◌≤◌, ◌<◌, ◌≡◌, ◌↔◌, length, take, drop}
use mathlib.Core.List.{List, [], ◌∷◌, ◌++◌, Memᴰ}
use Rattle.lists.specs.Lists.{head_or}
use Rattle.channel.specs.Channel.{Channel}
use Rattle.channel.specs.Constraints.{Step, nets_of, Ring, Tangled}
use Rattle.leftedge.specs.Walk.{ring_numbers}

-- "compared number by number": the numbers are the same, or at the first that differs xs has the lower one
pub data NoHigher : List ℕ → List ℕ → Type 0 where
  ends : NoHigher [] []
  lower : {x y : ℕ} {xs ys : List ℕ} → x < y → NoHigher (x ∷ xs) (y ∷ ys)
  same : {x : ℕ} {xs ys : List ℕ} → NoHigher xs ys → NoHigher (x ∷ xs) (x ∷ ys)

-- the same pairs, begun at another of them
pub record Turn (steps turn : List Step) : Type 0 where
  pub front : List Step
  pub back : List Step
  pub split : steps ≡ front ++ back
  pub turned : turn ≡ back ++ front

-- `turn` is the ring `steps`, "begun at its lowest net"
pub record Begun (steps turn : List Step) : Type 0 where
  pub same_pairs : Turn steps turn
  pub lowest : (n : ℕ) → Memᴰ n (nets_of turn) → head_or 0 (nets_of turn) ≤ n

-- The ring with the fewest nets. Rules out: the first ring found (fewest); of rings with as many nets one that goes
-- through a higher column, or that has a higher lowest net (lowest)
pub record FewestRing (ch : Channel) (steps : List Step) : Type 0 where
  pub is_ring : Ring ch steps
  -- "every other ring of that channel has at least as many"
  pub fewest : (other : List Step) → Ring ch other → length steps ≤ length other
  -- "each begun at its lowest net"
  pub begun : Begun steps steps
  -- "Among equals the lowest list of pairs wins, each begun at its lowest net and compared number by number"
  pub lowest : (other turn : List Step) → Ring ch other → length other ≡ length steps → Begun other turn
      → NoHigher (ring_numbers steps) (ring_numbers turn)

-- Every ring can be turned to begin at its lowest net, in one way, and is then a ring of the same pairs
pub record Turnable (ch : Channel) (steps : List Step) : Type 0 where
  pub turn : List Step
  pub begun : Begun steps turn
  pub is_ring : Ring ch turn
  pub only : (other : List Step) → Begun steps other → other ≡ turn

-- the ring with the fewest nets, of k pairs, fills the front of the ring buffer, and the remainder is as it was
pub record ShowsFewest (ch : Channel) (k : ℕ) (ring ring' : List ℕ) : Type 0 where
  pub steps : List Step
  pub counted : length steps ≡ k
  pub stored : take (2 * k) ring' ≡ ring_numbers steps
  pub remainder : drop (2 * k) ring' ≡ drop (2 * k) ring
  pub shown : FewestRing ch steps

-- Req 05, of the number k of pairs that the caller is answered, 0 for none, and of the ring buffer that the
-- caller then holds. Rules out: none answered for a ring of two nets (none-exactly); a long ring where there is a
-- shorter one (shown)
pub record FewestPromise (ch : Channel) (k : ℕ) (ring ring' : List ℕ) : Type 0 where
  -- "A channel without a ring gets the answer none, and that answer is given only then"
  pub none-exactly : (k ≡ 0) ↔ (Tangled ch → ⊥)
  -- "the buffer untouched"
  pub untouched : k ≡ 0 → ring' ≡ ring
  pub shown : 0 < k → ShowsFewest ch k ring ring'
  -- "each begun at its lowest net": nothing hides behind this, since every ring can be so begun
  pub turnable : (steps : List Step) → Ring ch steps → Turnable ch steps
