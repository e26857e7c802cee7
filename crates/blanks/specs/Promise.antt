-- SCOPE, Req 03, as it is meant: tables that pass, the first bad entry of the others, the smallest entry that holds t;
-- and what is promised of the answer.
use Rattle.std.specs.Prelude.{ℕ, ◌-◌, ◌≤◌, ◌<◌, ◌≡◌, ◌↔◌, ◌⊎◌, length}
use mathlib.Core.List.{List, Memᴰ}
use Rattle.lists.specs.Lists.{at, Lowest}
use Rattle.lists.specs.Ends.{Rising}

-- "It has 1 to 64 entries, each 1 to 512, strictly rising"
pub record Passes (table : List ℕ) : Type 0 where
  pub count : (1 ≤ length table) × (length table ≤ 64)
  pub in_range : (b : ℕ) → Memᴰ b table → (1 ≤ b) × (b ≤ 512)
  pub rising : Rising table

-- the entry at place i, from 1, is not 1 to 512, or it is not above the one before it
pub record BadEntry (table : List ℕ) (i : ℕ) : Type 0 where
  pub in_table : (1 ≤ i) × (i ≤ length table)
  pub bad : (at table i < 1) ⊎ ((512 < at table i) ⊎ ((1 < i) × (at table i ≤ at table (i - 1))))

-- "the first bad entry, from 1, or 0 if there are none or more than 64"
pub data BadAt (table : List ℕ) (p : ℕ) : Type 0 where
  no-count : (length table ≡ 0) ⊎ (64 < length table) → p ≡ 0 → BadAt table p
  first-bad : (1 ≤ length table) × (length table ≤ 64) → Lowest (BadEntry table) p → BadAt table p

-- "The smallest entry that holds the layout"
pub record Chosen (table : List ℕ) (t b : ℕ) : Type 0 where
  pub in_table : Memᴰ b table
  pub holds : t ≤ b
  pub smallest : (c : ℕ) → Memᴰ c table → t ≤ c → b ≤ c

-- no entry holds t
abbrev pub NoneHolds : List ℕ → ℕ → Type 0
NoneHolds table t = (b : ℕ) → Memᴰ b table → b < t

-- What is promised for every table and every t, of the number of the refusal answered, 0 for none, and of its place or
-- of the entry chosen. Rules out: a later entry chosen (chosen-exactly); equal neighbours taken (bad-exactly); the last
-- bad entry named (bad-place); 16 told of a table that is bad (none-exactly)
pub record OwnPromise (table : List ℕ) (t number value : ℕ) : Type 0 where
  pub over-exactly : (number ≡ 14) ↔ (512 < t)
  pub bad-exactly : (number ≡ 15) ↔ ((t ≤ 512) × (Passes table → ⊥))
  pub bad-place : (p : ℕ) → ((number ≡ 15) × (value ≡ p)) ↔ ((t ≤ 512) × BadAt table p)
  pub none-exactly : (number ≡ 16) ↔ ((t ≤ 512) × Passes table × NoneHolds table t)
  pub tracks-named : (number ≡ 14) ⊎ (number ≡ 16) → value ≡ t
  pub chosen-exactly : (b : ℕ) → ((number ≡ 0) × (value ≡ b)) ↔ (Passes table × Chosen table t b)
