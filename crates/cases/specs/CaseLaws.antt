-- The loops over a row: whether its end is kept, and the numbers stored in it; and over the calls on a draft.
use Prim.Native.Nat.{ℕ, suc, ◌+◌, ◌-◌, ◌*◌, ◌/◌, ◌≤◌, ◌<◌}
use native.Mathlib.Omega.{arith}
use Rattle.std.specs.Int.{w16, from_be_bytes}
use Rattle.std.proofs.Common.{add-one}
use Rattle.std.specs.Prelude.{◌≡◌, List, [], ◌∷◌, Bool, true, false, length, get_or, take, drop, leb}
use Rattle.std.proofs.Math.Path.{sym, ◌∙◌}
use borrow.Author.Tests.{lt-ltb, le-ltb, le-leb, lt-leb}
use Rattle.lists.specs.Lists.{all_of, from}
use Rattle.cases.specs.Cases.{pair_of, number_at, row_room, rows_whole, beside_whole, calls_whole, draft_whole}

-- a number of two bytes, most significant first
pub pair-value : (high low : ℕ) → from_be_bytes w16 (high ∷ low ∷ []) ≡ pair_of high low
pair-value high low = omega arith

module _ (bytes : List ℕ) (at : ℕ) where
  pub number-there : at + 2 ≤ length bytes → pair_of (get_or bytes at 0) (get_or bytes (at + 1) 0) ≡ number_at bytes at
  unfolding number_at
  number-there h = sym (rw (le-ltb (length bytes) (at + 2) h))

  pub number_short : length bytes < at + 2 → 0 ≡ number_at bytes at
  unfolding number_at
  number_short h = sym (rw (lt-ltb (length bytes) (at + 2) h))

-- the first two bytes are the number at byte 0
pub number-first : (bytes : List ℕ) → 2 ≤ length bytes → from_be_bytes w16 (take 2 bytes) ≡ number_at bytes 0
number-first [] h = absurd (omega arith)
number-first (high ∷ []) h = absurd (omega arith)
number-first (high ∷ (low ∷ rest)) h = pair-value high low ∙ number-there (high ∷ (low ∷ rest)) 0 h

-- whether the bytes make a question about two rows, test by test
module _ (bytes : List ℕ) where
  pub rows_short : length bytes < 2 → rows_whole bytes ≡ false
  unfolding rows_whole
  rows_short h = rw (lt-leb 2 (length bytes) h)

  pub beside-short : length bytes < 2 → beside_whole bytes ≡ false
  unfolding beside_whole
  beside-short h = rw (lt-leb 2 (length bytes) h)

  module _ (h : 2 ≤ length bytes) {a : ℕ} (e : a ≡ number_at bytes 0) where
    pub rows_few : (length bytes - 2) / 2 < a → rows_whole bytes ≡ false
    unfolding rows_whole
    rows_few k = rw (le-leb 2 (length bytes) h, ← e, lt-leb a ((length bytes - 2) / 2) k)

    pub rows-long : a ≤ (length bytes - 2) / 2 → row_room < a → rows_whole bytes ≡ false
    unfolding rows_whole
    rows-long k l = rw (le-leb 2 (length bytes) h, ← e, le-leb a ((length bytes - 2) / 2) k, lt-leb a row_room l)

    pub rows-longer : a ≤ (length bytes - 2) / 2 → a ≤ row_room → row_room < (length bytes - 2) / 2 - a
        → rows_whole bytes ≡ false
    unfolding rows_whole
    rows-longer k l m =
        rw (
          le-leb 2 (length bytes) h,
          ← e,
          le-leb a ((length bytes - 2) / 2) k,
          le-leb a row_room l,
          lt-leb ((length bytes - 2) / 2 - a) row_room m,
        )

    pub rows-enough : a ≤ (length bytes - 2) / 2 → a ≤ row_room → (length bytes - 2) / 2 - a ≤ row_room
        → rows_whole bytes ≡ true
    unfolding rows_whole
    rows-enough k l m =
        rw (
          le-leb 2 (length bytes) h,
          ← e,
          le-leb a ((length bytes - 2) / 2) k,
          le-leb a row_room l,
          le-leb ((length bytes - 2) / 2 - a) row_room m,
        )

    pub beside-few : length bytes < 2 + a → beside_whole bytes ≡ false
    unfolding beside_whole
    beside-few k = rw (le-leb 2 (length bytes) h, ← e, lt-leb (2 + a) (length bytes) k)

    pub beside-enough : 2 + a ≤ length bytes → rows_whole (take a (drop 2 bytes)) ≡ beside_whole bytes
    unfolding beside_whole
    beside-enough k = sym (rw (le-leb 2 (length bytes) h, ← e, le-leb (2 + a) (length bytes) k))

-- the loop of `make_calls`: whether the calls from i on are each of a kind up to 4
abbrev pub is_call : List ℕ → ℕ → Bool
is_call bytes i = leb (number_at bytes (2 + 8 * i)) 4

unfoldable pub calls_from : List ℕ → ℕ → ℕ → Bool
calls_from bytes count i = all_of (is_call bytes) (from i (count - i))

module _ (bytes : List ℕ) (count : ℕ) where
  pub calls-all : calls_whole bytes count ≡ calls_from bytes count 0
  unfolding calls_whole calls_from
  calls-all = let e : count - 0 ≡ count = omega arith in rw e

  module _ (i : ℕ) where
    first : i < count → from i (count - i) ≡ i ∷ from (suc i) (count - suc i)
    unfolding from
    first h = let e : count - i ≡ suc (count - suc i) = omega arith in rw e

    pub calls-next : i < count → is_call bytes i ≡ true → calls_from bytes count i ≡ calls_from bytes count (i + 1)
    unfolding calls_from all_of
    calls-next h e = rw (add-one, first h, e)

    pub not_call : i < count → is_call bytes i ≡ false → calls_from bytes count i ≡ false
    unfolding calls_from all_of
    not_call h e = rw (first h, e)

    pub calls-end : count ≤ i → calls_from bytes count i ≡ true
    unfolding calls_from all_of from
    calls-end h = let e : count - i ≡ 0 = omega arith in rw e

-- whether the bytes make a question about a draft, test by test
module _ (bytes : List ℕ) where
  pub draft-short : length bytes < 2 → draft_whole bytes ≡ false
  unfolding draft_whole
  draft-short h = rw (lt-leb 2 (length bytes) h)

  module _ (h : 2 ≤ length bytes) {a : ℕ} (e : a ≡ number_at bytes 0) where
    pub draft-many : 4104 < a → draft_whole bytes ≡ false
    unfolding draft_whole
    draft-many k = rw (le-leb 2 (length bytes) h, ← e, lt-leb a 4104 k)

    pub draft-few : a ≤ 4104 → calls_whole bytes ((length bytes - 2) / 8) ≡ draft_whole bytes
    unfolding draft_whole
    draft-few k = sym (rw (le-leb 2 (length bytes) h, ← e, le-leb a 4104 k))
