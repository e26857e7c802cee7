-- A number in two halves, each below 8,192.
use Rattle.std.specs.Prelude.{ℕ, ◌+◌, ◌*◌, ◌/◌, ◌%◌, ◌≤◌, ◌<◌, ◌≡◌}
use Rattle.std.proofs.Common.{arith}

abbrev pub half : ℕ
half = 8192

unfoldable pub low_half : ℕ → ℕ
low_half v = v % half

unfoldable pub high_half : ℕ → ℕ
high_half v = v / half

unfoldable pub number_of : ℕ → ℕ → ℕ
number_of low high = low + half * high

pub low_small : (v : ℕ) → low_half v < half
unfolding low_half
low_small v = omega arith

pub low-number : (low high : ℕ) → low < half → low_half (number_of low high) ≡ low
unfolding low_half number_of
low-number low high h = omega arith

pub high-number : (low high : ℕ) → low < half → high_half (number_of low high) ≡ high
unfolding high_half number_of
high-number low high h = omega arith

-- both halves of 0 are 0
pub low-none : low_half 0 ≡ 0
unfolding low_half
low-none = omega arith

pub high-none : high_half 0 ≡ 0
unfolding high_half
high-none = omega arith

-- a number that is not less has a high half that is not less
pub high-grows : (a b : ℕ) → a ≤ b → high_half a ≤ high_half b
unfolding high_half
high-grows a b h = omega arith

pub high-low : (v : ℕ) → v < half → high_half v ≡ 0
unfolding high_half
high-low v h = omega arith

pub high-times : (v : ℕ) → half * high_half v ≤ v
unfolding high_half
high-times v = omega arith

pub low_same : (v : ℕ) → v < half → low_half v ≡ v
unfolding low_half
low_same v h = omega arith
