-- A word's digits: what they are after a mark is set or taken away, and that the count of the set digits is the number
-- of places whose digit is set.
use Rattle.std.specs.Prelude.{ℕ, zero, suc, min, max, ◌+◌, ◌*◌, ◌/◌, ◌%◌, ◌^◌, ◌<◌, ◌≡◌, refl, List, [], ◌∷◌, Bool, true, false, cond, not, ◌&&◌, ◌||◌, length, eqb}
use Rattle.std.proofs.Common.{arith, pow-suc, zero-mul, one-add, sym, ◌∙◌, ap, shr-shr}
use Rattle.std.proofs.Math.Nat.{zero-div}
use Rattle.std.proofs.Math.Dec.{eqb-zero-suc, eqb-suc-zero, eqb-suc-suc}
use Rattle.std.proofs.lemmas.Bool.{eqb-false}
use Rattle.std.specs.Int.Bits.{bit_and, bit_or, bit_xor, differ, or_step, and_step, xor_step, and_zero_r, xor_zero_r}
use Rattle.std.proofs.lemmas.Nat.{or_shr, and_shr, xor_shr}
use Rattle.std.specs.Int.Count.{ones, ones_step}
use Rattle.lists.specs.Lists.{keep, from}
use Rattle.lists.specs.Tests.{one-if}
use Rattle.lists.specs.Tallies.{keep_same}
use Rattle.lists.specs.Parts.{kept-two}
use Rattle.draft.specs.Marks.{is_set, with_mark, without_mark}

-- digit k of a word
abbrev digit : ℕ → ℕ → ℕ
digit w k = w / 2 ^ k % 2

-- a digit further on is one of the word without its lowest digit
digit-next : (w k : ℕ) → digit w (suc k) ≡ digit (w / 2) k
digit-next w k = ap (λ (j : ℕ). w / 2 ^ j % 2) (sym (one-add k)) ∙ ap (λ (v : ℕ). v % 2) (sym (shr-shr w 1 k))

or-digit : (v w k : ℕ) → digit (bit_or v w) k ≡ max (digit v k) (digit w k)
or-digit v w k = ap (λ (x : ℕ). x % 2) (or_shr v w k) ∙ (let e = or_step (v / 2 ^ k) (w / 2 ^ k) in omega arith)

and-digit : (v w k : ℕ) → digit (bit_and v w) k ≡ min (digit v k) (digit w k)
and-digit v w k = ap (λ (x : ℕ). x % 2) (and_shr v w k) ∙ (let e = and_step (v / 2 ^ k) (w / 2 ^ k) in omega arith)

below_two : (w k : ℕ) → digit w k < 2
below_two w k = omega arith

differ-digit : (x y : ℕ) → x < 2 → y < 2 → differ x y < 2
differ-digit zero y h k = k
differ-digit (suc x) zero h k = h
differ-digit (suc x) (suc y) h k = let e : x ≡ 0 = omega arith in let f : y ≡ 0 = omega arith in rw (e, f) (omega arith)

xor-digit : (v w k : ℕ) → digit (bit_xor v w) k ≡ differ (digit v k) (digit w k)
xor-digit v w k =
    ap (λ (x : ℕ). x % 2) (xor_shr v w k) ∙ (let e = xor_step (v / 2 ^ k) (w / 2 ^ k) in
    let l = differ-digit (digit v k) (digit w k) (below_two v k) (below_two w k) in omega arith)

power-low : (k : ℕ) → digit (2 ^ suc k) 0 ≡ 0
power-low k = let e = pow-suc 2 k in omega arith

power-half : (k : ℕ) → 2 ^ suc k / 2 ≡ 2 ^ k
power-half k = let e = pow-suc 2 k in omega arith

-- the digits of 2 ^ k: only digit k is set
power-set : (k j : ℕ) → is_set (2 ^ k) j ≡ eqb j k
unfolding is_set
power-set zero zero = refl
power-set zero (suc j) =
    ap (λ (x : ℕ). eqb x 1) (digit-next 1 j ∙ ap (λ (x : ℕ). x % 2) (zero-div (2 ^ j))) ∙ sym (eqb-suc-zero j)
power-set (suc k) zero = ap (λ (x : ℕ). eqb x 1) (power-low k) ∙ sym (eqb-zero-suc k)
power-set (suc k) (suc j) =
    ap (λ (x : ℕ). eqb x 1) (digit-next (2 ^ suc k) j ∙ ap (λ (x : ℕ). digit x j) (power-half k))
    ∙ (power-set k j ∙ sym (eqb-suc-suc j k))

-- two digits as tests
or-test : (x y : ℕ) → x < 2 → y < 2 → eqb (max x y) 1 ≡ eqb x 1 || eqb y 1
or-test zero zero h k = refl
or-test zero (suc zero) h k = refl
or-test (suc zero) zero h k = refl
or-test (suc zero) (suc zero) h k = refl
or-test zero (suc (suc y)) h k = absurd (omega arith)
or-test (suc zero) (suc (suc y)) h k = absurd (omega arith)
or-test (suc (suc x)) y h k = absurd (omega arith)

taken-test : (x y : ℕ) → x < 2 → y < 2 → eqb (differ x (min x y)) 1 ≡ eqb x 1 && not (eqb y 1)
taken-test zero zero h k = refl
taken-test zero (suc zero) h k = refl
taken-test (suc zero) zero h k = refl
taken-test (suc zero) (suc zero) h k = refl
taken-test zero (suc (suc y)) h k = absurd (omega arith)
taken-test (suc zero) (suc (suc y)) h k = absurd (omega arith)
taken-test (suc (suc x)) y h k = absurd (omega arith)

pub set-marked : (k j w : ℕ) → is_set (with_mark k w) j ≡ (is_set w j || eqb j k)
unfolding is_set with_mark
set-marked k j w =
    ap (λ (x : ℕ). eqb x 1) (or-digit w (2 ^ k) j)
    ∙ (or-test (digit w j) (digit (2 ^ k) j) (below_two w j) (below_two (2 ^ k) j)
    ∙ ap (λ (b : Bool). is_set w j || b) (power-set k j))

pub set-unmarked : (k j w : ℕ) → is_set (without_mark k w) j ≡ (is_set w j && not (eqb j k))
unfolding is_set without_mark
set-unmarked k j w =
    ap (λ (x : ℕ). eqb x 1) (xor-digit w (bit_and w (2 ^ k)) j
    ∙ ap (differ (digit w j)) (and-digit w (2 ^ k) j))
    ∙ (taken-test (digit w j) (digit (2 ^ k) j) (below_two w j) (below_two (2 ^ k) j)
    ∙ ap (λ (b : Bool). is_set w j && not b) (power-set k j))

pub zero-unset : (k : ℕ) → is_set 0 k ≡ false
unfolding is_set
zero-unset k = ap (λ (x : ℕ). eqb (x % 2) 1) (zero-div (2 ^ k))

-- what a word has in common with 2 ^ k is its digit k
and-power : (k w : ℕ) → bit_and w (2 ^ k) ≡ digit w k * 2 ^ k
and-power zero w = let e = and_step w 1 in let z = and_zero_r (w / 2) in omega arith
and-power (suc k) w =
    let rest = and-power k (w / 2) in
    let next = ap (λ (x : ℕ). x * 2 ^ k) (digit-next w k) in
    let double = ap (λ (x : ℕ). digit w (suc k) * x) (pow-suc 2 k) in
    let even : 2 ^ suc k % 2 ≡ 0 = let e = pow-suc 2 k in omega arith in
    let step = and_step w (2 ^ suc k) in
    let split = rw (power-half k) at step in omega arith

pub unset-same : (k w : ℕ) → is_set w k ≡ false → without_mark k w ≡ w
unfolding is_set without_mark
unset-same k w off =
    let none : digit w k ≡ 0 = let h = eqb-false (digit w k) 1 off in omega arith in
    ap (bit_xor w) (and-power k w ∙ ap (λ (x : ℕ). x * 2 ^ k) none ∙ zero-mul (2 ^ k)) ∙ xor_zero_r w

-- the set digits counted, the lowest first
digit-counted : (x : ℕ) → x < 2 → one-if (eqb x 1) ≡ x
digit-counted zero h = refl
digit-counted (suc zero) h = refl
digit-counted (suc (suc x)) h = absurd (omega arith)

lowest : (f : ℕ → Bool) → length (keep f (from 0 1)) ≡ one-if (f 0)
unfolding keep from
lowest f = go (f 0)
  where
    go : (b : Bool) → length (cond {A = List ℕ} b (0 ∷ []) []) ≡ one-if b
    go true = refl
    go false = refl

pub ones-counted : (m w : ℕ) → w < 2 ^ m → ones w ≡ length (keep (is_set w) (from 0 m))
unfolding is_set
ones-counted zero w h = let e : w ≡ 0 = omega arith in rw e (unfold ones keep from in refl)
ones-counted (suc m) w h =
    let half = ones-counted m (w / 2) (omega arith) in
    let rest = ap length (keep_same (λ k. is_set w (1 + k)) (is_set (w / 2)) (from 0 m)
    (λ k i. ap (λ (x : ℕ). eqb (x % 2) 1) (sym (shr-shr w 1 k)))) in
    let low = lowest (is_set w) ∙ digit-counted (w / 1 % 2) (below_two w 0) in
    let all = ap (λ (k : ℕ). length (keep (is_set w) (from 0 k))) (sym (one-add m)) ∙ kept-two (is_set w) 1 m in
    let step = ones_step w in
    omega arith
