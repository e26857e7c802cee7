-- A text put into a buffer at a place, and what is put behind it, are one text put there. The fewest digits of a number
-- are its decimal, and a number of 64 bits has at most 20 of them.
use Rattle.std.specs.Prelude.{ℕ, zero, suc, ◌+◌, ◌-◌, ◌*◌, ◌/◌, ◌%◌, ◌^◌, ◌≤◌, ◌<◌, ◌≡◌, List, [], ◌∷◌, ◌++◌}
use Rattle.std.proofs.Common.{arith, pow-suc, sym, ◌∙◌, ap, subst, length-append, lt-ltb}
use Rattle.std.proofs.Math.Nat.{pow-le-pow_right}
use Rattle.io.specs.Digits.{last_digits, hex_digit_ascii, IsDigitCount}
use Rattle.lists.specs.Bytes.{decimal}
use Rattle.lists.specs.Digits.{decimal-small, decimal-large}
use Rattle.lists.specs.Stores.{sets-append}
use Rattle.text.specs.Lines.{Put}

module _ {b c : List ℕ} {i r : ℕ} where
  -- one text behind another
  pub put_then : {xs ys d : List ℕ} {s : ℕ} → Put b i xs c r → Put c r ys d s → Put b i (xs ++ ys) d s
  put_then {xs} {ys} {d} {s} p q =
      record {
        place = omega (arith, length-append xs ys);
        stored = q.stored ∙ rw (p.stored, p.place) (sets-append b i xs ys);
      }

  pub put_same : {xs ys : List ℕ} → Put b i xs c r → xs ≡ ys → Put b i ys c r
  put_same p e = rw e at p

-- a digit below ten
glyph-digit : (d : ℕ) → d < 10 → hex_digit_ascii d ≡ 48 + d
glyph-digit d h = rw (lt-ltb d 10 h)

ten-pow-pos : (k : ℕ) → 0 < 10 ^ k
ten-pow-pos zero = omega arith
ten-pow-pos (suc k) = let h = ten-pow-pos k in omega (arith, pow-suc 10 k)

-- the fewest digits have no zero in front
pub digits_decimal : (k n : ℕ) → IsDigitCount 10 1 n k → last_digits 10 k n ≡ decimal n
digits_decimal zero n f = absurd (omega arith)
digits_decimal (suc zero) n f =
    let few : n < 10 = f.1 in
    let same : n % 10 ≡ n = omega arith in
    ap (λ (d : ℕ). hex_digit_ascii d ∷ []) same ∙ (ap (λ (d : ℕ). d ∷ []) (glyph-digit n few) ∙ sym (decimal-small n few))
digits_decimal (suc (suc k)) n f =
    let front = digits_decimal (suc k) (n / 10) (omega arith, omega (arith, f.1, pow-suc 10 (suc k)), least) in
    let last = glyph-digit (n % 10) (omega arith) in
    ap (λ (ds : List ℕ). ds ++ (hex_digit_ascii (n % 10) ∷ [])) front
    ∙ (ap (λ (d : ℕ). decimal (n / 10) ++ (d ∷ [])) last
    ∙ sym (decimal-large n (omega (arith, tenfold, many, ten-pow-pos k))))
  where
    many : 10 ^ suc k ≤ n
    many = let back : suc (suc k) - 1 ≡ suc k = omega arith in subst (λ (j : ℕ). 10 ^ j ≤ n) back (f.2 (omega arith))

    tenfold : 10 ^ suc k ≡ 10 ^ k * 10
    tenfold = pow-suc 10 k

    least : 1 < suc k → 10 ^ (suc k - 1) ≤ n / 10
    least h =
        let one : suc k - 1 ≡ k = omega arith in
        subst (λ (j : ℕ). 10 ^ j ≤ n / 10) (sym one) (omega (arith, many, tenfold))

-- a number of 64 bits is below 10 ^ 20
pub twenty-digits : (k n : ℕ) → n < 2 ^ 64 → IsDigitCount 10 1 n k → k ≤ 20
twenty-digits k n h f = let few = no_more in omega arith
  where
    no_more : 20 < k → ⊥
    no_more l =
        let most : 10 ^ 20 ≤ 10 ^ (k - 1) =
        pow-le-pow_right {n = 10} (omega arith) {i = 20} {j = k - 1} (omega arith) in
        let least = f.2 (omega arith) in
        omega arith
