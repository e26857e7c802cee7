-- The digits of a number in base ten: a digit behind a number makes ten times the number and the digit, and each number
-- but 0 is made so from a first digit that is not 0. A low number has few digits.
use Rattle.std.specs.Prelude.{ℕ, zero, suc, ◌+◌, ◌*◌, ◌/◌, ◌%◌, ◌^◌, ◌≤◌, ◌<◌, ◌≡◌, refl, List, [], ◌∷◌, ◌++◌, ◌⊎◌, length, ltb}
use Rattle.std.proofs.Common.{arith, pow-suc, sym, ◌∙◌, ap, subst, append_assoc, append-nil, inl, inr, ⊎_elim, length-append, ltb→lt, lt→ltb, nltb→le}
use Rattle.lists.specs.Bytes.{digits_of, decimal}
use Rattle.lists.specs.Tests.{T→true, fails→false, not-passes, passes?}

-- these digits behind m make n
pub data Grows : ℕ → List ℕ → ℕ → Type 0 where
  whole : {m : ℕ} → Grows m [] m
  digit : {m : ℕ} (d : ℕ) {ds : List ℕ} {n : ℕ} → d < 10 → Grows (m * 10 + d) ds n → Grows m ((48 + d) ∷ ds) n

-- a further digit, at the end
last-digit : {m : ℕ} {ds : List ℕ} {n : ℕ} (d : ℕ) → d < 10 → Grows m ds n
    → Grows m (ds ++ ((48 + d) ∷ [])) (n * 10 + d)
last-digit d h whole = digit d h whole
last-digit d h (digit e k g) = digit e k (last-digit d h g)

small : (fuel n : ℕ) → n < 10 → digits_of (suc fuel) n ≡ (48 + n) ∷ []
unfolding digits_of
small fuel n h = rw (T→true (ltb n 10) (lt→ltb n 10 h)) refl

large : (fuel n : ℕ) → 10 ≤ n → digits_of (suc fuel) n ≡ digits_of fuel (n / 10) ++ ((48 + n % 10) ∷ [])
unfolding digits_of
large fuel n h = rw (fails→false (ltb n 10) (λ t. let l = ltb→lt n 10 t in absurd (omega arith))) refl

below-ten? : (n : ℕ) → (n < 10) ⊎ (10 ≤ n)
below-ten? n =
    ⊎_elim (λ t. inl (ltb→lt n 10 t)) (λ f. inr (nltb→le n 10 (not-passes (ltb n 10) f))) (passes? (ltb n 10))

-- more fuel than the number's value changes nothing
enough : (f g n : ℕ) → n < f → n < g → digits_of f n ≡ digits_of g n
enough zero g n h k = absurd (omega arith)
enough (suc f) zero n h k = absurd (omega arith)
enough (suc f) (suc g) n h k =
    ⊎_elim (λ l. small f n l ∙ sym (small g n l)) (λ l. large f n l
    ∙ (ap (λ (ds : List ℕ). ds ++ ((48 + n % 10) ∷ [])) (enough f g (n / 10) (omega arith) (omega arith))
    ∙ sym (large g n l))) (below-ten? n)

pub decimal-small : (n : ℕ) → n < 10 → decimal n ≡ (48 + n) ∷ []
decimal-small n h = small n n h

pub decimal-large : (n : ℕ) → 10 ≤ n → decimal n ≡ decimal (n / 10) ++ ((48 + n % 10) ∷ [])
decimal-large n h =
    large n n h ∙ ap (λ (ds : List ℕ). ds ++ ((48 + n % 10) ∷ []))
    (enough n (suc (n / 10)) (n / 10) (omega arith) (omega arith))

-- a number below a power of ten has no more digits than the power
pub decimal-few : (k n : ℕ) → n < 10 ^ suc k → length (decimal n) ≤ suc k
decimal-few zero n h = omega (arith, ap length (decimal-small n h))
decimal-few (suc k) n h =
    ⊎_elim (λ l. omega (arith, ap length (decimal-small n l)))
    (λ l. let front = decimal-few k (n / 10) (omega (arith, pow-suc 10 (suc k))) in
    omega (arith, ap length (decimal-large n l), length-append (decimal (n / 10)) ((48 + n % 10) ∷ []))) (below-ten? n)

pub decimal_digit : (m d : ℕ) → 1 ≤ m → d < 10 → decimal (m * 10 + d) ≡ decimal m ++ ((48 + d) ∷ [])
decimal_digit m d h k =
    let front : (m * 10 + d) / 10 ≡ m = omega arith in
    let last : (m * 10 + d) % 10 ≡ d = omega arith in
    subst (λ (q : ℕ). decimal (m * 10 + d) ≡ decimal q ++ ((48 + d) ∷ [])) front
    (subst (λ (r : ℕ). decimal (m * 10 + d) ≡ decimal ((m * 10 + d) / 10) ++ ((48 + r) ∷ [])) last
    (decimal-large (m * 10 + d) (omega arith)))

-- what grows from m is written as m is, and then the digits
pub grown : {m : ℕ} {ds : List ℕ} {n : ℕ} → 1 ≤ m → Grows m ds n → decimal n ≡ decimal m ++ ds
grown {m} h whole = sym (append-nil (decimal m))
grown {m} h (digit d {ds} k g) =
    grown (omega arith) g ∙ (ap (λ (front : List ℕ). front ++ ds) (decimal_digit m d h k)
    ∙ append_assoc (decimal m) ((48 + d) ∷ []) ds)

-- a number that is not 0 has a first digit that is not 0, and grows from it
pub record FirstDigit (n : ℕ) : Type 0 where
  pub first : ℕ
  pub more : List ℕ
  pub low : 1 ≤ first
  pub high : first < 10
  pub written : decimal n ≡ (48 + first) ∷ more
  pub grows : Grows first more n

pub first-digit : (n : ℕ) → 1 ≤ n → FirstDigit n
first-digit n h = go n n h (omega arith)
  where
    go : (fuel k : ℕ) → 1 ≤ k → k ≤ fuel → FirstDigit k
    go zero k l u = absurd (omega arith)
    go (suc fuel) k l u =
        ⊎_elim {C = FirstDigit k} (λ few. record {
          first = k;
          more = [];
          low = l;
          high = few;
          written = decimal-small k few;
          grows = whole;
        })
        (λ many. longer many (go fuel (k / 10) (omega arith) (omega arith))) (below-ten? k)
      where
        longer : 10 ≤ k → FirstDigit (k / 10) → FirstDigit k
        longer many r =
            record {
              first = r.first;
              more = r.more ++ ((48 + k % 10) ∷ []);
              low = r.low;
              high = r.high;
              written = decimal-large k many ∙ ap (λ (ds : List ℕ). ds ++ ((48 + k % 10) ∷ [])) r.written;
              grows = let e : k / 10 * 10 + k % 10 ≡ k = omega arith in
                  subst (λ (j : ℕ). Grows r.first (r.more ++ ((48 + k % 10) ∷ [])) j) e
                  (last-digit (k % 10) (omega arith) r.grows);
            }
