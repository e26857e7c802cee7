-- The row check by its parts: the first high number of a row and of two rows put end to end, and what the counts of two
-- rows tell of a channel's nets.
use Rattle.std.specs.Prelude.{ℕ, suc, ◌+◌, ◌-◌, ◌≤◌, ◌<◌, ◌≡◌, List, ◌++◌, get_or, replicate, ltb, eqb, find, Some, None}
use native.Mathlib.Omega.{arith}
use Rattle.std.proofs.Math.Decide.{dec_le}
use Rattle.std.proofs.Common.{sym, ◌∙◌, ⊎_elim, ltb→lt, lt→ltb}
use Rattle.std.proofs.Math.Path.{ap, subst}
use Rattle.std.proofs.Math.ListN.{length, length-append}
use Rattle.std.proofs.lemmas.List.{length-replicate}
use Rattle.std.proofs.Math.Dec.{T}
use Rattle.lists.specs.Lists.{at, up_to, head_or}
use Rattle.lists.specs.Firsts.{Passing}
use Rattle.lists.specs.Ends.{at_suc}
use Rattle.lists.specs.Tests.{equal?}
use Rattle.lists.specs.Pigeonhole.{length-keep}
use Rattle.lists.specs.Places.{at_left, at_right}
use Rattle.lists.specs.Tallies.{first_of, length-keep-append, first-is, first-none, is-first, none_first}
use Rattle.lists.specs.Finds.{scan-found, scan-none, found-lowest, found-head, not-found-head}
use Rattle.lists.specs.Counts.{get_or-zeros, tally, tally-length, tally-times}
use Rattle.channel.specs.Channel.{Channel, highest_net, pin_count}
use Rattle.channel.specs.Rows.{high, first_high}

-- place i + 1 of a row holds a high number exactly if the number at i is over 511
high-at : (row : List ℕ) (i : ℕ) → 511 < get_or row i 0 → T (high row (suc i))
high-at row i h = lt→ltb highest_net (at row (suc i)) (let e = at_suc row i in omega arith)

at_high : (row : List ℕ) (i : ℕ) → T (high row (suc i)) → 511 < get_or row i 0
at_high row i t = let h = ltb→lt highest_net (at row (suc i)) t in let e = at_suc row i in omega arith

-- the scan of a row from its front stops at the first high number, or finds none
pub first-high-at : (row : List ℕ) (i : ℕ) → i < length row → 511 < get_or row i 0
    → ((k : ℕ) → k < i → get_or row k 0 ≤ 511) → Some (i + 1) ≡ find (high row) (up_to (length row))
first-high-at row i inside here before =
    scan-found (high row) (length row) i inside (high-at row i here) (λ k l t. let b = before k l in
    let h = at_high row k t in omega arith)

pub no-first-high : (row : List ℕ) → ((k : ℕ) → k < length row → get_or row k 0 ≤ 511)
    → None ≡ find (high row) (up_to (length row))
no-first-high row low =
    scan-none (high row) (length row) (λ k l t. let b = low k l in let h = at_high row k t in omega arith)

-- as a number, which is not 0 where one is found, and within the row
pub record HighFound (row : List ℕ) (p : ℕ) : Type 0 where
  pub first : first_high row ≡ p
  pub some : first_high row ≡ 0 → ⊥
  pub inside : p ≤ length row

pub found-high : (row : List ℕ) {p : ℕ} → Some p ≡ find (high row) (up_to (length row)) → HighFound row p
unfolding first_high
found-high row e =
    let h = (found-lowest (high row) (length row) (sym e)).holds in
    let low = h.low in
    let above = h.high in
    let same = found-head (high row) 0 (up_to (length row)) (sym e) in
    record { first = same; some = λ z. omega arith; inside = omega arith }

pub found-no-high : (row : List ℕ) → None ≡ find (high row) (up_to (length row)) → first_high row ≡ 0
unfolding first_high
found-no-high row e = not-found-head (high row) 0 (up_to (length row)) (sym e)

-- and where it says that there is none, there is none
pub none-high : (row : List ℕ) → first_high row ≡ 0 → (k : ℕ) → k < length row → get_or row k 0 ≤ 511
unfolding first_high
none-high row e k inside =
    elim (dec_le (get_or row k 0) 511) [
      | yes h ↦ h
      | no h ↦
          absurd (none_first (high row) (length row) e (suc k)
          (record { low = omega arith; high = omega arith; passes = high-at row k (omega arith) }))
    ]

-- the first high number stands within the row
pub first-high-most : (row : List ℕ) → first_high row ≤ length row
unfolding first_high
first-high-most row =
    ⊎_elim (λ e. omega arith) (λ some. let h = (is-first (high row) (length row) some).holds in let u = h.high in
    omega arith)
    (equal? (first_of (high row) (length row)) 0)

-- the counts before any pin is counted
unfoldable pub zeros : List ℕ
zeros = replicate 512 0

zeros-length : length zeros ≡ 512
unfolding zeros
zeros-length = length-replicate {A = ℕ} 512 0

zeros-at : (n : ℕ) → get_or zeros n 0 ≡ 0
unfolding zeros
zeros-at n = get_or-zeros 512 n

pub zeros_within : (n : ℕ) → n < 512 → get_or zeros n 0 ≤ 512
zeros_within n inside = let z = zeros-at n in omega arith

-- the numbers of a row without high ones each have a count
has-count : (row counts : List ℕ) → first_high row ≡ 0 → length counts ≡ 512 → (k : ℕ) → k < length row
    → get_or row k 0 < length counts
has-count row counts none full k inside = let h = none-high row none k inside in omega arith

-- counted from nothing, a net has no more pins in a row than the row has columns
pub counts-within : (row : List ℕ) → first_high row ≡ 0 → (n : ℕ) → n < 512 → get_or (tally row zeros) n 0 ≤ length row
counts-within row none n inside =
    let e = tally-times row zeros n (has-count row zeros none zeros-length) in
    let z = zeros-at n in
    let l = length-keep (eqb n) row in
    omega arith

-- place p of two rows put end to end is a place of the first, or one of the second
high-left : (xs ys : List ℕ) (p : ℕ) → p ≤ length xs → high (xs ++ ys) p ≡ high xs p
high-left xs ys p h = ap (ltb highest_net) (at_left xs ys p h)

high-right : (xs ys : List ℕ) (p : ℕ) → 0 < p → high (xs ++ ys) (length xs + p) ≡ high ys p
high-right xs ys p h = ap (ltb highest_net) (at_right xs ys p h)

-- the first high number of two rows is that of the first, or else that of the second, further on by the first's length
pub first-high-left : (xs ys : List ℕ) → (first_high xs ≡ 0 → ⊥) → first_high (xs ++ ys) ≡ first_high xs
unfolding first_high
first-high-left xs ys some =
    let l = is-first (high xs) (length xs) some in
    let p = first_of (high xs) (length xs) in
    let h = l.holds in
    let u = h.high in
    first-is (high (xs ++ ys)) (length (xs ++ ys)) p
    (record {
      holds = record {
        low = h.low;
        high = omega (arith, length-append xs ys);
        passes = subst T (sym (high-left xs ys p (omega arith))) h.passes;
      };
      lowest = λ q k. elim (dec_le q (length xs)) [
        | yes i ↦
            l.lowest q (record {
              low = k.low;
              high = omega arith;
              passes = subst T (high-left xs ys q i) k.passes;
            })
        | no i ↦ omega arith
      ];
    })

-- a place that holds a high number is beyond the first row, if that has none
module _ (xs ys : List ℕ) (none : first_high xs ≡ 0) where
  beyond : (q : ℕ) → Passing (high (xs ++ ys)) 1 (length (xs ++ ys)) q
      → (r : ℕ) × (q ≡ length xs + r) × Passing (high ys) 1 (length ys) r
  unfolding first_high
  beyond q k =
      elim (dec_le q (length xs)) [
        | yes i ↦ absurd (none_first (high xs) (length xs) none q
            (record { low = k.low; high = omega arith; passes = subst T (high-left xs ys q i) k.passes }))
        | no i ↦
            right (omega arith)
      ]
    where
      right : length xs < q → (r : ℕ) × (q ≡ length xs + r) × Passing (high ys) 1 (length ys) r
      right i =
          let r = q - length xs in
          let e : q ≡ length xs + r = omega arith in
          let u = k.high in (
            r,
            e,
            record {
              low = omega arith;
              high = omega (arith, length-append xs ys);
              passes = subst T (ap (high (xs ++ ys)) e ∙ high-right xs ys r (omega arith)) k.passes;
            },
          )

  pub first-high-right : (first_high ys ≡ 0 → ⊥) → first_high (xs ++ ys) ≡ length xs + first_high ys
  unfolding first_high
  first-high-right some =
      let l = is-first (high ys) (length ys) some in
      let p = first_of (high ys) (length ys) in
      let h = l.holds in
      let d = h.low in
      let u = h.high in
      first-is (high (xs ++ ys)) (length (xs ++ ys)) (length xs + p)
      (record {
        holds = record {
          low = omega arith;
          high = omega (arith, length-append xs ys);
          passes = subst T (sym (high-right xs ys p d)) h.passes;
        };
        lowest = λ q k. let b = beyond q k in
            let m = l.lowest b.0 b.2 in let e = b.1 in omega arith;
      })

  pub first-high-neither : first_high ys ≡ 0 → first_high (xs ++ ys) ≡ 0
  unfolding first_high head_or
  first-high-neither low =
      ap (head_or 0) (first-none (high (xs ++ ys)) (length (xs ++ ys))
      (λ q k. let b = beyond q k in none_first (high ys) (length ys) low b.0 b.2))

module _ (ch : Channel) where
  -- counted one after the other from nothing, the two rows give each net's pins
  pub pins-counted : first_high ch.top ≡ 0 → first_high ch.bot ≡ 0 → (n : ℕ) → n < 512
      → get_or (tally ch.bot (tally ch.top zeros)) n 0 ≡ pin_count ch n
  unfolding pin_count
  pins-counted top-low bot-low n inside =
      let once = tally ch.top zeros in
      let full : length once ≡ 512 = tally-length ch.top zeros ∙ zeros-length in
      let a = tally-times ch.top zeros n (has-count ch.top zeros top-low zeros-length) in
      let b = tally-times ch.bot once n (has-count ch.bot once bot-low full) in
      let z = zeros-at n in
      let t = length-keep-append (eqb n) ch.top ch.bot in
      omega arith
