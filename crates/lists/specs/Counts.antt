-- How often numbers stand in a list, and counts by number that are raised or lowered for each number of a list.
use Rattle.std.specs.Prelude.{ℕ, zero, suc, ◌+◌, ◌-◌, ◌≤◌, ◌<◌, ◌≡◌, refl, length, get_or, set, drop, replicate, eqb}
use Rattle.std.proofs.Common.{add-one, arith, ◌∙◌, ap, ⊎_elim, length-set, drop_of_length-le, drop-cons, get_or-set_same, get_or-set_other, eqb→eq}
use Rattle.std.proofs.Math.Decide.{dec_lt}
use mathlib.Core.List.{List, [], ◌∷◌, Memᴰ}
use Rattle.std.proofs.Math.ListN.{get_or-eq_default}
use Rattle.std.proofs.Math.Dec.{eqb_refl}
use Rattle.lists.specs.Lists.{keep}
use Rattle.lists.specs.Tests.{T→true, fails→false, equal?}

-- how often n stands in a list
abbrev pub times : ℕ → List ℕ → ℕ
times n ns = length (keep (eqb n) ns)

-- counts before anything is counted
pub get_or-zeros : (size k : ℕ) → ◌≡◌ {A = ℕ} (get_or (replicate size 0) k 0) 0
get_or-zeros zero k = refl
get_or-zeros (suc size) zero = refl
get_or-zeros (suc size) (suc k) = get_or-zeros size k

pub none-counted : {counts : List ℕ} → counts ≡ replicate (length counts) 0 → (n : ℕ) → get_or counts n 0 ≡ 0
none-counted {counts} e n = ap (λ (l : List ℕ). get_or l n 0) e ∙ get_or-zeros (length counts) n

-- each number of the list counted one more time, or one less; the count of n stands at n
unfoldable pub tally : List ℕ → List ℕ → List ℕ
tally [] counts = counts
tally (n ∷ ns) counts = tally ns (set counts n (get_or counts n 0 + 1))

unfoldable pub lowered : List ℕ → List ℕ → List ℕ
lowered [] counts = counts
lowered (n ∷ ns) counts = lowered ns (set counts n (get_or counts n 0 - 1))

-- a turn of the count takes the next number of the list, and where none is left the count is done
pub tally-step : (row counts : List ℕ) (i : ℕ) → i < length row
    → tally (drop (i + 1) row) (set counts (get_or row i 0) (get_or counts (get_or row i 0) 0 + 1)) ≡ tally
    (drop i row) counts
unfolding tally
tally-step row counts i inside = rw (add-one i, drop-cons row i 0)

pub tally-done : (row counts : List ℕ) (i : ℕ) → length row ≤ i → tally (drop i row) counts ≡ counts
unfolding tally
tally-done row counts i past = rw (drop_of_length-le row past)

-- one number in front
pub times-same : (n : ℕ) (ns : List ℕ) → times n (n ∷ ns) ≡ suc (times n ns)
unfolding keep
times-same n ns = rw (T→true (eqb n n) (eqb_refl n))

pub times-other : (n m : ℕ) (ns : List ℕ) → (n ≡ m → ⊥) → times n (m ∷ ns) ≡ times n ns
unfolding keep
times-other n m ns apart = rw (fails→false (eqb n m) (λ t. apart (eqb→eq n m t)))

pub tally-length : (ns counts : List ℕ) → length (tally ns counts) ≡ length counts
unfolding tally
tally-length [] counts = refl
tally-length (m ∷ ms) counts =
    tally-length ms (set counts m (get_or counts m 0 + 1)) ∙ length-set counts m (get_or counts m 0 + 1)

pub lowered-length : (ns counts : List ℕ) → length (lowered ns counts) ≡ length counts
unfolding lowered
lowered-length [] counts = refl
lowered-length (m ∷ ms) counts =
    lowered-length ms (set counts m (get_or counts m 0 - 1)) ∙ length-set counts m (get_or counts m 0 - 1)

-- counting a list raises each count by how often its number stands in the list
pub tally-times : (ns counts : List ℕ) (n : ℕ) → ((k : ℕ) → k < length ns → get_or ns k 0 < length counts)
    → get_or (tally ns counts) n 0 ≡ get_or counts n 0 + times n ns
unfolding tally keep
tally-times [] counts n low = omega arith
tally-times (m ∷ ms) counts n low =
    let rest = tally-times ms (set counts m (get_or counts m 0 + 1)) n
    (λ k h. rw length-set (low (suc k) (omega arith))) in
    ⊎_elim (λ e. let q = get_or-set_same counts m (get_or counts m 0 + 1) 0 (low 0 (omega arith)) in
    rw e (let r = rw e at rest in let s = times-same m ms in grind (arith, r, s, q)))
    (λ apart. let q = get_or-set_other counts m n (get_or counts m 0 + 1) 0 apart in
    let s = times-other n m ms apart in omega arith) (equal? n m)

-- and lowering lowers them, where no count falls short
module _ (m : ℕ) (ms counts : List ℕ) (enough : (n : ℕ) → times n (m ∷ ms) ≤ get_or counts n 0) where
  pub counted-inside : m < length counts
  counted-inside =
      let one = times-same m ms in
      let e = enough m in
      elim (dec_lt m (length counts)) [
        | yes h ↦ h
        | no h ↦ absurd (let z = get_or-eq_default counts 0 {n = m} (omega arith) in omega arith)
      ]

  pub still-enough : (n : ℕ) → times n ms ≤ get_or (set counts m (get_or counts m 0 - 1)) n 0
  still-enough n =
      let e = enough n in
      ⊎_elim (λ q. let hit = get_or-set_same counts m (get_or counts m 0 - 1) 0 counted-inside in
      let one = times-same m ms in rw q (let f = rw q at e in omega arith))
      (λ apart. let miss = get_or-set_other counts m n (get_or counts m 0 - 1) 0 apart in
      let same = times-other n m ms apart in omega arith) (equal? n m)

pub lowered-times : (ns counts : List ℕ) (n : ℕ) → ((m : ℕ) → times m ns ≤ get_or counts m 0)
    → get_or (lowered ns counts) n 0 + times n ns ≡ get_or counts n 0
unfolding lowered keep
lowered-times [] counts n enough = omega arith
lowered-times (m ∷ ms) counts n enough =
    let rest = lowered-times ms (set counts m (get_or counts m 0 - 1)) n (still-enough m ms counts enough) in
    let e = enough n in
    ⊎_elim (λ q. let hit = get_or-set_same counts m (get_or counts m 0 - 1) 0 (counted-inside m ms counts enough) in
    let one = times-same m ms in rw q (let f = rw q at e in let r = rw q at rest in grind (arith, f, r, one, hit)))
    (λ apart. let miss = get_or-set_other counts m n (get_or counts m 0 - 1) 0 apart in
    let same = times-other n m ms apart in omega arith) (equal? n m)

-- what is counted is a member
pub counted-member : (n : ℕ) (ns : List ℕ) → 0 < times n ns → Memᴰ n ns
counted-member n [] h = absurd (unfold keep in (omega arith))
counted-member n (m ∷ ms) h =
    ⊎_elim Memᴰ.head (λ apart. let e = times-other n m ms apart in
    Memᴰ.tail (counted-member n ms (omega arith))) (equal? n m)
