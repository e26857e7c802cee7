-- The looks of a fill: their ceiling, and that more fuel than items changes nothing. Each scan but the last leaves
-- fewer items than it looked at, so n items are looked at n, n - 1, .. times at most.
use Rattle.std.specs.Prelude.{ℕ, zero, suc, ◌+◌, ◌*◌, ◌≤◌, ◌≡◌, refl, List, [], cond, length, eqb}
use Rattle.std.proofs.Common.{mul-le-mul, mul-add, suc-mul, arith, sym, ◌∙◌, ⊎_elim, eq-eqb, ne_eqb}
use Rattle.std.proofs.Math.Option.{none}
use Rattle.lists.specs.Tests.{equal?}
use Rattle.lists.specs.Orders.{sublist-length}
use Rattle.leftedge.specs.Items.{Items, Place}
use Rattle.leftedge.specs.Fill.{Scan, scan}
use Rattle.leftedge.proofs.ScanLaws.{trace, scan-sublist}
use Rattle.leftedge.specs.Looks.{looks_from, item_looks, ceiling}

pub ceiling-next : (n : ℕ) → ceiling (suc n) ≡ suc n + ceiling n
unfolding ceiling
ceiling-next n = let e = suc-mul n (suc n + 1) in let f = mul-add n (n + 1) 1 in omega arith

pub ceiling-rises : {m n : ℕ} → m ≤ n → ceiling m ≤ ceiling n
unfolding ceiling
ceiling-rises {m} {n} h = let k : m * (m + 1) ≤ n * (n + 1) = mul-le-mul h (omega arith) in omega arith

-- one scan of n items is n looks
ceiling-above : (n : ℕ) → n ≤ ceiling n
ceiling-above zero = omega arith
ceiling-above (suc n) = omega (arith, ceiling-next n)

-- a scan of n items that leaves fewer, and the looks to come, which are below the ceiling of those left
falling : (n : ℕ) {m further : ℕ} → m ≤ n → (m ≡ n → ⊥) → further ≤ ceiling m → n + further ≤ ceiling n
falling zero h less below = absurd (less (omega arith))
falling (suc n) {m} h less below =
    let rises = ceiling-rises {m = m} {n = n} (omega (arith, less)) in omega (arith, ceiling-next n)

module _ (it : Items) (done : ℕ) (ps : List Place) where
  abbrev after : List ℕ → Scan
  after ls = scan it (suc done) none ps ls

  pub scan-fewer : (ls : List ℕ) → length (after ls).left ≤ length ls
  scan-fewer ls = sublist-length (scan-sublist (trace it (suc done) none ps ls))

looks-below : (it : Items) (fuel done : ℕ) (ps : List Place) (left : List ℕ)
    → looks_from fuel it done ps left ≤ ceiling (length left)
unfolding looks_from
looks-below it zero done ps left = omega arith
looks-below it (suc fuel) done ps left =
    let s = after it done ps left in
    ⊎_elim (λ e. rw (eq-eqb (length s.left) (length left) e) (omega (arith, ceiling-above (length left))))
    (λ less. rw (ne_eqb (length s.left) (length left) less) (falling (length left) (scan-fewer it done ps left) less
    (looks-below it fuel (suc done) s.placed s.left))) (equal? (length s.left) (length left))

-- "For n nets with spans it is at most n times (n + 1), halved", of any items
pub looks-few : (it : Items) → item_looks it ≤ ceiling (length it.order)
unfolding item_looks
looks-few it = looks-below it (length it.order) 0 [] it.order

same-fuel : (it : Items) (f g done : ℕ) (ps : List Place) (left : List ℕ) → length left ≤ f → f ≤ g
    → looks_from g it done ps left ≡ looks_from f it done ps left
unfolding looks_from
same-fuel it zero zero done ps left enough more = refl
same-fuel it zero (suc g) done ps left enough more =
    let h = scan-fewer it done ps left in
    let same : length (after it done ps left).left ≡ length left = omega arith in
    rw (eq-eqb (length (after it done ps left).left) (length left) same) (omega arith)
same-fuel it (suc f) zero done ps left enough more = absurd (omega arith)
same-fuel it (suc f) (suc g) done ps left enough more =
    let s = after it done ps left in
    let h = scan-fewer it done ps left in
    ⊎_elim (λ e. rw (eq-eqb (length s.left) (length left) e))
    (λ less. let on = same-fuel it f g (suc done) s.placed s.left (omega (arith, less)) (omega arith) in
    rw (ne_eqb (length s.left) (length left) less, on)) (equal? (length s.left) (length left))

-- the looks from the scan for the next track on
pub looks-track : (it : Items) (done : ℕ) (ps : List Place) (ls : List ℕ) → let s = after it done ps ls in
    looks_from (length ls) it done ps ls ≡ length ls + cond (eqb (length s.left) (length ls)) 0
    (looks_from (length s.left) it (suc done) s.placed s.left)
unfolding looks_from
looks-track it done ps ls =
    let s = after it done ps ls in
    sym (same-fuel it (length ls) (suc (length ls)) done ps ls (omega arith) (omega arith))
    ∙ rw (same-fuel it (length s.left) (length ls) (suc done) s.placed s.left (omega arith)
    (scan-fewer it done ps ls))
