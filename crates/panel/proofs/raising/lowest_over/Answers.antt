use Prim.Native.Nat.{ℕ, ◌+◌, ◌≤◌, ◌<◌}
use native.Mathlib.Numerals.{add-one}
use native.Mathlib.Omega.{arith}
use mathlib.Core.Path.{◌≡◌}
use mathlib.Core.List.{List}
use mathlib.Core.Bool.{false, cond, ◌&&◌, and-false}
use mathlib.Core.Logic.{◌⊎◌, inl, inr, ⊎_elim}
use borrow.Author.Tests.{lt-ltb, le-ltb}
use lib.ListN.{length, get_or, drop, drop_of_length-le}
use lib.Seq.{drop-cons}
use lib.Dec.{ltb}
use Rattle.panel.specs.Code.{lowest_over}
use Rattle.panel.proofs.raising.lowest_over.Goals as goal
use Rattle.panel.proofs.raising.lowest_over.Goals.{then-limit-n+then-n-lowest, else-limit-n, else-limit-n-via-then-limit-n+else-n-lowest, else-limit-n-via-else-limit-n}

-- a turn, by its tests
module _ (row : List ℕ) (limit i low m : ℕ) (inside : i < length row) (e : lowest_over limit (drop i row) low ≡ m) where
  next : lowest_over limit (drop (i + 1) row)
      (cond (ltb limit (get_or row i 0) && ltb (get_or row i 0) low) (get_or row i 0) low) ≡ m
  unfolding lowest_over
  next = rw (drop-cons row i 0, ← add-one i) at e

  lower : limit < get_or row i 0 → get_or row i 0 < low → lowest_over limit (drop (i + 1) row) (get_or row i 0) ≡ m
  lower h k = rw (lt-ltb limit (get_or row i 0) h, lt-ltb (get_or row i 0) low k) at next

  same : (get_or row i 0 ≤ limit) ⊎ (low ≤ get_or row i 0) → lowest_over limit (drop (i + 1) row) low ≡ m
  same h =
      let fails : (ltb limit (get_or row i 0) && ltb (get_or row i 0) low) ≡ false =
      ⊎_elim (λ k. rw (le-ltb limit (get_or row i 0) k))
      (λ k. rw (le-ltb (get_or row i 0) low k) (and-false (ltb limit (get_or row i 0)))) h in
      rw fails at next

done : (row : List ℕ) (limit i low m : ℕ) → length row ≤ i → lowest_over limit (drop i row) low ≡ m → low ≡ m
unfolding lowest_over
done row limit i low m h e = rw (drop_of_length-le row h) at e

pub loop-n-preserved : goal.loop-n-preserved
loop-n-preserved c =
    let l = c.loop-n in
    elim c.if-limit-n.branch [
      | then-limit-n+then-n-lowest w ↦
          rw w.lowest-is (lower _ _ l.n-index _ _ (omega arith) l.invariant w.if-limit-n.true w.if-n-lowest.true)
      | else-limit-n w ↦
          rw w.lowest-is (same _ _ l.n-index _ _ (omega arith) l.invariant (elim w.else-limit-n.branch [
            | else-limit-n-via-then-limit-n+else-n-lowest v ↦ inr v.if-n-lowest.false
            | else-limit-n-via-else-limit-n v ↦ inl v.if-limit-n.false
          ]))
    ]

pub returns : goal.returns
returns c = let l = c.loop-n in done _ _ l.n-index _ _ c.loop-n-test.false l.invariant
