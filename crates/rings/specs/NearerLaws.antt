-- The test of a net that is one step nearer home than the net above it, case by case, and as the code asks it.
use Rattle.std.specs.Prelude.{ℕ, suc, ◌+◌, ◌≡◌, List, ◌&&◌, not, get_or, ltb, eqb}
use Rattle.std.proofs.Common.{add-one, arith, sym, ltb→lt, lt→ltb, eqb→eq, eq-eqb, ne_eqb}
use Rattle.lists.specs.Tests.{same_test, eq→T, not-passes, not-fails}
use Rattle.rings.specs.Search.{nearer}

-- the code's test that a number is not 0
some-test : (n : ℕ) → not (eqb n 0) ≡ ltb 0 n
some-test n =
    same_test (not (eqb n 0)) (ltb 0 n)
    (λ t. lt→ltb 0 n (let h : n ≡ 0 → ⊥ = λ e. not-fails (eqb n 0) t (eq→T n 0 e) in omega (arith, h)))
    (λ t. not-passes (eqb n 0) (λ e. let z = eqb→eq n 0 e in let h = ltb→lt 0 n t in omega arith))

module _ (far : List ℕ) (home a b : ℕ) where
  -- above `home` itself it is the test of one step left
  pub nearer-home : b ≡ home → nearer far home a b ≡ eqb (get_or far a 0) 1
  unfolding nearer
  nearer-home e = rw (eq-eqb b home e)

  -- above another net it is the test that this has steps left, and one less
  pub nearer-other : (b ≡ home → ⊥)
      → nearer far home a b ≡ (ltb 0 (get_or far b 0) && eqb (get_or far a 0) (suc (get_or far b 0)))
  unfolding nearer
  nearer-other apart = rw (ne_eqb b home apart)

  -- the same in the code's words
  pub nearer-tested : (b ≡ home → ⊥)
      → (not (eqb (get_or far b 0) 0) && eqb (get_or far a 0) (get_or far b 0 + 1)) ≡ nearer far home a b
  nearer-tested apart = rw (some-test (get_or far b 0), add-one) (sym (nearer-other apart))
