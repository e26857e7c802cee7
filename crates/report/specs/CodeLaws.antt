-- The lines of a ring that is stored as pairs: one pair more, and the pairs of the steps shown.
use Rattle.std.specs.Prelude.{ℕ, zero, suc, ◌+◌, ◌*◌, ◌<◌, ◌≤◌, ◌≡◌, refl, List, [], ◌∷◌, ◌++◌, length, get_or, take}
use Rattle.std.specs.Simd.{first_chunks}
use Rattle.std.proofs.Common.{arith, add-one, sym, ◌∙◌, ap, append-nil, get_or-take}
use Rattle.lists.specs.Lists.{each, from}
use Rattle.lists.specs.Arrays.{from-snoc}
use Rattle.lists.specs.Runs.{each_append}
use Rattle.channel.specs.Constraints.{Step}
use Rattle.leftedge.specs.Walk.{ring_numbers}
use Rattle.report.specs.Lines.{ring_lines}
use Rattle.report.specs.Code.{pair_line, ring_text}

-- the numbers of a buffer, two by two
pub chunk-at : (k : ℕ) (ring : List ℕ) (i : ℕ) → i < k → 2 * k ≤ length ring
    → get_or (first_chunks 2 k ring) i [] ≡ get_or ring (2 * i) 0 ∷ get_or ring (2 * i + 1) 0 ∷ []
chunk-at zero ring i h l = absurd (omega arith)
chunk-at (suc k) [] i h l = absurd (omega arith)
chunk-at (suc k) (a ∷ []) i h l = absurd (omega arith)
chunk-at (suc k) (a ∷ b ∷ ring) zero h l = refl
chunk-at (suc k) (a ∷ b ∷ ring) (suc i) h l =
    let net : 2 * suc i ≡ suc (suc (2 * i)) = omega arith in
    let column : suc (suc (2 * i)) + 1 ≡ suc (suc (2 * i + 1)) = omega arith in
    rw (net, column) (chunk-at k ring i (omega arith) (omega arith))

-- one pair more
pub ring-more : (ring : List ℕ) (n : ℕ) → ring_text ring (n + 1) ≡ ring_text ring n ++ pair_line ring n
unfolding ring_text each
ring-more ring n = let start : 0 + n ≡ n = omega arith in rw (add-one n, from-snoc 0 n, each_append, append-nil, start)

-- the pairs from number a on are those of these steps
pairs-lines : (ring : List ℕ) (a : ℕ) (steps : List Step)
    → ((j : ℕ) → j < 2 * length steps → get_or ring (2 * a + j) 0 ≡ get_or (ring_numbers steps) j 0)
    → each (pair_line ring) (from a (length steps)) ≡ ring_lines steps
unfolding each from ring_numbers ring_lines
pairs-lines ring a [] h = refl
pairs-lines ring a (s ∷ steps) h =
    let net : get_or ring (2 * a) 0 ≡ s.net = ap (λ (k : ℕ). get_or ring k 0) (omega arith) ∙ h 0 (omega arith) in
    let column : get_or ring (2 * a + 1) 0 ≡ s.column = h 1 (omega arith) in
    let rest =
    pairs-lines ring (suc a) steps
    (λ j l. ap (λ (k : ℕ). get_or ring k 0) (omega arith) ∙ h (suc (suc j)) (omega arith)) in
    rw (net, column, rest)

-- a ring that stands at the front of a buffer
pub ring-text : (steps : List Step) (ring : List ℕ)
    → take (2 * length steps) ring ≡ ring_numbers steps → ring_text ring (length steps) ≡ ring_lines steps
unfolding ring_text
ring-text steps ring e =
    pairs-lines ring 0 steps
    (λ j l.
    ap (λ (k : ℕ). get_or ring k 0) (omega arith)
    ∙ (sym (get_or-take (2 * length steps) ring j 0 l) ∙ ap (λ (ns : List ℕ). get_or ns j 0) e))
