-- Lists of pairs compared number by number: one that begins at a lower net is no higher, of the walks home from one net
-- with as many steps none is lower than `homeward`, and one list alone is the lowest.
use Rattle.std.specs.Prelude.{ℕ, suc, ◌≤◌, ◌<◌, ◌≡◌, refl, List, [], ◌∷◌, length}
use Rattle.std.proofs.Common.{arith, sym, ◌∙◌, ap, ap₂, subst, ⊎_elim}
use Rattle.lists.specs.Lists.{each, head_or, at}
use Rattle.lists.specs.Tests.{equal?}
use Rattle.channel.specs.Channel.{Channel}
use Rattle.channel.specs.Constraints.{Above, below, Step, nets_of, Descends, last, next}
use Rattle.leftedge.specs.Walk.{ring_numbers}
use Rattle.rings.specs.Fewest.{home_drop, homeward}
use Rattle.rings.specs.LeadLaws.{leads-none}
use Rattle.rings.specs.Promise.{NoHigher, ends, lower, same, FewestRing}
use Rattle.rings.specs.WalkLaws.{walk→leads}
use Rattle.rings.proofs.HomeLaws.{home-drop, home-lowest}

-- a list of pairs that begins at a lower net is no higher
pub lower-first : (xs ys : List Step) → 0 < length xs → 0 < length ys → head_or 0 (nets_of xs) < head_or 0 (nets_of ys)
    → NoHigher (ring_numbers xs) (ring_numbers ys)
unfolding head_or ring_numbers each
lower-first [] ys h k l = absurd (omega arith)
lower-first (x ∷ xs) [] h k l = absurd (omega arith)
lower-first (x ∷ xs) (y ∷ ys) h k l = lower l

-- a pair of the same net with a column that is no higher, and where it is the same what comes after
pair-first : (n c d : ℕ) (xs ys : List ℕ) → c ≤ d → (c ≡ d → NoHigher xs ys)
    → NoHigher (n ∷ (c ∷ xs)) (n ∷ (d ∷ ys))
pair-first n c d xs ys h after =
    ⊎_elim (λ e. same (subst (λ (k : ℕ). NoHigher (c ∷ xs) (k ∷ ys)) e (same (after e))))
    (λ apart. same (lower (omega (arith, apart)))) (equal? c d)

-- a walk home is no lower than `homeward` from the same net with as many steps
pub homeward-no-higher : (ch : Channel) {home : ℕ} {steps : List Step} → Descends (Above ch) home steps
    → NoHigher (ring_numbers (homeward ch (length steps) home (head_or 0 (nets_of steps)))) (ring_numbers steps)
unfolding homeward ring_numbers each head_or
homeward-no-higher ch {home} (last {s = s} h) =
    pair-first s.net (home_drop ch 0 home s.net).column s.column [] []
    (home-lowest ch 0 home s.net h (leads-none (below ch) refl)) (λ e. ends)
homeward-no-higher ch {home} (next {s = s} {t = t} {rest = rest} h d) =
    let k = suc (length rest) in
    let on = home-drop ch k home s.net (walk→leads ch (next h d)) in
    let first = home_drop ch k home s.net in
    let below : first.column ≡ s.column → first.lower ≡ t.net = λ e. sym on.down.on_bot
    ∙ (ap (at ch.bot) e ∙ h.on_bot) in
    pair-first s.net first.column s.column (ring_numbers (homeward ch k home first.lower))
    (ring_numbers (t ∷ rest)) (home-lowest ch k home s.net h (walk→leads ch d))
    (λ e. subst (λ (b : ℕ). NoHigher (ring_numbers (homeward ch k home b)) (ring_numbers (t ∷ rest))) (sym (below e))
    (homeward-no-higher ch d))

-- numbers that are no higher than others, and these no higher than they, are the same
no-higher-rest : {x : ℕ} {us vs xs ys : List ℕ} → NoHigher us vs → us ≡ x ∷ xs → vs ≡ x ∷ ys → NoHigher xs ys
no-higher-rest ends e f = absurd (let n = ap length e in omega arith)
no-higher-rest {x} (lower {x = y} {y = z} h) e f =
    let p : y ≡ x = cc in let q : z ≡ x = cc in absurd (omega arith)
no-higher-rest {xs = xs} {ys = ys} (same {xs = ps} {ys = qs} h) e f =
    let p : ps ≡ xs = cc in let q : qs ≡ ys = cc in rw (p, q) at h

no-higher-both : {xs ys : List ℕ} → NoHigher xs ys → NoHigher ys xs → xs ≡ ys
no-higher-both ends k = refl
no-higher-both (lower h) (lower k) = absurd (omega arith)
no-higher-both (lower h) (same k) = absurd (omega arith)
no-higher-both (same {x = x} h) k = ap (λ (l : List ℕ). x ∷ l) (no-higher-both h (no-higher-rest k refl refl))

-- pairs are known by their numbers
numbers-once : (xs ys : List Step) → ring_numbers xs ≡ ring_numbers ys → xs ≡ ys
unfolding ring_numbers each
numbers-once [] [] e = refl
numbers-once [] (y ∷ ys) e = absurd (let n = ap length e in omega arith)
numbers-once (x ∷ xs) [] e = absurd (let n = ap length e in omega arith)
numbers-once (x ∷ xs) (y ∷ ys) e =
    let net : x.net ≡ y.net = cc in
    let column : x.column ≡ y.column = cc in
    let rest = numbers-once xs ys (cc) in
    ap₂ (λ (s : Step) (l : List Step). s ∷ l) (ap₂ (λ (n c : ℕ). record { net = n; column = c }) net column) rest

-- what is promised of the ring with the fewest nets leaves one list alone
pub fewest-once : {ch : Channel} {a b : List Step} → FewestRing ch a → FewestRing ch b → a ≡ b
fewest-once {a = a} {b = b} p q =
    let few = p.fewest b q.is_ring in
    let more = q.fewest a p.is_ring in
    numbers-once a b (no-higher-both (p.lowest b b q.is_ring (omega arith) q.begun)
    (q.lowest a a p.is_ring (omega arith) p.begun))
