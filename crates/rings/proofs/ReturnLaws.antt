-- The fewest steps that lead from a net back to it walk round a ring with the fewest nets, since a walk that meets a
-- net twice holds a shorter one; and each ring leads from each of its nets back to it.
use Rattle.std.specs.Prelude.{ℕ, zero, suc, ◌≤◌, ◌<◌, ◌≡◌, refl, length, T}
use Rattle.std.proofs.Common.{arith, sym, ◌∙◌, subst, ⊎_elim}
use Rattle.std.proofs.Math.Decide.{dec_lt}
use mathlib.Core.List.{List, [], append-nil, Memᴰ}
use Rattle.lists.specs.Lists.{head_or}
use Rattle.channel.specs.Channel.{Channel}
use Rattle.channel.specs.Constraints.{Above, below, Step, nets_of, Descends, Ring}
use Rattle.leftedge.specs.Walk.{ring_numbers}
use Rattle.rings.specs.Fewest.{leads, homeward}
use Rattle.rings.specs.Promise.{NoHigher, Begun, FewestRing}
use Rattle.rings.specs.WalkLaws.{walk→leads, distinct-or-shorter}
use Rattle.rings.proofs.HomeLaws.{homeward-length, homeward-first, homeward-descends}
use Rattle.rings.specs.TurnLaws.{descends-some, ring-first, turn_at, turn-ring, turn-length}
use Rattle.rings.proofs.LowestLaws.{lower-first, homeward-no-higher}

-- as many steps as a ring has lead from each of its nets back to it
pub ring→leads : (ch : Channel) {steps : List Step} {n : ℕ} → Ring ch steps → Memᴰ n (nets_of steps)
    → T (leads (below ch) (length steps) n n)
ring→leads ch {steps} r m =
    let t = turn_at steps m in
    let back = walk→leads ch (turn-ring t.same_pairs r).closed in
    rw (t.first, turn-length t.same_pairs) at back

-- k steps lead from net s back to it, no fewer lead from any net back to it, and so few from no lower net
pub record LeastReturn (ch : Channel) (k s : ℕ) : Type 0 where
  pub some : 0 < k
  pub back : T (leads (below ch) k s s)
  pub least : (j n : ℕ) → T (leads (below ch) (suc j) n n) → k ≤ suc j
  pub lowest : (n : ℕ) → n < s → T (leads (below ch) k n n) → ⊥

module _ {ch : Channel} {k s : ℕ} (l : LeastReturn ch k s) where
  fewer-none : (m n : ℕ) → 0 < m → T (leads (below ch) m n n) → k ≤ m
  fewer-none zero n h t = absurd (omega arith)
  fewer-none (suc j) n h t = l.least j n t

  lower-none : (n : ℕ) → T (leads (below ch) k n n) → s ≤ n
  lower-none n t = elim (dec_lt n s) [ yes h ↦ absurd (l.lowest n h t) | no h ↦ omega arith ]

-- the walk home of so few steps is a ring
pub return-ring : {ch : Channel} {k s : ℕ} → LeastReturn ch k s → Ring ch (homeward ch k s s)
return-ring {k = zero} l = let h = l.some in absurd (omega arith)
return-ring {ch} {k = suc k} {s = s} l =
    record {
      distinct = ⊎_elim (λ d. d) (λ r. absurd (let shorter = r.2 in let fits = l.least r.0 r.1 r.3 in
          let long = homeward-length ch (suc k) s s in omega arith)) (distinct-or-shorter ch walk);
      closed = subst (λ (n : ℕ). Descends (Above ch) n (homeward ch (suc k) s s)) (sym (homeward-first ch k s s)) walk;
    }
  where
    walk : Descends (Above ch) s (homeward ch (suc k) s s)
    walk = homeward-descends ch k s s l.back

return-first : {ch : Channel} {k s : ℕ} → LeastReturn ch k s → head_or 0 (nets_of (homeward ch k s s)) ≡ s
return-first {k = zero} l = let h = l.some in absurd (omega arith)
return-first {ch} {k = suc k} {s = s} l = homeward-first ch k s s

module _ {ch : Channel} {k s : ℕ} (l : LeastReturn ch k s) where
  abbrev steps : List Step
  steps = homeward ch k s s

  long : length steps ≡ k
  long = homeward-length ch k s s

  -- it begins at its lowest net
  return-begun : Begun steps steps
  return-begun =
      record {
        same_pairs = record { front = []; back = steps; split = refl; turned = sym (append-nil steps) };
        lowest = λ n m. let low = lower-none l n (rw long at (ring→leads ch (return-ring l) m)) in
            let e = return-first l in
            omega arith;
      }

  -- no ring of as many nets, begun at its lowest net, has a lower list
  return-lowest : (other turn : List Step) → Ring ch other → length other ≡ length steps → Begun other turn
      → NoHigher (ring_numbers steps) (ring_numbers turn)
  return-lowest other turn r e b =
      elim (dec_lt s first) [
        | yes h ↦
            lower-first steps turn (descends-some (return-ring l).closed) (descends-some ring.closed)
            (let f = return-first l in omega arith)
        | no h ↦ let low = lower-none l first back in
            let here : first ≡ s = omega arith in
            rw (same_length, here) at (homeward-no-higher ch ring.closed)
      ]
    where
      first : ℕ
      first = head_or 0 (nets_of turn)

      ring : Ring ch turn
      ring = turn-ring b.same_pairs r

      same_length : length turn ≡ k
      same_length = turn-length b.same_pairs ∙ (e ∙ long)

      back : T (leads (below ch) k first first)
      back = rw same_length at (ring→leads ch ring (ring-first ring))

  -- so it is the ring with the fewest nets
  pub return-fewest : FewestRing ch steps
  return-fewest =
      record {
        is_ring = return-ring l;
        fewest = λ other r. let few = fewer-none l (length other) (head_or 0 (nets_of other)) (descends-some r.closed)
            (ring→leads ch r (ring-first r)) in
            let e = long in
            omega arith;
        begun = return-begun;
        lowest = return-lowest;
      }
