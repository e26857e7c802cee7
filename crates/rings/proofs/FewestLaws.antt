-- The definition of the ring with the fewest nets finds it: `fewest` is the least number of steps that lead from a net
-- back to it, 0 exactly if there is no ring, and `fewest_ring` walks them from the lowest such net.
use Prim.Native.Nat.{ℕ, zero, suc, ◌≤◌, ◌<◌}
use native.Mathlib.Omega.{arith}
use Rattle.std.proofs.Math.Decide.{dec_lt}
use Rattle.std.specs.Prelude.{◌≡◌, ◌↔◌, Bool, length, T, ltb}
use Rattle.std.proofs.Math.Path.{ap}
use mathlib.Core.List.{List, Memᴰ}
use Rattle.std.proofs.lemmas.List.{length-map}
use Rattle.std.proofs.Common.{ltb→lt, lt→ltb}
use Rattle.lists.specs.Lists.{keep, up_to, head_or, Lowest}
use Rattle.lists.specs.Members.{keep-member, kept, up_to-member}
use Rattle.lists.specs.Ends.{Rising, ends-within, head-member, keep-rising, head-least, member-some, first_member}
use Rattle.lists.specs.Firsts.{Passing}
use Rattle.lists.specs.Tallies.{first-is, first-none, is-first, none_first}
use Rattle.lists.specs.Pigeonhole.{pigeonhole}
use Rattle.channel.specs.Channel.{Channel, nets}
use Rattle.channel.specs.Constraints.{below, Step, nets_of, Ring, Tangled}
use Rattle.channel.specs.Answers.{Escapes}
use Rattle.channel.proofs.SpanLaws.{pin→net, upper-pin, →nets, nets-rising}
use Rattle.channel.proofs.ChainLaws.{ring-next}
use Rattle.rings.specs.Fewest.{leads, returning, fewest, homeward, fewest_ring}
use Rattle.rings.specs.Promise.{FewestRing}
use Rattle.rings.specs.WalkLaws.{leads→net}
use Rattle.rings.proofs.HomeLaws.{homeward-length}
use Rattle.rings.specs.TurnLaws.{descends-some, ring-first}
use Rattle.rings.proofs.ReturnLaws.{ring→leads, LeastReturn, return-ring, return-fewest}

module _ (ch : Channel) where
  -- k steps lead from some net back to it
  abbrev any_return : ℕ → Bool
  any_return k = ltb 0 (length (returning ch k))

  -- and k is at most the number of nets
  abbrev PassesIn : ℕ → Type 0
  PassesIn k = Passing any_return 1 (length (nets ch)) k

  -- the ring that is worked out has as many pairs as the fewest nets
  pub fewest-length : length (fewest_ring ch) ≡ fewest ch
  unfolding fewest_ring
  fewest-length = homeward-length ch (fewest ch) (head_or 0 (returning ch (fewest ch)))
      (head_or 0 (returning ch (fewest ch)))

  -- and no more than there are nets
  pub fewest-few : fewest ch ≤ length (nets ch)
  unfolding fewest
  fewest-few =
      (ends-within (length (nets ch)) (keep any_return (up_to (length (nets ch))))
      (λ k m. (up_to-member (length (nets ch)) (keep-member any_return (up_to (length (nets ch))) m).0).1)).0

  -- of the nets from which k steps lead back the first is one, and they rise
  first-return : (k : ℕ) → T (any_return k) → Memᴰ (head_or 0 (returning ch k)) (returning ch k)
  first-return k t = first_member (returning ch k) (ltb→lt 0 (length (returning ch k)) t)

  returning→ : (k : ℕ) {n : ℕ} → Memᴰ n (returning ch k) → T (leads (below ch) k n n)
  unfolding returning
  returning→ k m = (keep-member (λ n. leads (below ch) k n n) (nets ch) m).1

  returning-rising : (k : ℕ) → Rising (returning ch k)
  unfolding returning
  returning-rising k = keep-rising (λ n. leads (below ch) k n n) (nets ch) (nets-rising ch)

  -- where no steps lead from a net back to it the fewest are 0
  pub none-fewest : ((j n : ℕ) → T (leads (below ch) (suc j) n n) → ⊥) → fewest ch ≡ 0
  unfolding fewest head_or
  none-fewest none = ap (head_or 0) (first-none any_return (length (nets ch)) fails)
    where
      fails : (k : ℕ) → PassesIn k → ⊥
      fails zero p = let l = p.low in omega arith
      fails (suc j) p = none j (head_or 0 (returning ch (suc j))) (returning→ (suc j) (first-return (suc j) p.passes))

  module _ (esc : Escapes ch) where
    →returning : (k n : ℕ) → 0 < k → T (leads (below ch) k n n) → Memᴰ n (returning ch k)
    unfolding returning
    →returning zero n h t = absurd (omega arith)
    →returning (suc j) n h t = kept (λ m. leads (below ch) (suc j) m m) (→nets ch n (leads→net ch esc j n n t)) t

    first-lowest : (k n : ℕ) → 0 < k → T (leads (below ch) k n n) → head_or 0 (returning ch k) ≤ n
    first-lowest k n h t = head-least (returning ch k) 0 (returning-rising k) (→returning k n h t)

    →passes : (k n : ℕ) → 0 < k → k ≤ length (nets ch) → T (leads (below ch) k n n) → PassesIn k
    →passes k n h few t =
        record { low = h; high = omega arith; passes = lt→ltb 0 _ (member-some (→returning k n h t)) }

    -- the nets of a ring are nets of the channel, and different
    ring-few : {steps : List Step} → Ring ch steps → length steps ≤ length (nets ch)
    ring-few {steps} r =
        let fits = pigeonhole (nets_of steps) (nets ch) r.distinct (λ n m. let a = ring-next r m in
        →nets ch n (pin→net ch esc n a.1 (upper-pin ch esc a.2))) in
        let same = length-map steps (λ (s : Step). s.net) in
        omega arith

    ring-passes : {steps : List Step} → Ring ch steps → PassesIn (length steps)
    ring-passes {steps} r =
        →passes (length steps) (head_or 0 (nets_of steps)) (descends-some r.closed) (ring-few r)
        (ring→leads ch r (ring-first r))

    -- the fewest steps lead back from the first of the nets from which they do, which is the lowest of them
    fewest-return : 0 < fewest ch → LeastReturn ch (fewest ch) (head_or 0 (returning ch (fewest ch)))
    fewest-return h =
        record {
          some = h;
          back = returning→ (fewest ch) (first-return (fewest ch) first.holds.passes);
          least = least;
          lowest = λ n l t. let low = first-lowest (fewest ch) n h t in
              omega arith;
        }
      where
        first : Lowest PassesIn (fewest ch)
        first = unfold fewest in (is-first any_return (length (nets ch)) (λ z. omega arith))

        least : (j n : ℕ) → T (leads (below ch) (suc j) n n) → fewest ch ≤ suc j
        least j n t =
            elim (dec_lt (length (nets ch)) (suc j)) [
              | yes k ↦ (let f = fewest-few in omega arith)
              | no k ↦
                  first.lowest (suc j) (→passes (suc j) n (omega arith) (omega arith) t)
            ]

    -- where there is a ring, the ring that is worked out is the one with the fewest nets
    pub fewest-ring : 0 < fewest ch → FewestRing ch (fewest_ring ch)
    unfolding fewest_ring
    fewest-ring h = return-fewest (fewest-return h)

    -- the fewest are 0 exactly if there is no ring
    pub fewest-none : (fewest ch ≡ 0) ↔ (Tangled ch → ⊥)
    fewest-none = (none, some)
      where
        none : fewest ch ≡ 0 → Tangled ch → ⊥
        none e t = none_first any_return (length (nets ch)) (unfold fewest in e) (length t.0) (ring-passes t.1)

        some : (Tangled ch → ⊥) → fewest ch ≡ 0
        some untangled =
            elim (dec_lt 0 (fewest ch))
            [ yes h ↦ absurd (untangled (fewest_ring ch, (fewest-ring h).is_ring)) | no h ↦ omega arith ]

    -- net s, from which k steps lead back, is the lowest from which so few do: so the ring worked out is the walk home
    -- from there
    pub least-fewest : (s k : ℕ) → 0 < k → T (leads (below ch) k s s)
        → ((j n : ℕ) → T (leads (below ch) (suc j) n n) → k ≤ suc j)
        → ((n : ℕ) → n < s → T (leads (below ch) k n n) → ⊥)
        → (fewest ch ≡ k) × (fewest_ring ch ≡ homeward ch k s s)
    least-fewest s k h back least lowest = (found, ring)
      where
        few : k ≤ length (nets ch)
        few =
            let r = ring-few (return-ring (record { some = h; back = back; least = least; lowest = lowest })) in
            let long = homeward-length ch k s s in
            omega arith

        no-fewer : (q : ℕ) → PassesIn q → k ≤ q
        no-fewer zero p = let l = p.low in absurd (omega arith)
        no-fewer (suc j) p =
            least j (head_or 0 (returning ch (suc j))) (returning→ (suc j) (first-return (suc j) p.passes))

        found : fewest ch ≡ k
        found =
            unfold fewest in (first-is any_return (length (nets ch)) k
            (record { holds = →passes k s h few back; lowest = no-fewer }))

        begins : head_or 0 (returning ch k) ≡ s
        begins =
            let low = first-lowest k s h back in
            let high = lowest (head_or 0 (returning ch k)) in
            let lead = returning→ k (head-member 0 (→returning k s h back)) in
            elim (dec_lt (head_or 0 (returning ch k)) s) [ yes l ↦ absurd (high l lead) | no l ↦ omega arith ]

        ring : fewest_ring ch ≡ homeward ch k s s
        ring = unfold fewest_ring in (rw (found, begins))
