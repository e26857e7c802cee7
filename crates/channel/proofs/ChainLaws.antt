-- The chain is the most nets on a path. Without a ring no path has more nets than the channel, so one net more of fuel
-- counts them all; on a ring the count uses up its fuel.
use Prim.Native.Nat.{ℕ, zero, suc, ◌≤◌, ◌<◌}
use native.Mathlib.Omega.{arith}
use Rattle.std.proofs.Math.Decide.{dec_lt}
use Rattle.std.specs.Prelude.{◌≡◌, refl, ◌⊎◌, length, leb}
use Rattle.std.proofs.Common.{sym, ◌∙◌, ap, inl, inr, ⊎_elim, leb→le, le→leb}
use Rattle.std.proofs.Math.Path.{subst}
use mathlib.Core.List.Memᴰ
use mathlib.Core.List.{List, [], map, Memᴰ}
use Rattle.lists.specs.Lists.{greatest}
use Rattle.lists.specs.Tests.{T→true, fails→false}
use Rattle.lists.specs.Ends.{head-member}
use Rattle.lists.specs.Pigeonhole.{pigeonhole, length-keep}
use Rattle.lists.specs.Greatest.{greatest-map-upper, greatest-map-least, greatest-map-reached}
use Rattle.lists.specs.Updates.{map_same}
use Rattle.items.specs.Depths.{depth_by, Peeled, all-peeled, never-peeled}
use Rattle.channel.specs.Channel.{Channel, nets, has_span, spanning}
use Rattle.channel.specs.Constraints.{Above, below, Path↓, alone, down, depth, chain, Step, nets_of, Descends}
use Rattle.channel.specs.Constraints.{last, next, Ring, Tangled}
use Rattle.channel.specs.Answers.{Escapes}
use Rattle.channel.specs.Promise.{ChainPromise}
use Rattle.channel.proofs.SpanLaws.{lower-spans, upper-spans, spanning→, →nets}
use Rattle.channel.proofs.PathLaws.{above-greater-depth, below→above, path≤depth, path-nets, path-nets-length}
use Rattle.channel.proofs.PathLaws.{path-nets-span, path-start-spans, path-distinct?}

-- without a ring the nets of a path are different, so they are no more than the nets
pub path≤nets : {ch : Channel} → Escapes ch → (Tangled ch → ⊥) → {k a b : ℕ} → Path↓ ch k a b → k ≤ length (nets ch)
path≤nets {ch} esc untangled p =
    let fits = pigeonhole (path-nets p) (nets ch) (⊎_elim (λ d. d) (λ t. absurd (untangled t)) (path-distinct? p))
    (λ n m. →nets ch n (spanning→ ch n (path-nets-span esc p m)).0) in
    let counted = path-nets-length p in
    omega arith

-- every net of a ring is above a net of the ring
descends-next : {Over : ℕ → ℕ → ℕ → Type 0} {end n : ℕ} {steps : List Step} → Descends Over end steps
    → Memᴰ n (nets_of steps) → (b c : ℕ) × Over n b c × ((b ≡ end) ⊎ Memᴰ b (nets_of steps))
descends-next {Over} {end} (last {s = s} h) m =
    ⊎_elim (λ e. (end, s.column, subst (λ k. Over k end s.column) (sym e) h, inl refl))
    (λ t. absurd (Memᴰ.not-nil t)) (Memᴰ.cases_cons m)
descends-next {Over} (next {s = s} {t = t} h d) m =
    ⊎_elim (λ e. (
      t.net,
      s.column,
      subst (λ k. Over k t.net s.column) (sym e) h,
      inr (Memᴰ.tail (Memᴰ.head refl)),
    ))
    (λ k. let r = descends-next d k in (r.0, r.1, r.2, ⊎_elim inl (λ i. inr (Memᴰ.tail i)) r.3))
    (Memᴰ.cases_cons m)

pub descends-member : {Over : ℕ → ℕ → ℕ → Type 0} {end : ℕ} {steps : List Step} → Descends Over end steps
    → (n : ℕ) × Memᴰ n (nets_of steps)
descends-member (last {s = s} h) = (s.net, Memᴰ.head refl)
descends-member (next {s = s} h d) = (s.net, Memᴰ.head refl)

module _ {ch : Channel} {steps : List Step} (ring : Ring ch steps) where
  pub ring-next : {a : ℕ} → Memᴰ a (nets_of steps) → (b c : ℕ) × Above ch a b c × Memᴰ b (nets_of steps)
  ring-next m =
      let r = descends-next ring.closed m in
      (r.0, r.1, r.2, ⊎_elim (λ e. Memᴰ.cast e (head-member 0 m)) (λ k. k) r.3)

  pub ring-depth : (fuel : ℕ) {a : ℕ} → Memᴰ a (nets_of steps) → fuel ≤ depth fuel ch a
  unfolding depth
  ring-depth zero m = omega arith
  ring-depth (suc fuel) m =
      let r = ring-next m in
      let rest = ring-depth fuel r.3 in
      let more = above-greater-depth ch fuel r.2 in
      omega arith

-- the greatest depth of a net with a span, counted to one more than there are nets
abbrev pub deepest : Channel → ℕ
deepest ch = greatest (map (depth (suc (length (nets ch))) ch) (spanning ch))

pub chain-counts : (ch : Channel) → deepest ch ≤ length (nets ch) → chain ch ≡ deepest ch
unfolding chain
chain-counts ch h = rw (T→true (leb (deepest ch) (length (nets ch))) (le→leb (deepest ch) (length (nets ch)) h)) refl

pub chain-overruns : (ch : Channel) → length (nets ch) < deepest ch → chain ch ≡ 0
unfolding chain
chain-overruns ch h =
    rw (fails→false (leb (deepest ch) (length (nets ch)))
    (λ t. let l = leb→le (deepest ch) (length (nets ch)) t in omega arith)) refl

no-span-chain : (ch : Channel) → spanning ch ≡ [] → chain ch ≡ 0
unfolding greatest
no-span-chain ch e =
    let none : deepest ch ≡ 0 = ap (λ (l : List ℕ). greatest (map (depth (suc (length (nets ch))) ch) l)) e in
    chain-counts ch (omega arith) ∙ none

module _ (ch : Channel) (esc : Escapes ch) where
  -- the depth of a net is reached by a path
  pub depth-path : (fuel n : ℕ) → Memᴰ n (spanning ch) → 0 < depth fuel ch n
      → (z : ℕ) × Path↓ ch (depth fuel ch n) n z
  unfolding depth
  depth-path zero n s h = absurd (omega arith)
  depth-path (suc fuel) n s h =
      elim (dec_lt 0 (greatest (map (depth fuel ch) (below ch n)))) [
        | yes deeper ↦ further deeper (λ b. depth-path fuel b)
        | no h₀ ↦
            (n, subst (λ (k : ℕ). Path↓ ch (suc k) n n) (omega arith) (alone s))
      ]
    where
      further : 0 < greatest (map (depth fuel ch) (below ch n))
          → ((b : ℕ) → Memᴰ b (spanning ch) → 0 < depth fuel ch b → (z : ℕ) × Path↓ ch (depth fuel ch b) b z)
          → (z : ℕ) × Path↓ ch (suc (greatest (map (depth fuel ch) (below ch n)))) n z
      further deeper rest =
          let r = greatest-map-reached (depth fuel ch) (below ch n) deeper in
          let step = below→above ch n r.0 r.1 in
          let e = r.2 in
          let p = rest r.0 (lower-spans ch esc step.1) (omega arith) in
          (p.0, subst (λ (k : ℕ). Path↓ ch (suc k) n p.0) e (down step.0 step.1 p.1))

  tangled-chain : Tangled ch → chain ch ≡ 0
  tangled-chain t =
      let ring = t.1 in
      let a = descends-member ring.closed in
      let spans = upper-spans ch esc (ring-next ring a.1).2 in
      let long = ring-depth ring (suc (length (nets ch))) a.1 in
      let counted = greatest-map-upper (depth (suc (length (nets ch))) ch) spans in
      chain-overruns ch (omega arith)

  module _ (untangled : Tangled ch → ⊥) where
    chain-deepest : chain ch ≡ deepest ch
    chain-deepest =
        chain-counts ch (greatest-map-least (depth (suc (length (nets ch))) ch) (spanning ch) (length (nets ch)) fits)
      where
        fits : (n : ℕ) → Memᴰ n (spanning ch) → depth (suc (length (nets ch))) ch n ≤ length (nets ch)
        fits n s =
            elim (dec_lt 0 (depth (suc (length (nets ch))) ch n))
            [ yes h ↦ path≤nets esc untangled (depth-path (suc (length (nets ch))) n s h).1 | no h ↦ omega arith ]

    chain-reached : 0 < chain ch → (a b : ℕ) × Path↓ ch (chain ch) a b
    chain-reached h =
        let e = chain-deepest in
        let r = greatest-map-reached (depth (suc (length (nets ch))) ch) (spanning ch) (omega arith) in
        let q = r.2 in
        let p = depth-path (suc (length (nets ch))) r.0 r.1 (omega arith) in
        (r.0, p.0, subst (λ (k : ℕ). Path↓ ch k r.0 p.0) (q ∙ sym e) p.1)

    chain-most : (k a b : ℕ) → Path↓ ch k a b → k ≤ chain ch
    chain-most k a b p =
        let e = chain-deepest in
        let fits = path≤nets esc untangled p in
        let deep = path≤depth (suc (length (nets ch))) p (omega arith) in
        let counted = greatest-map-upper (depth (suc (length (nets ch))) ch) (path-start-spans esc p) in
        omega arith

module _ {ch : Channel} (esc : Escapes ch) (untangled : Tangled ch → ⊥) where
  -- without a ring no net is deeper than the chain, and some net is as deep
  pub depth≤chain : (fuel n : ℕ) → Memᴰ n (spanning ch) → depth fuel ch n ≤ chain ch
  depth≤chain fuel n s =
      elim (dec_lt 0 (depth fuel ch n)) [
        | yes h ↦
            (let p = depth-path ch esc fuel n s h in
            chain-most ch esc untangled (depth fuel ch n) n p.0 p.1)
        | no h ↦ omega arith
      ]

  pub chain-deep : 0 < chain ch → (n : ℕ) × Memᴰ n (spanning ch) × (chain ch ≤ depth (chain ch) ch n)
  chain-deep h =
      let p = chain-reached ch esc untangled h in
      (p.0, path-start-spans esc p.2, path≤depth (chain ch) p.2 (omega arith))

-- a net whose depth never ends is on a ring or above one
pub endless-tangled : {ch : Channel} → Escapes ch → (n : ℕ) → Memᴰ n (spanning ch)
    → ((fuel : ℕ) → fuel ≤ depth fuel ch n) → (Tangled ch → ⊥) → ⊥
endless-tangled {ch} esc n s deep untangled =
    let long = deep (suc (length (nets ch))) in
    let p = depth-path ch esc (suc (length (nets ch))) n s (omega arith) in
    let few = path≤nets esc untangled p.1 in
    omega arith

-- the depth of a net is that of an item
depth-by : (ch : Channel) (fuel n : ℕ) → depth fuel ch n ≡ depth_by (below ch) fuel n
unfolding depth depth_by
depth-by ch zero n = refl
depth-by ch (suc fuel) n =
    ap (λ (l : List ℕ). suc (greatest l)) (map_same _ _ (below ch n) (λ b m. depth-by ch fuel b))

-- what the peeling of the nets with spans answers is the chain
pub peeled-chain : (ch : Channel) (r : ℕ) → Peeled (below ch) (spanning ch) r → r ≡ chain ch
unfolding spanning
peeled-chain ch r (all-peeled few deep greatest-one) =
    let a = most in let b = reached in let c = some in sym (chain-counts ch (omega arith) ∙ omega arith)
  where
    fuel : ℕ
    fuel = suc (length (nets ch))

    some : length (spanning ch) ≤ length (nets ch)
    some = length-keep (has_span ch) (nets ch)

    most : deepest ch ≤ r
    most =
        greatest-map-least (depth fuel ch) (spanning ch) r (λ n m. let d = deep n m in let l = d.1 in
        let e = d.2.steady fuel (omega (arith, some)) in omega (arith, depth-by ch fuel n))

    reached : r ≤ deepest ch
    reached =
        ⊎_elim (λ z. omega arith) (λ d. let e = d.2.steady fuel (omega (arith, some)) in
        let g = greatest-map-upper (depth fuel ch) d.1 in omega (arith, depth-by ch fuel d.0)) greatest-one
peeled-chain ch r (never-peeled z n m endless) =
    let e = depth-by ch (suc (length (nets ch))) n in
    let long = endless (suc (length (nets ch))) in
    let g = greatest-map-upper (depth (suc (length (nets ch))) ch) m in
    z ∙ sym (chain-overruns ch (omega arith))

pub chain-promise : (ch : Channel) → Escapes ch → ChainPromise ch
chain-promise ch esc =
    record {
      tangled = tangled-chain ch esc;
      no-spans = no-span-chain ch;
      reached = chain-reached ch esc;
      most = chain-most ch esc;
    }
