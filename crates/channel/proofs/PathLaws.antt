-- A path down lists its nets; two paths that meet are one; a path that meets a net twice holds a ring; and `depth`
-- counts no fewer nets than a path down has, as far as its fuel goes.
use Prim.Native.Nat.{ℕ, zero, suc, ◌+◌, ◌≤◌, ◌<◌}
use Rattle.std.proofs.Common.{arith, sym, subst}
use Rattle.std.specs.Prelude.{◌≡◌, ◌⊎◌, length}
use Rattle.std.proofs.Math.Path.{refl, ap}
use mathlib.Core.List.Memᴰ
use mathlib.Core.List.{List, [], ◌∷◌, Memᴰ}
use Rattle.std.proofs.Math.Logic.{inl, inr, ⊎_elim}
use Rattle.lists.specs.Lists.{head_or, is_in, Distinct}
use Rattle.lists.specs.Tests.{passes?}
use Rattle.lists.specs.Members.{is_in→member, member→is_in}
use Rattle.lists.specs.Greatest.{greatest-map-upper}
use Rattle.lists.specs.Pigeonhole.{distinct_head, distinct_tail, distinct_cons}
use Rattle.channel.specs.Channel.{Channel, spanning}
use Rattle.channel.specs.Constraints.{Above, Drop, drops, below, depth, Path↓, alone, down, Step, nets_of}
use Rattle.channel.specs.Constraints.{Descends, last, next, Tangled}
use Rattle.channel.specs.Answers.{Escapes}
use Rattle.channel.proofs.Laws.{drop→above, above→drop}
use Rattle.channel.proofs.SpanLaws.{upper-spans}

-- from net a, above the first of `ns` in column c, down over different nets of `ns` as far as above x
record Return (ch : Channel) (x a c : ℕ) (ns : List ℕ) : Type 0 where
  rest : List Step
  descends : Descends (Above ch) x (record { net = a; column = c } ∷ rest)
  part : (n : ℕ) → Memᴰ n (nets_of rest) → Memᴰ n ns
  distinct : Distinct (nets_of rest)
  without : Memᴰ x (nets_of rest) → ⊥

module _ {ch : Channel} where
  -- the nets of a path, from its upper end on
  unfoldable pub path-nets : {k a b : ℕ} → Path↓ ch k a b → List ℕ
  path-nets (alone {a = n} s) = n ∷ []
  path-nets (down {a = n} c h p) = n ∷ path-nets p

  pub path-nets-length : {k a b : ℕ} (p : Path↓ ch k a b) → length (path-nets p) ≡ k
  unfolding path-nets
  path-nets-length (alone s) = refl
  path-nets-length (down c h p) = ap suc (path-nets-length p)

  pub path-start-spans : Escapes ch → {k a b : ℕ} → Path↓ ch k a b → Memᴰ a (spanning ch)
  path-start-spans esc (alone s) = s
  path-start-spans esc (down c h p) = upper-spans ch esc h

  pub path-nets-span : Escapes ch → {k a b : ℕ} (p : Path↓ ch k a b) {n : ℕ} → Memᴰ n (path-nets p)
      → Memᴰ n (spanning ch)
  unfolding path-nets
  path-nets-span esc (alone s) m =
      ⊎_elim (λ e. Memᴰ.cast e s) (λ z. absurd (Memᴰ.not-nil z)) (Memᴰ.cases_cons m)
  path-nets-span esc (down c h p) m =
      ⊎_elim (λ e. Memᴰ.cast e (upper-spans ch esc h)) (λ t. path-nets-span esc p t) (Memᴰ.cases_cons m)

  pub path-append : {k j a b z : ℕ} → Path↓ ch k a b → Path↓ ch (suc j) b z → Path↓ ch (k + j) a z
  path-append {a = a} {z = z} (alone s) q = subst (λ (m : ℕ). Path↓ ch m a z) (omega arith) q
  path-append {a = a} {z = z} (down c h p) q =
      subst (λ (m : ℕ). Path↓ ch m a z) (omega arith) (down c h (path-append p q))

  at_once : {x a b c : ℕ} (ns : List ℕ) → Above ch a b c → x ≡ b → Return ch x a c ns
  unfolding Distinct
  at_once {a = a} {c = c} ns h e =
      record {
        rest = [];
        descends = last (subst (λ (k : ℕ). Above ch a k c) (sym e) h);
        part = λ n m. absurd (Memᴰ.not-nil m);
        distinct = tt;
        without = λ m. Memᴰ.not-nil m;
      }

  after : {x a b c d : ℕ} {ns : List ℕ} → Above ch a b c → Distinct (b ∷ ns) → Memᴰ x ns → Return ch x b d ns
      → Return ch x a c (b ∷ ns)
  after {b = b} {d = d} {ns = ns} h different m r =
      record {
        rest = record { net = b; column = d } ∷ r.rest;
        descends = next h r.descends;
        part = λ n k. ⊎_elim Memᴰ.head (λ t. Memᴰ.tail (r.part n t)) (Memᴰ.cases_cons k);
        distinct = distinct_cons b (nets_of r.rest) (λ k. distinct_head b ns different (r.part b k)) r.distinct;
        without = λ k. ⊎_elim (λ e. distinct_head b ns different (Memᴰ.cast (sym e) m)) r.without
            (Memᴰ.cases_cons k);
      }

  return : {x k a b c z : ℕ} → Above ch a b c → (p : Path↓ ch k b z) → Distinct (path-nets p)
      → Memᴰ x (path-nets p) → Return ch x a c (path-nets p)
  unfolding path-nets
  return {b = b} h (alone s) d m =
      ⊎_elim (at_once (b ∷ []) h) (λ t. absurd (Memᴰ.not-nil t)) (Memᴰ.cases_cons m)
  return {b = b} h (down e g p) d m =
      ⊎_elim (at_once (b ∷ path-nets p) h) (λ t. after h d t (return g p (distinct_tail b (path-nets p) d) t))
      (Memᴰ.cases_cons m)

  return→ring : {a c : ℕ} {ns : List ℕ} → Return ch a a c ns → Tangled ch
  unfolding head_or
  return→ring {a} {c} r = (
    record { net = a; column = c } ∷ r.rest,
    record
        { distinct = distinct_cons a (nets_of r.rest) r.without r.distinct; closed = r.descends },
  )

  -- the nets of a path are different, or there is a ring
  pub path-distinct? : {k a b : ℕ} (p : Path↓ ch k a b) → Distinct (path-nets p) ⊎ Tangled ch
  unfolding path-nets Distinct
  path-distinct? (alone {a = n} s) = inl (distinct_cons n [] Memᴰ.not-nil tt)
  path-distinct? (down {a = n} c h p) = ⊎_elim fresh inr (path-distinct? p)
    where
      fresh : Distinct (path-nets p) → Distinct (n ∷ path-nets p) ⊎ Tangled ch
      fresh d =
          ⊎_elim (λ t. inr (return→ring (return h p d (is_in→member n (path-nets p) t))))
          (λ no. inl (distinct_cons n (path-nets p) (λ m. no (member→is_in m)) d)) (passes? (is_in n (path-nets p)))

-- `below` lists the nets that stand directly below
pub above→below : (ch : Channel) {a b c : ℕ} → Above ch a b c → Memᴰ b (below ch a)
above→below ch {a} {b} {c} h = Memᴰ.map (λ (d : Drop). d.lower) (above→drop ch a b c h)

pub below→above : (ch : Channel) (a b : ℕ) → Memᴰ b (below ch a) → (c : ℕ) × Above ch a b c
below→above ch a b m =
    let r = Memᴰ.of_map (λ (d : Drop). d.lower) (drops ch a) m in
    (r.0.column, subst (λ (k : ℕ). Above ch a k r.0.column) r.2 (drop→above ch a r.0 r.1))

-- one step down leaves less depth
pub above-greater-depth : (ch : Channel) (fuel : ℕ) {a b c : ℕ} → Above ch a b c
    → depth fuel ch b < depth (suc fuel) ch a
unfolding depth
above-greater-depth ch fuel h = let g = greatest-map-upper (depth fuel ch) (above→below ch h) in omega arith

-- a path that the fuel lasts for is no longer than the depth
pub path≤depth : {ch : Channel} {k a b : ℕ} (fuel : ℕ) → Path↓ ch k a b → k ≤ fuel → k ≤ depth fuel ch a
unfolding depth
path≤depth zero (alone s) h = absurd (omega arith)
path≤depth (suc fuel) (alone s) h = omega arith
path≤depth zero (down c g p) h = absurd (omega arith)
path≤depth {ch} (suc fuel) (down c g p) h =
    let rest = path≤depth fuel p (omega arith) in
    let more = above-greater-depth ch fuel g in
    omega arith
