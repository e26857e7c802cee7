-- The walk down from an unplaced item: each step goes to another unplaced item, so as many steps as there are of them
-- meet one twice, and the walk between is a ring.
use Prim.Native.Nat.{ℕ, zero, suc, ◌+◌, ◌≤◌, ◌<◌}
use Rattle.std.proofs.Common.{arith, sym, ap, subst, ⊎_elim, length-append, eqb→eq}
use Rattle.std.specs.Prelude.{◌≡◌, true, false, cond, length, T, eqb}
use Rattle.std.proofs.Math.Path.{refl}
use mathlib.Core.List.{List, [], ◌∷◌, ◌++◌, Memᴰ}
use Rattle.std.proofs.Math.Bool.{Bool}
use Rattle.std.proofs.lemmas.List.{length-map}
use Rattle.std.proofs.Math.Dec.{eqb_refl}
use Rattle.lists.specs.Lists.{is_in, head_or, least, Distinct}
use Rattle.lists.specs.Tests.{true→T, false→fails}
use Rattle.lists.specs.Members.{keep-member, kept, is_in→member, member→is_in}
use Rattle.lists.specs.Pigeonhole.{distinct_tail, distinct_cons, distinct_snoc, pigeonhole}
use Rattle.lists.specs.Orders.{member?, least-member}
use Rattle.lists.specs.Ends.{head-member}
use Rattle.channel.specs.Constraints.{Drop, Step, nets_of, Descends, last, next}
use Rattle.leftedge.specs.Items.{Items}
use Rattle.leftedge.specs.Walk.{first_drop, from_visit, walk, ring_of}
use Rattle.leftedge.specs.Invariants.{Falls, StuckWith, ItemRing}

abbrev step_at : ℕ → ℕ → Step
step_at n c = record { net = n; column = c }

nets-snoc : (ss : List Step) (s : Step) → nets_of (ss ++ (s ∷ [])) ≡ nets_of ss ++ (s.net ∷ [])
nets-snoc [] s = refl
nets-snoc (t ∷ ss) s = ap (λ (l : List ℕ). t.net ∷ l) (nets-snoc ss s)

descends-snoc : {Over : ℕ → ℕ → ℕ → Type 0} (n : ℕ) {ss : List Step} (c e : ℕ) → Descends Over n ss → Over n e c
    → Descends Over e (ss ++ (step_at n c ∷ []))
descends-snoc n c e (last o) h = next o (last h)
descends-snoc n c e (next o d) h = next o (descends-snoc n c e d h)

-- the trail leads down to n; an empty one leads anywhere
data LeadsTo (it : Items) (n : ℕ) : List Step → Type 0 where
  start : LeadsTo it n []
  under : {trail : List Step} → Descends (Falls it) n trail → LeadsTo it n trail

-- the steps from the first visit of n on are an end of the trail that begins with n
record Visit (it : Items) (n : ℕ) (trail steps : List Step) : Type 0 where
  begins : head_or 0 (nets_of steps) ≡ n
  part : (m : ℕ) → Memᴰ m (nets_of steps) → Memᴰ m (nets_of trail)
  distinct : Distinct (nets_of trail) → Distinct (nets_of steps)
  leads : Descends (Falls it) n trail → Descends (Falls it) n steps

visit : (it : Items) (n : ℕ) (trail : List Step) → Memᴰ n (nets_of trail) → Visit it n trail (from_visit n trail)
unfolding from_visit head_or
visit it n [] h = absurd (mathlib.Core.List.Memᴰ.not-nil h)
visit it n (s ∷ ss) h = go (eqb s.net n) refl (λ k. visit it n ss k)
  where
    later : (ss : List Step) → Memᴰ n (nets_of ss) → Descends (Falls it) n (s ∷ ss) → Descends (Falls it) n ss
    later [] m (last o) = absurd (mathlib.Core.List.Memᴰ.not-nil m)
    later (t ∷ ts) m (next o d) = d

    go : (b : Bool) → eqb s.net n ≡ b → {rest : List Step} → (Memᴰ n (nets_of ss) → Visit it n ss rest)
        → Visit it n (s ∷ ss) (cond b (s ∷ ss) rest)
    go true e rest =
        record { begins = eqb→eq s.net n (true→T _ e); part = λ m k. k; distinct = λ d. d; leads = λ d. d }
    go false e rest =
        let m : Memᴰ n (nets_of ss) = ⊎_elim (λ q.
        absurd (false→fails _ e (subst (λ (x : ℕ). T (eqb s.net x)) (sym q) (eqb_refl s.net)))) (λ k. k)
        (mathlib.Core.List.Memᴰ.cases_cons h) in
        let r = rest m in
        record {
          begins = r.begins;
          part = λ l k. mathlib.Core.List.Memᴰ.tail (r.part l k);
          distinct = λ d. r.distinct (distinct_tail s.net (nets_of ss) d);
          leads = λ d. r.leads (later ss m d);
        }

module _ (it : Items) (left : List ℕ) (stuck : StuckWith it left) where
  -- the first drop of an item left goes to an item left
  pub first-drop : (n : ℕ) → Memᴰ n left → Falls it n (first_drop it left n).lower (first_drop it left n).column
      × Memᴰ (first_drop it left n).lower left
  unfolding first_drop
  first-drop n h =
      let open? : Drop → Bool = λ d. is_in d.lower left in
      let b = stuck.blocked n h in
      let found = kept open? b.2 (member→is_in b.3) in
      let r = keep-member open? (it.drops n) (head-member (record { column = 0; lower = 0 }) found) in
      (r.0, is_in→member _ left r.1)

  closes : (trail : List Step) (n : ℕ) → Memᴰ n (nets_of trail) → Distinct (nets_of trail)
      → ((m : ℕ) → Memᴰ m (nets_of trail) → Memᴰ m left) → LeadsTo it n trail
      → ItemRing it left (from_visit n trail)
  closes trail n met d inside start = absurd (mathlib.Core.List.Memᴰ.not-nil met)
  closes trail n met d inside (under w) =
      let v = visit it n trail met in
      record { distinct = v.distinct d; inside = λ m k. inside m (v.part m k); closed = rw v.begins (v.leads w) }

  leads-on : (trail : List Step) (n : ℕ) → Memᴰ n left → LeadsTo it n trail
      → LeadsTo it (first_drop it left n).lower (trail ++ (step_at n (first_drop it left n).column ∷ []))
  leads-on trail n h start = under (last (first-drop n h).0)
  leads-on trail n h (under w) = under (descends-snoc n _ _ w (first-drop n h).0)

  -- a trail of as many items as are left has met every one of them
  met-again : (trail : List Step) (n : ℕ) → length left ≤ length trail → Memᴰ n left → Distinct (nets_of trail)
      → ((m : ℕ) → Memᴰ m (nets_of trail) → Memᴰ m left) → Memᴰ n (nets_of trail)
  met-again trail n enough h d inside = ⊎_elim (λ met. met) (λ out. absurd (too_many out)) (member? n (nets_of trail))
    where
      too_many : (Memᴰ n (nets_of trail) → ⊥) → ⊥
      too_many out =
          let p = pigeonhole (n ∷ nets_of trail) left (distinct_cons n (nets_of trail) out d)
          (λ m k. ⊎_elim (λ e. mathlib.Core.List.Memᴰ.cast e h) (inside m) (mathlib.Core.List.Memᴰ.cases_cons k)) in
          let l = length-map trail (λ (s : Step). s.net) in
          omega arith

  walk-closes : (fuel : ℕ) (trail : List Step) (n : ℕ) → length left ≤ fuel + length trail → Memᴰ n left
      → Distinct (nets_of trail) → ((m : ℕ) → Memᴰ m (nets_of trail) → Memᴰ m left) → LeadsTo it n trail
      → ItemRing it left (walk fuel it left trail n)
  unfolding walk
  walk-closes zero trail n enough h d inside w = closes trail n (met-again trail n (omega arith) h d inside) d inside w
  walk-closes (suc fuel) trail n enough h d inside w =
      go (is_in n (nets_of trail)) refl (λ l out. walk-closes fuel longer drop.lower l (first-drop n h).1
      (subst Distinct (sym nets) (distinct_snoc (nets_of trail) n out d)) further (leads-on trail n h w))
    where
      drop : Drop
      drop = first_drop it left n

      longer : List Step
      longer = trail ++ (step_at n drop.column ∷ [])

      nets : nets_of longer ≡ nets_of trail ++ (n ∷ [])
      nets = nets-snoc trail (step_at n drop.column)

      further : (m : ℕ) → Memᴰ m (nets_of longer) → Memᴰ m left
      further m k =
          ⊎_elim (inside m) (λ x. mathlib.Core.List.Memᴰ.cast (mathlib.Core.List.Memᴰ.eq_of_singleton x) h)
          (mathlib.Core.List.Memᴰ.append_cases (nets_of trail) (subst (λ (l : List ℕ). Memᴰ m l) nets k))

      go : (b : Bool) → is_in n (nets_of trail) ≡ b → {rest : List Step}
          → (length left ≤ fuel + length longer → (Memᴰ n (nets_of trail) → ⊥) → ItemRing it left rest)
          → ItemRing it left (cond b (from_visit n trail) rest)
      go true e rest = closes trail n (is_in→member n (nets_of trail) (true→T _ e)) d inside w
      go false e rest =
          rest (let l = length-append trail (step_at n drop.column ∷ []) in omega arith)
          (λ m. false→fails _ e (member→is_in m))

  pub least-left : Memᴰ (least left) left
  least-left = go left stuck.some_left
    where
      go : (ns : List ℕ) → 0 < length ns → Memᴰ (least ns) ns
      go [] h = absurd (omega arith)
      go (n ∷ ns) h = least-member n ns

pub walk-ring : (it : Items) (left : List ℕ) → StuckWith it left → ItemRing it left (ring_of it left)
unfolding ring_of Distinct
walk-ring it left s =
    walk-closes it left s (length left) [] (least left) (omega arith) (least-left it left s) tt
    (λ m h. absurd (mathlib.Core.List.Memᴰ.not-nil h)) start
