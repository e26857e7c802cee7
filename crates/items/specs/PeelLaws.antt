-- What is freed as counts are lowered: just those whose count comes to 0; and the walk that queues them, place by
-- place.
use Rattle.std.specs.Prelude.{ℕ, ◌+◌, ◌-◌, ◌≤◌, ◌<◌, ◌≡◌, ◌⊎◌, Bool, cond, length, get_or, set}
use native.Mathlib.Omega.{arith}
use Rattle.std.proofs.Math.Path.{refl, sym, ap}
use Rattle.std.proofs.Common.{◌∙◌, get_or-set_same, get_or-set_other, eq-eqb, ne_eqb}
use mathlib.Core.List.Memᴰ
use mathlib.Core.List.{List, [], ◌∷◌, ◌++◌, map, append-nil, append_assoc, Memᴰ}
use Rattle.std.proofs.Math.Logic.{inl, inr, ⊎_elim}
use Rattle.std.proofs.Math.Bool.{true, false}
use Rattle.std.proofs.Math.ListN.{length-append}
use Rattle.std.proofs.lemmas.List.Edits.{sets}
use Rattle.std.proofs.Math.Seq.{length-sets}
use Rattle.std.proofs.Math.Dec.{eqb, eqb→eq}
use Rattle.lists.specs.Lists.{keep, at, Distinct}
use Rattle.lists.specs.Tests.{true→T, false→fails, eq→T, equal?}
use Rattle.lists.specs.Pigeonhole.{distinct_cons}
use Rattle.lists.specs.Stores.{sets-append}
use Rattle.lists.specs.Counts.{times, times-same, times-other, counted-inside, still-enough}
use Rattle.items.specs.Chains.{Chained, ends}
use Rattle.items.specs.ChainLaws.{chained-unique}
use Rattle.items.specs.StepLaws.{LowersOn, lowers-start, lowers-end, upper, lowers-next, uppers-begin}
use Rattle.items.specs.Depths.{freed, CanPeel, PeelDone}

-- one freed as the counts of ns are lowered: it waited, and waits no more
pub record Freed (ns under : List ℕ) (n : ℕ) : Type 0 where
  pub waited : 0 < get_or under n 0
  pub counted : get_or under n 0 ≡ times n ns

module _ (m : ℕ) (ms under : List ℕ) (enough : (n : ℕ) → times n (m ∷ ms) ≤ get_or under n 0) where
  abbrev left : ℕ
  left = get_or under m 0 - 1

  hit : get_or (set under m left) m 0 ≡ left
  hit = get_or-set_same under m left 0 (counted-inside m ms under enough)

  -- the first is freed if none is left
  first-freed : left ≡ 0 → Freed (m ∷ ms) under m
  first-freed e =
      let all = enough m in
      let rest = still-enough m ms under enough m in
      let h = hit in
      let t = times-same m ms in
      record { waited = omega arith; counted = omega arith }

  later→ : (n : ℕ) → Freed ms (set under m left) n → Freed (m ∷ ms) under n
  later→ n f =
      let w = f.waited in
      let c = f.counted in
      ⊎_elim (λ e. let h = hit in let t = times-same m ms in rw e (record {
        waited = omega (arith, rw e at w);
        counted = omega (arith, rw e at w, rw e at c);
      }))
      (λ apart. let h = get_or-set_other under m n left 0 apart in let t = times-other n m ms apart in
      record { waited = omega arith; counted = omega arith }) (equal? n m)

  →later : (n : ℕ) → Freed (m ∷ ms) under n → ((n ≡ m) × (left ≡ 0)) ⊎ Freed ms (set under m left) n
  →later n f =
      let w = f.waited in
      let c = f.counted in
      ⊎_elim (λ e. ⊎_elim (λ z. inl (e, z)) (λ some. let h = hit in let t = times-same m ms in inr (rw e (record {
        waited = omega (arith, some);
        counted = omega (arith, rw e at c);
      }))) (equal? left 0))
      (λ apart. let h = get_or-set_other under m n left 0 apart in let t = times-other n m ms apart in
      inr (record { waited = omega arith; counted = omega arith })) (equal? n m)

module _ where
  pub freed→ : (ns under : List ℕ) → ((n : ℕ) → times n ns ≤ get_or under n 0) → (n : ℕ) → Memᴰ n (freed ns under)
      → Freed ns under n
  unfolding freed
  freed→ [] under enough n m = absurd (Memᴰ.not-nil m)
  freed→ (x ∷ xs) under enough n m =
      go (eqb (left x xs under enough) 0) refl m
      (λ k. later→ x xs under enough n (freed→ xs _ (still-enough x xs under enough) n k))
    where
      go : (b : Bool) → eqb (left x xs under enough) 0 ≡ b
          → Memᴰ n (cond b (x ∷ freed xs (set under x (left x xs under enough)))
          (freed xs (set under x (left x xs under enough))))
          → (Memᴰ n (freed xs (set under x (left x xs under enough))) → Freed (x ∷ xs) under n)
          → Freed (x ∷ xs) under n
      go true e k rest =
          ⊎_elim (λ q. rw q (first-freed x xs under enough (eqb→eq _ 0 (true→T _ e)))) rest (Memᴰ.cases_cons k)
      go false e k rest = rest k

  pub →freed : (ns under : List ℕ) → ((n : ℕ) → times n ns ≤ get_or under n 0) → (n : ℕ) → Freed ns under n
      → Memᴰ n (freed ns under)
  unfolding freed keep
  →freed [] under enough n f = absurd (let w = f.waited in let c = f.counted in omega arith)
  →freed (x ∷ xs) under enough n f =
      go (eqb (left x xs under enough) 0) refl
      (⊎_elim inl (λ k. inr (→freed xs _ (still-enough x xs under enough) n k)) (→later x xs under enough n f))
    where
      go : (b : Bool) → eqb (left x xs under enough) 0 ≡ b
          → ((n ≡ x) × (left x xs under enough ≡ 0))
          ⊎ Memᴰ n (freed xs (set under x (left x xs under enough)))
          → Memᴰ n (cond b (x ∷ freed xs (set under x (left x xs under enough)))
          (freed xs (set under x (left x xs under enough))))
      go true e k = ⊎_elim (λ q. Memᴰ.head q.0) Memᴰ.tail k
      go false e k =
          ⊎_elim (λ q. absurd (false→fails _ e (eq→T _ 0 q.1))) (λ h. h) k

  pub freed-distinct : (ns under : List ℕ) → ((n : ℕ) → times n ns ≤ get_or under n 0) → Distinct (freed ns under)
  unfolding freed Distinct
  freed-distinct [] under enough = tt
  freed-distinct (x ∷ xs) under enough =
      go (eqb (left x xs under enough) 0) refl (freed-distinct xs _ (still-enough x xs under enough))
    where
      go : (b : Bool) → eqb (left x xs under enough) 0 ≡ b
          → Distinct (freed xs (set under x (left x xs under enough)))
          → Distinct (cond b (x ∷ freed xs (set under x (left x xs under enough)))
          (freed xs (set under x (left x xs under enough))))
      go true e d =
          distinct_cons x _ (λ m. let f = freed→ xs _ (still-enough x xs under enough) x m in
          let w = f.waited in let h = hit x xs under enough in
          let z = eqb→eq (left x xs under enough) 0 (true→T _ e) in omega arith) d
      go false e d = d

-- after some places: what is freed is what was freed so far and what the places left free
pub record PeelsOn (us next under₀ queue₀ : List ℕ) (start count : ℕ) (under queue : List ℕ) (c queued : ℕ) : Type 0
  where
    pub on : LowersOn us next under₀ start under c
    pub done : List ℕ
    pub so_far : (cs : List ℕ) → Chained next start cs
        → freed (map (at us) cs) under₀ ≡ done ++ freed (map (at us) on.can.places) under
    pub counted : queued ≡ count + length done
    pub held : queue ≡ sets queue₀ count done
    pub room : queued + length (freed (map (at us) on.can.places) under) ≤ length queue₀

module _ (us next under₀ queue₀ : List ℕ) (start count : ℕ) where
  pub peels-start : CanPeel us next start under₀ queue₀ count → PeelsOn us next under₀ queue₀ start count under₀
      queue₀ start count
  unfolding lowers-start
  peels-start p =
      record {
        on = lowers-start us next under₀ start p.lowers;
        done = [];
        so_far = λ cs h. ap (λ (l : List ℕ). freed (map (at us) l) under₀) (chained-unique h p.lowers.chained);
        counted = omega arith;
        held = refl;
        room = p.room;
      }

  module _ (under queue : List ℕ) (c queued : ℕ) (p : PeelsOn us next under₀ queue₀ start count under queue c queued)
    where
      pub peels-end : c ≡ 0 → (cs : List ℕ) → Chained next start cs
          → PeelDone (map (at us) cs) under₀ queue₀ count under queue queued
      unfolding freed
      peels-end e cs h =
          let none = ap (λ (ds : List ℕ). freed (map (at us) ds) under)
          (chained-unique {ys = []} (rw e at p.on.can.chained) ends) in
          let all : freed (map (at us) cs) under₀ ≡ p.done = p.so_far cs h
          ∙ (ap (λ (l : List ℕ). p.done ++ l) none ∙ append-nil p.done) in
          record {
            lowers = lowers-end us next under₀ start under c p.on e cs h;
            counts = rw all p.counted;
            queues = rw all p.held;
          }

      pub peels-long : length queue ≡ length queue₀
      peels-long = ap length p.held ∙ length-sets queue₀ count p.done

      module _ (some : c ≡ 0 → ⊥) where
        abbrev a : ℕ
        a = upper us next under₀ start under c p.on some

        abbrev remains : ℕ
        remains = get_or under a 0 - 1

        abbrev u : List ℕ
        u = set under a remains

        abbrev on' : LowersOn us next under₀ start u (get_or next c 0)
        on' = lowers-next us next under₀ start under c p.on some

        begins : map (at us) p.on.can.places ≡ a ∷ map (at us) on'.can.places
        begins = uppers-begin us next under₀ start under c p.on some

        -- the count of the upper item of place c does not come to 0
        pub peels-past : (remains ≡ 0 → ⊥)
            → PeelsOn us next under₀ queue₀ start count (set under a remains) queue (get_or next c 0) queued
        unfolding freed
        peels-past waits =
            let same : freed (map (at us) p.on.can.places) under ≡ freed (map (at us) on'.can.places) u =
            ap (λ (l : List ℕ). freed l under) begins ∙ rw (ne_eqb remains 0 waits) in
            record {
              on = on';
              done = p.done;
              so_far = λ cs h. p.so_far cs h ∙ ap (λ (l : List ℕ). p.done ++ l) same;
              counted = p.counted;
              held = p.held;
              room = rw same at p.room;
            }

        -- it comes to 0, and the item is queued
        pub peels-free : remains ≡ 0 → (queued < length queue)
            × PeelsOn us next under₀ queue₀ start count (set under a remains) (set queue queued a) (get_or next c 0)
            (queued + 1)
        unfolding freed
        peels-free free =
            let one : freed (map (at us) p.on.can.places) under ≡ a ∷ freed (map (at us) on'.can.places) u =
            ap (λ (l : List ℕ). freed l under) begins ∙ rw (eq-eqb remains 0 free) in
            let fits = rw one at p.room in
            let long = peels-long in (
              omega arith,
              record {
                on = on';
                done = p.done ++ (a ∷ []);
                so_far = λ cs h. p.so_far cs h ∙ (ap (λ (l : List ℕ). p.done ++ l) one
                    ∙ sym (append_assoc p.done (a ∷ []) (freed (map (at us) on'.can.places) u)));
                counted = let l = length-append p.done (a ∷ []) in let k = p.counted in omega arith;
                held = rw (p.held, p.counted) (sets-append queue₀ count p.done (a ∷ []));
                room = omega arith;
              },
            )
