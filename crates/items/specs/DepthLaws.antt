-- The depth of items by the depths of those below, and the items peeled level by level: those gone have no greater
-- depth than the present level, those of the level have that depth, and those ahead have one more.
use Prim.Native.Nat.{ℕ, zero, suc, ◌+◌, ◌≤◌}
use native.Mathlib.Omega.{arith}
use Rattle.std.specs.Prelude.{◌≡◌, refl, ◌⊎◌, Bool, false, ◌||◌, not, length, get_or, T, eqb}
use Rattle.std.proofs.Common.{sym, ◌∙◌, ap, subst, inr, ⊎_elim}
use mathlib.Core.List.Memᴰ
use mathlib.Core.List.{List, [], ◌∷◌, ◌++◌, map, append-nil, append_assoc, Memᴰ}
use Rattle.std.proofs.Math.Logic.{inl}
use Rattle.std.proofs.Math.Dec.{eqb→eq}
use Rattle.lists.specs.Lists.{keep, any_of, all_of, is_in, greatest, at, Distinct}
use Rattle.lists.specs.Tests.{fails→false, eq→T, not-passes, not-fails, equal?}
use Rattle.lists.specs.Members.{keep-member, kept, all→member, is_in→member, member→is_in, is_in-snoc}
use Rattle.lists.specs.Pigeonhole.{distinct_head, distinct_tail, append-distinct, keep-distinct, pigeonhole}
use Rattle.lists.specs.Pigeonhole.{same-members}
use Rattle.lists.specs.Orders.{fails→member}
use Rattle.lists.specs.Greatest.{greatest-map-upper, greatest-map-least}
use Rattle.lists.specs.Counts.{times, lowered, lowered-times, counted-member}
use Rattle.items.specs.Steps.{waiting, Rises, Stepped}
use Rattle.items.specs.StepLaws.{waiting-all, waiting_none, waits-enough, can-lower, lowered-waits}
use Rattle.items.specs.Depths.{depth_by, Deep, Peeled, all-peeled, never-peeled, freed, CanPeel}
use Rattle.items.specs.PeelLaws.{freed→, →freed, freed-distinct}

-- what stands behind others that are all different is none of them
distinct-middle : (xs : List ℕ) (x : ℕ) (ys : List ℕ) → Distinct (xs ++ (x ∷ ys)) → Memᴰ x xs → ⊥
distinct-middle [] x ys d m = Memᴰ.not-nil m
distinct-middle (z ∷ zs) x ys d m =
    ⊎_elim (λ e. distinct_head z (zs ++ (x ∷ ys)) d (Memᴰ.append_right zs (Memᴰ.head (sym e))))
    (distinct-middle zs x ys (distinct_tail z (zs ++ (x ∷ ys)) d)) (Memᴰ.cases_cons m)

module _ (below : ℕ → List ℕ) where
  -- an item with nothing below
  deep-first : (n : ℕ) → length (below n) ≡ 0 → Deep below n 1
  deep-first n e = record { positive = omega arith; steady = steady }
    where
      none : (bs : List ℕ) → length bs ≡ 0 → bs ≡ []
      none [] h = refl
      none (b ∷ bs) h = absurd (omega arith)

      steady : (fuel : ℕ) → 1 ≤ fuel → depth_by below fuel n ≡ 1
      steady zero h = absurd (omega arith)
      steady (suc fuel) h = unfold depth_by greatest in (rw (none (below n) e))

  -- an item over others of depths up to k, one of which has it
  deep-next : (n b k : ℕ) → ((m : ℕ) → Memᴰ m (below n) → (d : ℕ) × (d ≤ k) × Deep below m d)
      → Memᴰ b (below n) → Deep below b k → Deep below n (suc k)
  deep-next n b k all m deep = record { positive = omega arith; steady = steady }
    where
      steady : (fuel : ℕ) → suc k ≤ fuel → depth_by below fuel n ≡ suc k
      steady zero h = absurd (omega arith)
      steady (suc fuel) h = unfold depth_by in (
          let low = greatest-map-upper (depth_by below fuel) m in
          let here = deep.steady fuel (omega arith) in
          let high = greatest-map-least (depth_by below fuel) (below n) k (λ x t. let r = all x t in let l = r.1 in
          let e = r.2.steady fuel (omega arith) in omega arith) in
          omega arith)

  -- items that each have one of them below have no greatest depth
  deep-never : (ns : List ℕ) → ((n : ℕ) → Memᴰ n ns → (b : ℕ) × Memᴰ b (below n) × Memᴰ b ns)
      → (fuel n : ℕ) → Memᴰ n ns → fuel ≤ depth_by below fuel n
  unfolding depth_by
  deep-never ns on zero n m = omega arith
  deep-never ns on (suc fuel) n m =
      let r = on n m in
      let rest = deep-never ns on fuel r.0 r.2 in
      let up = greatest-map-upper (depth_by below fuel) r.1 in
      omega arith

  -- `gone` are peeled, `now` are those of the present level, the last of `levels`, and `ahead` those of the next
  pub record Peeling (items under gone now ahead : List ℕ) (levels : ℕ) : Type 0 where
    pub inside : (n : ℕ) → Memᴰ n (gone ++ (now ++ ahead)) → Memᴰ n items
    pub distinct : Distinct (gone ++ (now ++ ahead))
    pub waits : (n : ℕ) → get_or under n 0 ≡ waiting (λ b. is_in b gone) (below n)
    pub clear : (n : ℕ) → Memᴰ n items → get_or under n 0 ≡ 0 → Memᴰ n (gone ++ (now ++ ahead))
    pub nothing : (n : ℕ) → Memᴰ n (gone ++ (now ++ ahead)) → get_or under n 0 ≡ 0
    pub peeled : (n : ℕ) → Memᴰ n gone → (d : ℕ) × (d ≤ levels) × Deep below n d
    pub present : (n : ℕ) → Memᴰ n now → Deep below n levels
    pub next : (n : ℕ) → Memᴰ n ahead → Deep below n (suc levels)
    pub deepest : (levels ≡ 0) ⊎ ((n : ℕ) × Memᴰ n items × Deep below n levels)

  -- at first those with nothing below are ahead
  pub peeling-start : (items under : List ℕ) → Distinct items → ((n : ℕ) → get_or under n 0 ≡ length (below n))
      → Peeling items under [] [] (keep (λ n. eqb (get_or under n 0) 0) items) 0
  peeling-start items under d counted =
      let test : ℕ → Bool = λ n. eqb (get_or under n 0) 0 in
      record {
        inside = λ n m. (keep-member test items m).0;
        distinct = keep-distinct test items d;
        waits = λ n. counted n ∙ sym (waiting_none (λ b. is_in b []) (λ b. unfold any_of in refl) (below n));
        clear = λ n m e. kept test m (eq→T _ 0 e);
        nothing = λ n m. eqb→eq (get_or under n 0) 0 (keep-member test items m).1;
        peeled = λ n m. absurd (Memᴰ.not-nil m);
        present = λ n m. absurd (Memᴰ.not-nil m);
        next = λ n m. let e = eqb→eq (get_or under n 0) 0 (keep-member test items m).1 in
            deep-first n (sym (counted n) ∙ e);
        deepest = inl refl;
      }

  -- where none of the present level is left, the next begins
  pub peeling-level : (items under gone : List ℕ) (n : ℕ) (ahead : List ℕ) (levels : ℕ)
      → Peeling items under gone [] (n ∷ ahead) levels → Peeling items under gone (n ∷ ahead) [] (suc levels)
  peeling-level items under gone n ahead levels p =
      let same : gone ++ ((n ∷ ahead) ++ []) ≡ gone ++ (n ∷ ahead) = ap (λ (l : List ℕ). gone ++ l)
      (append-nil (n ∷ ahead)) in
      record {
        inside = rw same p.inside;
        distinct = rw same p.distinct;
        waits = p.waits;
        clear = rw same p.clear;
        nothing = rw same p.nothing;
        peeled = λ m k. let r = p.peeled m k in let l = r.1 in (r.0, omega arith, r.2);
        present = p.next;
        next = λ m k. absurd (Memᴰ.not-nil k);
        deepest = inr (n, p.inside n (Memᴰ.append_right gone (Memᴰ.head refl)), p.next n (Memᴰ.head refl));
      }

  -- item n of the present level is peeled, and what that frees comes behind those ahead
  module _ (items us head next : List ℕ) (steps : Stepped below items us head next) (under gone : List ℕ) (n : ℕ)
      (now ahead : List ℕ) (levels : ℕ) (p : Peeling items under gone (n ∷ now) ahead levels) (start : ℕ)
      (r : Rises below us next start n) where
    abbrev uppers : List ℕ
    uppers = map (at us) r.places

    fresh : is_in n gone ≡ false
    fresh =
        fails→false (is_in n gone) (λ t. distinct-middle gone n (now ++ ahead) p.distinct (is_in→member n gone t))

    more : (m : ℕ) → is_in m (gone ++ (n ∷ [])) ≡ eqb n m || is_in m gone
    more m = is_in-snoc m n gone

    enough : (m : ℕ) → times m uppers ≤ get_or under m 0
    enough =
        waits-enough (λ b. is_in b gone) (λ b. is_in b (gone ++ (n ∷ []))) n fresh more below us next start r under
        p.waits

    lowers : (m : ℕ) → get_or (lowered uppers under) m 0 + times m uppers ≡ get_or under m 0
    lowers m = lowered-times uppers under m enough

    waits' : (m : ℕ) → get_or (lowered uppers under) m 0 ≡ waiting (λ b. is_in b (gone ++ (n ∷ []))) (below m)
    waits' =
        lowered-waits (λ b. is_in b gone) (λ b. is_in b (gone ++ (n ∷ []))) n fresh more below us next start r under
        p.waits

    -- the counts of those above it can be lowered, if the queue has room for what that frees
    pub peeling-peels : (queue : List ℕ) (count : ℕ) → count + length (freed uppers under) ≤ length queue
        → CanPeel us next start under queue count
    unfolding can-lower
    peeling-peels queue count room =
        record {
          lowers = can-lower (λ b. is_in b gone) (λ b. is_in b (gone ++ (n ∷ []))) n fresh more below us next start r
              under p.waits;
          room = room;
        }

    -- one that is freed waited for n
    over : (m : ℕ) → Memᴰ m (freed uppers under) → Memᴰ n (below m)
    over m k =
        let f = freed→ uppers under enough m k in
        let w = f.waited in
        let c = f.counted in
        let t = r.turned m in
        counted-member n (below m) (omega arith)

    free : (m : ℕ) → Memᴰ m (freed uppers under) → get_or (lowered uppers under) m 0 ≡ 0
    free m k = let c = (freed→ uppers under enough m k).counted in let l = lowers m in omega arith

    -- all below it are peeled
    freed-deep : (m : ℕ) → Memᴰ m (freed uppers under) → Deep below m (suc levels)
    freed-deep m k = deep-next m n levels all (over m k) (p.present n (Memᴰ.head refl))
      where
        all : (b : ℕ) → Memᴰ b (below m) → (d : ℕ) × (d ≤ levels) × Deep below b d
        all b h =
            let none : waiting (λ e. is_in e (gone ++ (n ∷ []))) (below m) ≡ 0 = sym (waits' m) ∙ free m k in
            let every : T (all_of (λ e. is_in e (gone ++ (n ∷ []))) (below m)) =
            rw (← waiting-all (λ e. is_in e (gone ++ (n ∷ []))) (below m)) (eq→T _ 0 none) in
            ⊎_elim (p.peeled b) (λ e. let q = Memᴰ.eq_of_singleton e in
            (levels, omega arith, subst (λ (x : ℕ). Deep below x levels) (sym q) (p.present n (Memᴰ.head refl))))
            (Memᴰ.append_cases gone (is_in→member b (gone ++ (n ∷ []))
            (all→member (λ e. is_in e (gone ++ (n ∷ []))) every h)))

    abbrev whole : List ℕ
    whole = gone ++ ((n ∷ now) ++ ahead)

    same : (gone ++ (n ∷ [])) ++ (now ++ (ahead ++ freed uppers under)) ≡ whole ++ freed uppers under
    same = simp append_assoc

    pub peeling-next : Peeling items (lowered uppers under) (gone ++ (n ∷ [])) now (ahead ++ freed uppers under) levels
    peeling-next =
        record {
          inside = rw same (λ m k. ⊎_elim (p.inside m) (λ f. steps.upper m n (over m f))
              (Memᴰ.append_cases whole k));
          distinct = rw same (append-distinct whole (freed uppers under) p.distinct
              (freed-distinct uppers under enough)
              (λ m k f. let w = (freed→ uppers under enough m f).waited in let z = p.nothing m k in omega arith));
          waits = waits';
          clear = rw same (λ m k e. ⊎_elim (λ z. Memᴰ.append_left (freed uppers under) (p.clear m k z))
              (λ some. Memᴰ.append_right whole (→freed uppers under enough m (record {
                waited = omega (arith, some);
                counted = let l = lowers m in omega arith;
              })))
              (equal? (get_or under m 0) 0));
          nothing = rw same (λ m k. ⊎_elim (λ o. let z = p.nothing m o in let l = lowers m in omega arith) (free m)
              (Memᴰ.append_cases whole k));
          peeled = λ m k. ⊎_elim (p.peeled m) (λ e. let q = Memᴰ.eq_of_singleton e in (
            levels,
            omega arith,
            subst (λ (x : ℕ). Deep below x levels) (sym q)
                (p.present n (Memᴰ.head refl)),
          )) (Memᴰ.append_cases gone k);
          present = λ m k. p.present m (Memᴰ.tail k);
          next = λ m k. ⊎_elim (p.next m) (freed-deep m) (Memᴰ.append_cases ahead k);
          deepest = inr (
            n,
            p.inside n (Memᴰ.append_right gone (Memᴰ.head refl)),
            p.present n (Memᴰ.head refl),
          );
        }

  -- in the end nobody is left: all are peeled, or each of those never peeled is over another
  module _ (items us head next : List ℕ) (steps : Stepped below items us head next) (under gone : List ℕ) (levels : ℕ)
      (p : Peeling items under gone [] [] levels) where
    all-gone : (n : ℕ) → Memᴰ n (gone ++ []) → Memᴰ n gone
    all-gone n m = rw (append-nil gone) at m

    pub peeling-all : levels ≤ length gone → length gone ≡ length items → Peeled below items levels
    peeling-all few long =
        all-peeled (omega arith) (λ n m. p.peeled n (same-members gone items (rw (append-nil gone) at p.distinct)
        (λ x k. p.inside x (Memᴰ.append_left [] k)) (omega arith) n m)) p.deepest

    pub peeling-never : Distinct items → (length gone ≡ length items → ⊥) → Peeled below items 0
    peeling-never different fewer =
        let r = fails→member (λ n. is_in n gone) items unpeeled in
        never-peeled refl r.0 r.1 (λ fuel. deep-never left on fuel r.0 (kept out r.1
        (not-passes (is_in r.0 gone) r.2)))
      where
        -- as many are gone as there are items, if all items are
        unpeeled : T (all_of (λ n. is_in n gone) items) → ⊥
        unpeeled all =
            let most = pigeonhole gone items (rw (append-nil gone) at p.distinct)
            (λ x k. p.inside x (Memᴰ.append_left [] k)) in
            let least = pigeonhole items gone different (λ x k. is_in→member x gone (all→member _ all k)) in
            fewer (omega arith)

        out : ℕ → Bool
        out n = not (is_in n gone)

        left : List ℕ
        left = keep out items

        on : (n : ℕ) → Memᴰ n left → (b : ℕ) × Memᴰ b (below n) × Memᴰ b left
        on n m =
            let k = keep-member out items m in
            let stays = not-fails (is_in n gone) k.1 in
            let r = fails→member (λ b. is_in b gone) (below n) (λ t. stays (member→is_in (all-gone n (p.clear n k.0
            (p.waits n ∙ eqb→eq _ 0 (rw (waiting-all (λ b. is_in b gone) (below n)) t)))))) in
            (r.0, r.1, kept out (steps.lower n r.0 r.1) (not-passes (is_in r.0 gone) r.2))
