-- A walk that stays within a list of nets: until one is met again its nets are different ones of the list, so they are
-- no more than the list.
use Prim.Native.Nat.{ℕ, zero, suc, ◌+◌, ◌-◌, ◌*◌, ◌^◌, ◌≤◌, ◌<◌}
use Rattle.std.proofs.Math.Numerals.{add-one}
use native.Mathlib.Omega.{arith}
use Rattle.std.specs.Prelude.{◌≡◌, length, drop, get_or, set, replicate}
use Rattle.std.proofs.Math.Path.{refl, sym, ap}
use Rattle.std.proofs.Common.{◌∙◌, ap₂, subst, get_or-set_same, get_or-set_other}
use mathlib.Core.List.{List, [], ◌∷◌, ◌++◌, Memᴰ}
use mathlib.Core.List.{append_assoc, append-nil}
use Rattle.std.proofs.Math.Logic.{⊎_elim}
use Rattle.std.proofs.Math.ListN.{length-append, length-set, length-replicate, get_or-append}
use Rattle.std.proofs.lemmas.List.{get_or-replicate}
use Rattle.std.proofs.Math.Seq.{drop-append_seam, get_or_at}
use Rattle.lists.specs.Lists.{at, Distinct}
use Rattle.lists.specs.Tests.{equal?}
use Rattle.lists.specs.Pigeonhole.{distinct_snoc, pigeonhole}
use Rattle.leftedge.specs.Ring.{net_below, after, met, Confined, Visited, not_yet, visited, Marked, Closes}

-- one net more: the others keep their places, and it has the last
visited-more : (ns : List ℕ) (n m v : ℕ) → (m ≡ n → ⊥) → Visited ns m v → Visited (ns ++ (n ∷ [])) m v
visited-more ns n m v q (not_yet e h) =
    not_yet e (λ k. ⊎_elim h (λ r. q (mathlib.Core.List.Memᴰ.eq_of_singleton r)) (mathlib.Core.List.Memᴰ.append_cases ns k))
visited-more ns n m v q (visited i e h r) =
    visited i e (let l = length-append ns (n ∷ []) in omega arith) (get_or-append ns (n ∷ []) 0 i h ∙ r)

visited-last : (ns : List ℕ) (n : ℕ) → Visited (ns ++ (n ∷ [])) n (length ns + 1)
visited-last ns n =
    visited (length ns) refl (let l = length-append ns (n ∷ []) in omega arith) (get_or_at ns n [] 0 (length ns) refl)

module _ (next : ℕ → ℕ) (start : ℕ) where
  pub length-met : (k : ℕ) → length (met next start k) ≡ k
  unfolding met
  length-met zero = refl
  length-met (suc k) = let r = length-met k in length-append (met next start k) _ ∙ omega arith

  abbrev Unmet : ℕ → Type 0
  Unmet k = (j : ℕ) → j < k → Memᴰ (after next start j) (met next start j) → ⊥

  -- nets of which none is met again are different
  pub met-distinct : (k : ℕ) → Unmet k → Distinct (met next start k)
  unfolding met Distinct
  met-distinct zero h = tt
  met-distinct (suc k) h =
      distinct_snoc (met next start k) (after next start k) (h k (omega arith))
      (met-distinct k (λ j l. h j (omega arith)))

  module _ (ns : List ℕ) (begins : Memᴰ start ns) (stays : (n : ℕ) → Memᴰ n ns → Memᴰ (next n) ns) where
    pub after-inside : (k : ℕ) → Memᴰ (after next start k) ns
    unfolding after
    after-inside zero = begins
    after-inside (suc k) = stays (after next start k) (after-inside k)

    pub met-inside : (k m : ℕ) → Memᴰ m (met next start k) → Memᴰ m ns
    unfolding met
    met-inside zero m h = absurd (mathlib.Core.List.Memᴰ.not-nil h)
    met-inside (suc k) m h =
        ⊎_elim (met-inside k m) (λ e. mathlib.Core.List.Memᴰ.cast (mathlib.Core.List.Memᴰ.eq_of_singleton e) (after-inside k))
        (mathlib.Core.List.Memᴰ.append_cases (met next start k) h)

    -- so they are no more than the nets of the list
    pub met-few : (k : ℕ) → Unmet k → k ≤ length ns
    met-few k h =
        let p = pigeonhole (met next start k) ns (met-distinct k h) (met-inside k) in let l = length-met k in
        omega arith

  -- each net met stands in its place, and the nets from a place on are those of a walk from there
  pub get_or-met : (k i : ℕ) → i < k → get_or (met next start k) i 0 ≡ after next start i
  unfolding met
  get_or-met zero i h = absurd (omega arith)
  get_or-met (suc k) i h =
      let l = length-met k in
      ⊎_elim (λ (e : i ≡ k). get_or_at (met next start k) (after next start k) [] 0 i (omega arith)
      ∙ ap (after next start) (sym e))
      (λ e. get_or-append (met next start k) (after next start k ∷ []) 0 i (omega arith)
      ∙ get_or-met k i (omega arith)) (equal? i k)

  after-from : (i k : ℕ) → after next start (k + i) ≡ after next (after next start i) k
  unfolding after
  after-from i zero = let e : zero + i ≡ i = omega arith in ap (after next start) e
  after-from i (suc k) =
      let e : suc k + i ≡ suc (k + i) = omega arith in
      ap (after next start) e ∙ ap next (after-from i k)

  -- a walk goes on from where it has come to
  pub met-from : (i k : ℕ) → met next start (k + i) ≡ met next start i ++ met next (after next start i) k
  unfolding met
  met-from i zero =
      let e : zero + i ≡ i = omega arith in
      ap (met next start) e ∙ sym (append-nil (met next start i))
  met-from i (suc k) =
      let e : suc k + i ≡ suc (k + i) = omega arith in
      ap (met next start) e
      ∙ (ap₂ (λ (l : List ℕ) (n : ℕ). l ++ (n ∷ [])) (met-from i k) (after-from i k)
      ∙ append_assoc (met next start i) (met next (after next start i) k) _)

  pub drop-met : (i k : ℕ) → drop i (met next start (i + k)) ≡ met next (after next start i) k
  drop-met i k =
      let e : i + k ≡ k + i = omega arith in
      let l = length-met i in
      ap (λ (j : ℕ). drop i (met next start j)) e ∙ (ap (λ (l : List ℕ). drop i l) (met-from i k)
      ∙ ap (λ (j : ℕ). drop j (met next start i ++ met next (after next start i) k)) (sym l)
      ∙ drop-append_seam (met next start i) (met next (after next start i) k))

  pub marked_start : Marked next start (replicate 512 0) start 0
  unfolding after met
  marked_start =
      record {
        long = length-replicate {A = ℕ} 512 0;
        here = refl;
        unmet = λ k h. absurd (omega arith);
        places = λ m h. not_yet (get_or-replicate 512 m 0 0 h) mathlib.Core.List.Memᴰ.not-nil;
      }

  module _ (visits : List ℕ) (n steps : ℕ) (w : Marked next start visits n steps) (low : n < 512) where
    -- a net that is not marked is not met
    unmarked : get_or visits n 0 ≡ 0 → Memᴰ n (met next start steps) → ⊥
    unmarked e = go (w.places n low)
      where
        go : Visited (met next start steps) n (get_or visits n 0) → Memᴰ n (met next start steps) → ⊥
        go (not_yet z h) = h
        go (visited i z h q) = absurd (omega arith)

    -- a step: the net is marked with its place
    marked_more : get_or visits n 0 ≡ 0 → Marked next start (set visits n (steps + 1)) (next n) (steps + 1)
    unfolding met
    marked_more e =
        rw add-one (record {
          long = length-set visits n (suc steps)
              ∙ w.long;
          here = forward;
          unmet = unmet;
          places = places;
        })
      where
        forward : next n ≡ after next start (suc steps)
        forward = unfold after in (ap next w.here)

        new : Memᴰ n (met next start steps) → ⊥
        new = unmarked e

        unmet : (k : ℕ) → k < suc steps → Memᴰ (after next start k) (met next start k) → ⊥
        unmet k h =
            ⊎_elim (λ q. subst (λ (j : ℕ). Memᴰ (after next start j) (met next start j) → ⊥) (sym q)
            (subst (λ (m : ℕ). Memᴰ m (met next start steps) → ⊥) w.here new)) (λ q. w.unmet k (omega arith))
            (equal? k steps)

        here : Visited (met next start (suc steps)) n (suc steps)
        here =
            let l = length-met steps in
            subst (λ (k : ℕ). Visited (met next start steps ++ (k ∷ [])) n (suc steps)) w.here
            (subst (Visited (met next start steps ++ (n ∷ [])) n) (omega arith) (visited-last (met next start steps) n))

        places : (m : ℕ) → m < 512 → Visited (met next start (suc steps)) m (get_or (set visits n (suc steps)) m 0)
        places m h =
            let l = w.long in
            ⊎_elim (λ q. rw q (rw (get_or-set_same visits n (suc steps) 0 (omega arith)) here))
            (λ q. rw (get_or-set_other visits n m (suc steps) 0 q)
            (subst (λ (k : ℕ). Visited (met next start steps ++ (k ∷ [])) m (get_or visits m 0)) w.here
            (visited-more (met next start steps) n m _ q (w.places m h)))) (equal? m n)

    -- a mark says how many steps ago the net was met
    marked-closes : (get_or visits n 0 ≡ 0 → ⊥)
        → Closes next start n (steps + 1 - get_or visits n 0) × (get_or visits n 0 ≤ steps + 1)
    marked-closes marked = go (w.places n low)
      where
        go : Visited (met next start steps) n (get_or visits n 0)
            → Closes next start n (steps + 1 - get_or visits n 0) × (get_or visits n 0 ≤ steps + 1)
        go (not_yet z h) = absurd (marked z)
        go (visited i z h q) =
            let l = length-met steps in (
              record {
                steps = steps;
                place = i;
                split = omega arith;
                some = omega arith;
                first = sym q ∙ get_or-met steps i (omega arith);
                second = w.here;
                unmet = w.unmet;
              },
              omega arith,
            )

-- a place of a row counted from 1, as an index
at-index : (row : List ℕ) (k : ℕ) → 1 ≤ k → get_or row (k - 1) 0 ≡ at row k
unfolding at
at-index row zero h = absurd (omega arith)
at-index row (suc k) h = ap (λ (j : ℕ). get_or row j 0) (omega arith)

-- what the code asks of a net that the walk comes to
pub record Passed (bot columns : List ℕ) (n : ℕ) : Type 0 where
  pub low : n < 512
  pub small : n < 4294967296
  pub scaled : n * 4 < 4294967296
  pub first : 1 ≤ get_or columns n 0
  pub last : get_or columns n 0 - 1 < length bot
  pub down : get_or bot (get_or columns n 0 - 1) 0 ≡ net_below bot columns n

pub column_fits : {bot columns : List ℕ} {n : ℕ} → Passed bot columns n → length bot * 4 < 2 ^ 63
    → get_or columns n 0 < 9223372036854775808
column_fits {bot} p h =
    let first = p.first in
    let last = p.last in
    let short : length bot * 4 < 9223372036854775808 = h in
    omega arith

-- the walk of the code: the next net is to be marked with `mark`
pub record Walks (bot columns : List ℕ) (start : ℕ) (visits : List ℕ) (n mark : ℕ) : Type 0 where
  steps : ℕ
  one : mark ≡ steps + 1
  marked : Marked (net_below bot columns) start visits n steps

module _ {bot columns : List ℕ} {start : ℕ} where
  pub walk-starts : Walks bot columns start (replicate 512 0) start 1
  walk-starts = record { steps = 0; one = omega arith; marked = marked_start (net_below bot columns) start }

module _ {bot columns : List ℕ} {start : ℕ} (conf : Confined bot columns start) where
  pub passed : {n : ℕ} (k : ℕ) → n ≡ after (net_below bot columns) start k → Passed bot columns n
  passed {n} k e =
      let c = conf.1 in
      let m : Memᴰ n conf.0 = mathlib.Core.List.Memᴰ.cast e (after-inside (net_below bot columns) start conf.0 c.begins
      c.stays k) in
      let column = c.column n m in
      let low = c.low n m in
      record {
        low = low;
        small = omega arith;
        scaled = omega arith;
        first = column.0;
        last = omega arith;
        down = at-index bot (get_or columns n 0) column.0;
      }

  pub start_small : start < 4294967296
  start_small = let low = conf.1.low start conf.1.begins in omega arith

  module _ {visits : List ℕ} {n mark : ℕ} (w : Walks bot columns start visits n mark) where
    pub walk-passed : Passed bot columns n
    walk-passed = passed w.steps w.marked.here

    short : w.steps ≤ 511
    short =
        let a = conf.1.few in let b = met-few (net_below bot columns) start conf.0 conf.1.begins
        conf.1.stays w.steps w.marked.unmet in omega arith

    pub walk-counts : mark + 1 < 4294967296
    walk-counts = let s = short in let e = w.one in omega arith

    pub walk-falls : 513 - (mark + 1) < 513 - mark
    walk-falls = let s = short in let e = w.one in omega arith

    -- the code's step down
    pub walk_step : get_or visits n 0 ≡ 0
        → Walks bot columns start (set visits n mark) (get_or bot (get_or columns n 0 - 1) 0) (mark + 1)
    walk_step e =
        let one = w.one in
        record {
          steps = w.steps + 1;
          one = omega arith;
          marked = rw (walk-passed.down, one)
              (marked_more (net_below bot columns) start visits n w.steps w.marked walk-passed.low e);
        }

    pub walk-closed : (get_or visits n 0 ≡ 0 → ⊥)
        → Closes (net_below bot columns) start n (mark - get_or visits n 0) × (get_or visits n 0 ≤ mark)
    walk-closed h =
        rw w.one
        (marked-closes (net_below bot columns) start visits n w.steps w.marked walk-passed.low h)
