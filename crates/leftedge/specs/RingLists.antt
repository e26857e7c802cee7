-- List facts of the walk's loops: the least of a growing front, what is kept of a mapped list, and a buffer whose
-- filled front grows.
use Prim.Native.Nat.{ℕ, zero, suc, min, ◌+◌, ◌-◌, ◌*◌, ◌≤◌, ◌<◌}
use Rattle.std.proofs.Common.{add-one, arith, sym, ◌∙◌, subst, length-append, length-set, drop-cons}
use Rattle.std.specs.Prelude.{◌≡◌, Bool, length, take, drop}
use Rattle.std.proofs.Math.Path.{refl, ap, ap₂}
use mathlib.Core.List.{List, [], ◌∷◌, ◌++◌, map, append_assoc}
use Rattle.std.proofs.Math.Bool.{true, false, cond}
use Rattle.std.proofs.Math.ListN.{get_or, set}
use Rattle.std.proofs.lemmas.List.{length-map}
use Rattle.std.proofs.Math.Seq.{append_snoc, set-append_seam}
use Rattle.lists.specs.Lists.{keep, each, least, overlay}
use Rattle.lists.specs.Ranges.{length-each}
use Rattle.channel.specs.Constraints.{Step}
use Rattle.leftedge.specs.Walk.{ring_numbers}
use Rattle.leftedge.specs.Ring.{net_below, after, met, pair_of, steps_by}
use Rattle.leftedge.specs.TrailLaws.{length-met}

-- the least of a front of one, and of a front that grows by one
least_first : (xs : List ℕ) → 0 < length xs → least (take 1 xs) ≡ get_or xs 0 0
unfolding least
least_first [] h = absurd (omega arith)
least_first (x ∷ xs) h = refl

least-suc : (xs : List ℕ) (i : ℕ) → 1 ≤ i → i < length xs
    → least (take (suc i) xs) ≡ min (least (take i xs)) (get_or xs i 0)
unfolding least
least-suc xs zero h k = absurd (omega arith)
least-suc [] (suc i) h k = absurd (omega arith)
least-suc (x ∷ []) (suc i) h k = absurd (omega arith)
least-suc (x ∷ (y ∷ ys)) (suc zero) h k = refl
least-suc (x ∷ (y ∷ ys)) (suc (suc i)) h k =
    let r = least-suc (y ∷ ys) (suc i) (omega arith) (omega arith) in ap (min x) r ∙ omega arith

least_more : (xs : List ℕ) (i : ℕ) → 1 ≤ i → i < length xs
    → least (take (i + 1) xs) ≡ min (least (take i xs)) (get_or xs i 0)
least_more xs i h k = rw add-one (least-suc xs i h k)

-- `low` is the least of the first i of `left`
pub record Lowest (left : List ℕ) (count low i : ℕ) : Type 0 where
  some : 1 ≤ i
  inside : i ≤ count
  is : low ≡ least (take i left)

pub lowest-first : (left : List ℕ) (count : ℕ) → 0 < count → count ≤ length left → Lowest left count (get_or left 0 0) 1
lowest-first left count h k =
    record { some = omega arith; inside = omega arith; is = sym (least_first left (omega arith)) }

module _ {left : List ℕ} {count low i : ℕ} (l : Lowest left count low i) where
  pub lowest-all : count ≤ i → low ≡ least (take count left)
  lowest-all h =
      let p = l.inside in let e : i ≡ count = omega arith in
      l.is ∙ ap (λ (k : ℕ). least (take k left)) e

  module _ (h : i < count) where
    pub lowest-falls : count - (i + 1) < count - i
    lowest-falls = omega arith

    module _ (k : count ≤ length left) where
      more : least (take (i + 1) left) ≡ min low (get_or left i 0)
      more = least_more left i l.some (omega arith) ∙ ap (λ (x : ℕ). min x (get_or left i 0)) (sym l.is)

      pub lowest-taken : get_or left i 0 < low → Lowest left count (get_or left i 0) (i + 1)
      lowest-taken t = let m = more in record { some = omega arith; inside = omega arith; is = omega arith }

      pub lowest-left : low ≤ get_or left i 0 → Lowest left count low (i + 1)
      lowest-left t = let m = more in record { some = omega arith; inside = omega arith; is = omega arith }

-- an index below 512 in bytes
pub scaled-low : {i n : ℕ} → i < n → n ≤ 512 → (i < 512) × (i * 4 < 4294967296) × (i + 1 < 4294967296)
scaled-low h k = (omega arith, omega arith, omega arith)

module _ {A : Type 0} where
  pub keep_same : (f g : A → Bool) → ((x : A) → f x ≡ g x) → (xs : List A) → keep f xs ≡ keep g xs
  unfolding keep
  keep_same f g h [] = refl
  keep_same f g h (x ∷ xs) = ap₂ (λ (b : Bool) (r : List A). cond b (x ∷ r) r) (h x) (keep_same f g h xs)

  -- keeping of a mapped list is mapping what is kept
  pub keep-map : {B : Type 0} (f : B → Bool) (g : A → B) (xs : List A)
      → keep f (map g xs) ≡ map g (keep (λ x. f (g x)) xs)
  unfolding keep
  keep-map f g [] = refl
  keep-map f g (x ∷ xs) = go (f (g x)) (keep-map f g xs)
    where
      go : (b : Bool) → keep f (map g xs) ≡ map g (keep (λ y. f (g y)) xs)
          → cond b (g x ∷ keep f (map g xs)) (keep f (map g xs)) ≡ map g
          (cond b (x ∷ keep (λ y. f (g y)) xs) (keep (λ y. f (g y)) xs))
      go true e = ap (λ l. g x ∷ l) e
      go false e = e

-- a store just past the filled front makes it longer
overlay-more : (xs buffer : List ℕ) (v : ℕ) → length xs < length buffer
    → set (overlay xs buffer) (length xs) v ≡ overlay (xs ++ (v ∷ [])) buffer
overlay-more xs buffer v h =
    let one : length (xs ++ (v ∷ [])) ≡ suc (length xs) = length-append xs (v ∷ []) ∙ omega arith in
    ap (λ (l : List ℕ). set (xs ++ l) (length xs) v) (drop-cons buffer (length xs) 0 h)
    ∙ (set-append_seam xs (get_or buffer (length xs) 0) (drop (suc (length xs)) buffer) v
    ∙ (sym (append_snoc xs v (drop (suc (length xs)) buffer))
    ∙ ap (λ (k : ℕ). (xs ++ (v ∷ [])) ++ drop k buffer) (sym one)))

numbers_more : (ss : List Step) (s : Step) → ring_numbers (ss ++ (s ∷ [])) ≡ ring_numbers ss ++
    (s.net ∷ (s.column ∷ []))
unfolding ring_numbers each
numbers_more [] s = refl
numbers_more (t ∷ ss) s = ap (λ (l : List ℕ). t.net ∷ (t.column ∷ l)) (numbers_more ss s)

pub length-numbers : (ss : List Step) → length (ring_numbers ss) ≡ 2 * length ss
unfolding ring_numbers
length-numbers ss = length-each 2 (λ s. s.net ∷ (s.column ∷ [])) ss (λ s. refl)

pub steps-more : (columns ns : List ℕ) (n : ℕ)
    → steps_by columns (ns ++ (n ∷ [])) ≡ steps_by columns ns ++ (pair_of columns n ∷ [])
steps-more columns [] n = refl
steps-more columns (m ∷ ns) n = ap (λ (l : List Step). pair_of columns m ∷ l) (steps-more columns ns n)

-- the pairs of the first k steps of a walk, as numbers
abbrev first_pairs : (bot columns : List ℕ) (start k : ℕ) → List ℕ
first_pairs bot columns start k = ring_numbers (steps_by columns (met (net_below bot columns) start k))

-- the front of the ring holds the pairs of the first i steps, and the walk has come to n
pub record Stored (bot columns : List ℕ) (start count : ℕ) (before ring : List ℕ) (n i : ℕ) : Type 0 where
  pub inside : i ≤ count
  pub long : length ring ≡ length before
  pub here : n ≡ after (net_below bot columns) start i
  pub held : ring ≡ overlay (first_pairs bot columns start i) before

length_pairs : (bot columns : List ℕ) (start i : ℕ) → length (first_pairs bot columns start i) ≡ 2 * i
length_pairs bot columns start i =
    let ns = met (net_below bot columns) start i in
    let a = length-numbers (steps_by columns ns) in
    let b = length-map ns (λ (n : ℕ). pair_of columns n) in
    let c = length-met (net_below bot columns) start i in
    omega arith

-- what the code asks of the place of a pair: it fits, and there is room for both numbers
pub record PairRoom (ring : List ℕ) (n i : ℕ) : Type 0 where
  pub small : i + 1 < 4294967296
  pub twice : 2 * i < 4294967296
  pub scaled : 2 * i * 4 < 4294967296
  pub next : 2 * i + 1 < 4294967296
  pub next_scaled : (2 * i + 1) * 4 < 4294967296
  pub put : 2 * i < length ring
  pub put_next : 2 * i + 1 < length (set ring (2 * i) n)

module _ {bot columns : List ℕ} {start count : ℕ} where
  pub stored-none : {before : List ℕ} → Stored bot columns start count before before start 0
  unfolding ring_numbers each after met
  stored-none = record { inside = omega arith; long = refl; here = refl; held = refl }

  module _ {before ring : List ℕ} {n i : ℕ} (s : Stored bot columns start count before ring n i) where
    pub stored-all : count ≤ i → ring ≡ overlay (first_pairs bot columns start count) before
    stored-all h =
        let p = s.inside in
        let e : i ≡ count = omega arith in
        s.held ∙ ap (λ (k : ℕ). overlay (first_pairs bot columns start k) before) e

    module _ (more : i < count) where
      pub stored_falls : count - (i + 1) < count - i
      stored_falls = omega arith

      module _ (few : count ≤ 511) (room : 2 * count ≤ length before) where
        pub stored-room : PairRoom ring n i
        stored-room =
            let long = s.long in
            let same = length-set ring (2 * i) n in
            record {
              small = omega arith;
              twice = omega arith;
              scaled = omega arith;
              next = omega arith;
              next_scaled = omega arith;
              put = omega arith;
              put_next = omega arith;
            }

        -- two stores put one more pair
        pub stored_more : {m : ℕ} → m ≡ net_below bot columns n
            → Stored bot columns start count before (set (set ring (2 * i) n) (2 * i + 1) (get_or columns n 0)) m (i + 1)
        stored_more e =
            let one : i + 1 ≡ suc i = omega arith in
            rw one (record {
              inside = omega arith;
              long = length-set (set ring (2 * i) n) (2 * i + 1) column ∙ (length-set ring (2 * i) n ∙ s.long);
              here = unfold after in (e ∙ ap (net_below bot columns) s.here);
              held =
                  ap (λ (l : List ℕ). set (set l (2 * i) n) (2 * i + 1) column) s.held
                  ∙ (ap (λ (l : List ℕ). set l (2 * i + 1) column)
                  (store old (2 * i) n (length_pairs bot columns start i) (omega arith))
                  ∙ (store (old ++ (n ∷ [])) (2 * i + 1) column longer (omega arith)
                  ∙ ap (λ (l : List ℕ). overlay l before) both));
            })
          where
            column : ℕ
            column = get_or columns n 0

            old : List ℕ
            old = first_pairs bot columns start i

            longer : length (old ++ (n ∷ [])) ≡ 2 * i + 1
            longer = length-append old (n ∷ []) ∙ omega (arith, length_pairs bot columns start i)

            store : (xs : List ℕ) (j v : ℕ) → length xs ≡ j → j < length before
                → set (overlay xs before) j v ≡ overlay (xs ++ (v ∷ [])) before
            store xs j v e l =
                subst (λ (m : ℕ). set (overlay xs before) m v ≡ overlay (xs ++ (v ∷ [])) before) e
                (overlay-more xs before v (omega arith))

            both : (old ++ (n ∷ [])) ++ (column ∷ []) ≡ first_pairs bot columns start (suc i)
            both =
                let ns = met (net_below bot columns) start i in
                unfold met in
                (append_assoc old (n ∷ []) (column ∷ [])
                ∙ (sym (numbers_more (steps_by columns ns) (pair_of columns n))
                ∙ ap ring_numbers (sym (steps-more columns ns n)
                ∙ ap (λ (k : ℕ). steps_by columns (ns ++ (k ∷ []))) s.here)))
