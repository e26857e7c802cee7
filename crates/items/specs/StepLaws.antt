-- How many wait as one more is done, and how the counts of what waits below are lowered, place by place.
use Rattle.std.specs.Prelude.{ℕ, suc, ◌+◌, ◌-◌, ◌≤◌, ◌<◌, ◌≡◌, Bool, true, false, cond, ◌&&◌, ◌||◌, not, length, get_or, set, eqb}
use Rattle.std.proofs.Common.{arith, ◌∙◌}
use Rattle.std.proofs.Math.Path.{refl, sym, ap}
use mathlib.Core.List.{List, [], ◌∷◌, map, Memᴰ}
use Rattle.std.proofs.Math.Logic.{⊎_elim}
use Rattle.std.proofs.Math.ListN.{length-set}
use Rattle.std.proofs.Math.Dec.{eqb-suc-zero}
use borrow.Author.Tests.{eq-eqb, ne_eqb}
use Rattle.lists.specs.Lists.{keep, all_of, at}
use Rattle.lists.specs.Tests.{equal?}
use Rattle.lists.specs.Ends.{Rising, at-pred}
use Rattle.lists.specs.Counts.{times, lowered, times-same, counted-inside, still-enough, lowered-times}
use Rattle.items.specs.Chains.{Chained, ends, remaining}
use Rattle.items.specs.ChainLaws.{chained-unique, Split, chained-split, remaining-falls}
use Rattle.items.specs.Steps.{waiting, Rises, CanLower}

-- nobody waits exactly if all are done
pub waiting-all : (done : ℕ → Bool) (bs : List ℕ) → eqb (waiting done bs) 0 ≡ all_of done bs
unfolding waiting keep all_of
waiting-all done [] = refl
waiting-all done (b ∷ bs) = go (done b) (waiting-all done bs)
  where
    go : (t : Bool) → eqb (length (keep (λ e. not (done e)) bs)) 0 ≡ all_of done bs
        → eqb (length (cond (not t) (b ∷ keep (λ e. not (done e)) bs) (keep (λ e. not (done e)) bs))) 0 ≡ t && all_of
        done bs
    go true e = e
    go false e = eqb-suc-zero (length (keep (λ n. not (done n)) bs))

-- everybody waits if none is done
pub waiting_none : (done : ℕ → Bool) → ((b : ℕ) → done b ≡ false) → (bs : List ℕ) → waiting done bs ≡ length bs
unfolding waiting keep
waiting_none done none [] = refl
waiting_none done none (b ∷ bs) = rw (none b) (ap suc (waiting_none done none bs))

-- once b is done, as many wait less as b stands in the list
module _ (done done' : ℕ → Bool) (b : ℕ) (fresh : done b ≡ false) (more : (m : ℕ) → done' m ≡ eqb b m || done m) where
  pub waiting-less : (bs : List ℕ) → waiting done bs ≡ waiting done' bs + times b bs
  unfolding waiting keep
  waiting-less [] = refl
  waiting-less (x ∷ xs) = ⊎_elim (same (waiting-less xs)) (other (waiting-less xs)) (equal? b x)
    where
      same : waiting done xs ≡ waiting done' xs + times b xs → b ≡ x
          → waiting done (x ∷ xs) ≡ waiting done' (x ∷ xs) + times b (x ∷ xs)
      same rest e = rw (← e, more b, eq-eqb b b refl, fresh) (omega arith)

      go : waiting done xs ≡ waiting done' xs + times b xs → (t : Bool)
          → length (cond (not t) (x ∷ keep (λ n. not (done n)) xs) (keep (λ n. not (done n)) xs))
          ≡ length (cond (not t) (x ∷ keep (λ n. not (done' n)) xs) (keep (λ n. not (done' n)) xs)) + times b xs
      go rest true = rest
      go rest false = omega arith

      other : waiting done xs ≡ waiting done' xs + times b xs → (b ≡ x → ⊥)
          → waiting done (x ∷ xs) ≡ waiting done' (x ∷ xs) + times b (x ∷ xs)
      other rest apart = rw (more x, ne_eqb b x apart) (go rest (done x))

  -- so the counts of what waits below are lowered along the places in which b stands below
  module _ (below : ℕ → List ℕ) (us next : List ℕ) (start : ℕ) (r : Rises below us next start b) (under : List ℕ)
      (waits : (n : ℕ) → get_or under n 0 ≡ waiting done (below n)) where
    pub waits-enough : (n : ℕ) → times n (map (at us) r.places) ≤ get_or under n 0
    waits-enough n = let w = waits n in let t = r.turned n in let l = waiting-less (below n) in omega arith

    unfoldable pub can-lower : CanLower us next start under
    can-lower =
        record {
          places = r.places;
          chained = r.chained;
          rising = r.rising;
          in_row = r.in_row;
          enough = waits-enough;
        }

    pub lowered-waits : (n : ℕ) → get_or (lowered (map (at us) r.places) under) n 0 ≡ waiting done' (below n)
    lowered-waits n =
        let w = waits n in
        let t = r.turned n in
        let l = waiting-less (below n) in
        let e = lowered-times (map (at us) r.places) under n waits-enough in
        omega arith

-- the counts after some places: those of all places are those of the places left, lowered from here
pub record LowersOn (us next under₀ : List ℕ) (start : ℕ) (under : List ℕ) (c : ℕ) : Type 0 where
  pub can : CanLower us next c under
  pub so_far : (cs : List ℕ) → Chained next start cs
      → lowered (map (at us) cs) under₀ ≡ lowered (map (at us) can.places) under
  pub long : length under ≡ length under₀

module _ (us next under₀ : List ℕ) (start : ℕ) where
  unfoldable pub lowers-start : CanLower us next start under₀ → LowersOn us next under₀ start under₀ start
  lowers-start can =
      record {
        can = can;
        so_far = λ cs h. ap (λ (l : List ℕ). lowered (map (at us) l) under₀) (chained-unique h can.chained);
        long = refl;
      }

  module _ (under : List ℕ) (c : ℕ) (l : LowersOn us next under₀ start under c) where
    pub lowers-end : c ≡ 0 → (cs : List ℕ) → Chained next start cs → under ≡ lowered (map (at us) cs) under₀
    unfolding lowered
    lowers-end e cs h = sym (l.so_far cs h ∙ ap (λ (ds : List ℕ). lowered (map (at us) ds) under)
        (chained-unique {ys = []} (rw e at l.can.chained) ends))

    module _ (some : c ≡ 0 → ⊥) where
      split : Split next c l.can.places
      split = chained-split l.can.chained some

      -- the upper item of place c
      abbrev pub upper : ℕ
      upper = get_or us (c - 1) 0

      enough : (n : ℕ) → times n (upper ∷ map (at us) split.rest) ≤ get_or under n 0
      enough n = rw (split.begins, at-pred us c split.positive) at (l.can.enough n)

      -- the place is one of the row and of the links, and its upper item has a count to lower
      pub here : (0 < c) × (c < length next) × (c - 1 < length us) × (upper < length under) × (1 ≤ get_or under upper 0)
      here = (
        split.positive,
        split.low,
        (let p = split.positive in let i = l.can.in_row c (rw split.begins (Memᴰ.head refl)) in omega arith),
        counted-inside upper (map (at us) split.rest) under enough,
        (let e = enough upper in let t = times-same upper (map (at us) split.rest) in omega arith),
      )

      pub lowers-next : LowersOn us next under₀ start (set under upper (get_or under upper 0 - 1)) (get_or next c 0)
      unfolding lowered Rising
      lowers-next =
          record {
            can = record {
              places = split.rest;
              chained = split.on;
              rising = (rw split.begins at l.can.rising).1;
              in_row = λ d m. l.can.in_row d (rw split.begins (Memᴰ.tail m));
              enough = still-enough upper (map (at us) split.rest) under enough;
            };
            so_far = λ cs h. l.so_far cs h
                ∙ (ap (λ (ds : List ℕ). lowered (map (at us) ds) under) split.begins
                ∙ rw (at-pred us c split.positive));
            long = length-set under upper _ ∙ l.long;
          }

      -- the upper items of the places left begin with that of this place
      pub uppers-begin : map (at us) l.can.places ≡ upper ∷ map (at us) lowers-next.can.places
      unfolding lowers-next
      uppers-begin = ap (map (at us)) split.begins ∙ rw (at-pred us c split.positive)

      pub lowers-falls : remaining next (get_or next c 0) < remaining next c
      lowers-falls = remaining-falls l.can.chained l.can.rising some
