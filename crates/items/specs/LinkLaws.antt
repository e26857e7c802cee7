-- The steps of two rows linked and counted, from the last place down; and that each step is counted as one up as it is
-- counted as one down.
use Prim.Native.Nat.{ℕ, suc, ◌+◌, ◌-◌, ◌≤◌, ◌<◌}
use native.Mathlib.Omega.{arith}
use Rattle.std.specs.Prelude.{◌≡◌, Bool, cond, ◌&&◌, set}
use Rattle.std.proofs.Math.Path.{refl, sym}
use Rattle.std.proofs.Common.{◌∙◌, ap, subst, ⊎_elim, length-set, get_or-set_same, get_or-set_other, eqb→eq}
use mathlib.Core.List.Memᴰ
use mathlib.Core.List.{List, ◌∷◌, map, Memᴰ}
use Rattle.std.proofs.Math.Bool.{true, false}
use Rattle.std.proofs.Math.ListN.{length, get_or}
use Rattle.std.proofs.lemmas.List.{length-map}
use Rattle.std.proofs.Math.Dec.{T, eqb}
use borrow.Author.Tests.{eq-eqb, ne_eqb}
use Rattle.lists.specs.Lists.{keep, from, up_to, at}
use Rattle.lists.specs.Tests.{same_test, eq→T, and_left, and_right, and_both, equal?}
use Rattle.lists.specs.Members.{keep-member, from_member, up_to-member}
use Rattle.lists.specs.Ends.{from-rising, keep-rising, at_suc, at-pred}
use Rattle.lists.specs.Ranges.{length-keep-map}
use Rattle.lists.specs.Places.{keep-keep, length_from}
use Rattle.lists.specs.Pigeonhole.{length-keep}
use Rattle.lists.specs.Tallies.{keep_same}
use Rattle.lists.specs.Counts.{times, none-counted}
use Rattle.items.specs.Chains.{Chained, Linked}
use Rattle.items.specs.ChainLaws.{linked-none, linked-skip, linked-more}
use Rattle.items.specs.Steps.{is_step, lower_of, steps_from, steps_to, step_below, Stepped, StepRows}
use Rattle.items.specs.Steps.{StepsLinked}

module _ (us ls : List ℕ) where
  -- the places past i
  abbrev past : ℕ → List ℕ
  past i = from (suc i) (length us - i)

  past_next : (i : ℕ) → i < length us → past i ≡ suc i ∷ past (suc i)
  unfolding from
  past_next i h = let e : length us - i ≡ suc (length us - suc i) = omega arith in rw e

  -- the steps down from n past place i
  abbrev steps_past : ℕ → ℕ → List ℕ
  steps_past i n = keep (λ c. is_step us ls c && eqb (at us c) n) (past i)

  -- the steps past place i are linked and counted
  pub record LinkedPast (heads nexts unders i : ℕ) (head next under : List ℕ) : Type 0 where
    pub inside : i ≤ length us
    pub head_long : length head ≡ heads
    pub next_long : length next ≡ nexts
    pub under_long : length under ≡ unders
    pub linked : Linked (lower_of us ls) (past i) head next
    pub counted : (n : ℕ) → get_or under n 0 ≡ length (steps_past i n)

  module _ (heads nexts unders i : ℕ) (head next under : List ℕ) (h : LinkedPast heads nexts unders (suc i) head next
      under) where
    pub few-counted : (n : ℕ) → get_or under n 0 + suc i ≤ length us
    few-counted n =
        let e = h.counted n in
        let k = length-keep (λ c. is_step us ls c && eqb (at us c) n) (past (suc i)) in
        let l = length_from (suc (suc i)) (length us - suc i) in
        let u = h.inside in
        omega arith

    -- place i + 1 is no step
    pub no_step : is_step us ls (suc i) ≡ false → LinkedPast heads nexts unders i head next under
    unfolding keep lower_of
    no_step none =
        let more = past_next i h.inside in
        record {
          inside = let u = h.inside in omega arith;
          head_long = h.head_long;
          next_long = h.next_long;
          under_long = h.under_long;
          linked = rw more (linked-skip (lower_of us ls) (past (suc i)) head next (suc i) h.linked (rw none refl));
          counted = λ n. h.counted n ∙ rw (more, none);
        }

    -- place i + 1 is a step
    module _ (step : is_step us ls (suc i) ≡ true) (a : get_or us i 0 < unders) (b : get_or ls i 0 < heads)
        (c : suc i < nexts) where
      key : lower_of us ls (suc i) ≡ get_or ls i 0
      unfolding lower_of
      key = rw step (at_suc ls i)

      counts : (n : ℕ) → get_or (set under (get_or us i 0) (get_or under (get_or us i 0) 0 + 1)) n 0 ≡ length (steps_past i n)
      unfolding keep
      counts n =
          let e = h.counted n in
          let inside : get_or us i 0 < length under = let l = h.under_long in omega arith in
          rw (past_next i h.inside, step, at_suc us i) (⊎_elim
          (λ q. rw (eq-eqb (get_or us i 0) n q, q) (get_or-set_same under n (get_or under n 0 + 1) 0
          (rw q at inside) ∙ omega arith))
          (λ apart. rw (ne_eqb (get_or us i 0) n apart)
          (get_or-set_other under (get_or us i 0) n (get_or under (get_or us i 0) 0 + 1) 0 (λ q. apart (sym q)) ∙ e))
          (equal? (get_or us i 0) n))

      pub one-step : LinkedPast heads nexts unders i (set head (get_or ls i 0) (suc i))
          (set next (suc i) (get_or head (get_or ls i 0) 0))
          (set under (get_or us i 0) (get_or under (get_or us i 0) 0 + 1))
      one-step =
          record {
            inside = let u = h.inside in omega arith;
            head_long = length-set head _ _ ∙ h.head_long;
            next_long = length-set next _ _ ∙ h.next_long;
            under_long = length-set under _ _ ∙ h.under_long;
            linked = rw (past_next i h.inside) (rw key at (linked-more (lower_of us ls) (past (suc i)) head next
                (suc i)
                h.linked (omega arith) (let l = h.next_long in omega arith)
                (rw key (let l = h.head_long in omega arith))
                (λ m t. (from_member (suc (suc i)) (length us - suc i) t).0)));
            counted = counts;
          }

  pub linked-start : (head next under : List ℕ) → StepRows us ls head next under
      → LinkedPast (length head) (length next) (length under) (length us) head next under
  unfolding keep from
  linked-start head next under r =
      let none : length us - length us ≡ 0 = omega arith in
      record {
        inside = omega arith;
        head_long = refl;
        next_long = refl;
        under_long = refl;
        linked = rw none (rw r.unlinked (linked-none (lower_of us ls) (length head) next));
        counted = λ n. rw none (none-counted r.uncounted n);
      }

  pub linked-all : (heads nexts unders : ℕ) (head next under : List ℕ) → LinkedPast heads nexts unders 0 head next under
      → StepsLinked us ls head next under
  unfolding steps_to steps_from lower_of
  linked-all heads nexts unders head next under h =
      let whole : length us - 0 ≡ length us = omega arith in
      record {
        linked = λ b positive. rw whole at (subst (λ (l : List ℕ). Chained next (get_or head b 0) l)
            (same-places b positive) (h.linked b positive));
        counted = λ n. rw whole at (h.counted n) ∙ sym (length-map (steps_from us ls n) (at ls));
      }
    where
      same-places : (b : ℕ) → 0 < b
          → keep (λ c. eqb (lower_of us ls c) b) (past 0) ≡ keep (λ c. is_step us ls c && eqb (at ls c) b) (past 0)
      same-places b positive =
          keep_same (λ c. eqb (lower_of us ls c) b) (λ c. is_step us ls c && eqb (at ls c) b) (past 0)
          (λ c m. go c (is_step us ls c))
        where
          go : (c : ℕ) (t : Bool) → eqb (cond t (at ls c) 0) b ≡ t && eqb (at ls c) b
          go c true = refl
          go c false = ne_eqb 0 b (λ e. omega arith)

  -- as many steps lead from a to b as to b from a
  pub steps-turned : (a b : ℕ) → times b (step_below us ls a) ≡ times a (map (at us) (steps_to us ls b))
  unfolding steps_from steps_to
  steps-turned a b =
      length-keep-map (eqb b) (at ls) (steps_from us ls a)
      ∙ (ap length (keep-keep (λ c. eqb b (at ls c)) (λ c. is_step us ls c && eqb (at us c) a) (up_to (length us))
      ∙ (keep_same _ _ (up_to (length us)) (λ c m. go (is_step us ls c) (at us c) (at ls c))
      ∙ sym (keep-keep (λ c. eqb a (at us c)) (λ c. is_step us ls c && eqb (at ls c) b) (up_to (length us)))))
      ∙ sym (length-keep-map (eqb a) (at us) (steps_to us ls b)))
    where
      turned : (x y : ℕ) → T (eqb x y) → T (eqb y x)
      turned x y t = eq→T y x (sym (eqb→eq x y t))

      go : (t : Bool) (u l : ℕ) → (t && eqb u a) && eqb b l ≡ (t && eqb l b) && eqb a u
      go false u l = refl
      go true u l =
          same_test (eqb u a && eqb b l) (eqb l b && eqb a u)
          (λ h. and_both (eqb l b) (eqb a u) (turned b l (and_right (eqb u a) (eqb b l) h))
          (turned u a (and_left (eqb u a) (eqb b l) h)))
          (λ h. and_both (eqb u a) (eqb b l) (turned a u (and_right (eqb l b) (eqb a u) h))
          (turned l b (and_left (eqb l b) (eqb a u) h)))

  -- so linked steps between items are steps of the items
  pub steps-stepped : (head next under items : List ℕ) → StepsLinked us ls head next under
      → ((n : ℕ) → Memᴰ n items → 0 < n)
      → ((c : ℕ) → T (is_step us ls c) → Memᴰ (at us c) items × Memᴰ (at ls c) items)
      → Stepped (step_below us ls) items us head next
  unfolding steps_from steps_to
  steps-stepped head next under items l positive inside =
      record {
        upper = λ a b m. let r = ends a b m in Memᴰ.cast r.1 (inside r.0 r.3).0;
        lower = λ a b m. let r = ends a b m in Memᴰ.cast r.2 (inside r.0 r.3).1;
        rises = λ b m. record {
          places = steps_to us ls b;
          chained = l.linked b (positive b m);
          rising = keep-rising (λ c. is_step us ls c && eqb (at ls c) b) (up_to (length us)) (from-rising 1 (length us));
          in_row = λ c k. (up_to-member (length us)
              (keep-member (λ e. is_step us ls e && eqb (at ls e) b) (up_to (length us)) k).0).1;
          turned = λ a. steps-turned a b;
        };
      }
    where
      -- a step that leads from a to b
      ends : (a b : ℕ) → Memᴰ b (step_below us ls a)
          → (c : ℕ) × (a ≡ at us c) × (b ≡ at ls c) × T (is_step us ls c)
      ends a b m =
          let r = Memᴰ.of_map (at ls) (steps_from us ls a) m in
          let k = (keep-member (λ c. is_step us ls c && eqb (at us c) a) (up_to (length us)) r.1).1 in (
            r.0,
            sym (eqb→eq (at us r.0) a (and_right (is_step us ls r.0) (eqb (at us r.0) a) k)),
            sym r.2,
            and_left (is_step us ls r.0) (eqb (at us r.0) a) k,
          )

-- what the code asks of a place: the tables, as they were and as they are, have places for it and for its two items
pub record StepPlace (us ls head next under head' next' under' : List ℕ) (i : ℕ) : Type 0 where
  pub place : suc (i - 1) ≡ i
  pub falls : i - 1 < i
  pub inside : i - 1 < length us
  pub even : i - 1 < length ls
  pub few : i < 65536
  pub linked : i < length next
  pub upper : get_or us (i - 1) 0 < length under
  pub lower : get_or ls (i - 1) 0 < length head
  pub linked_now : i < length next'
  pub upper_now : get_or us (i - 1) 0 < length under'
  pub lower_now : get_or ls (i - 1) 0 < length head'
  pub count : get_or under' (get_or us (i - 1) 0) 0 + 1 < 65536

module _ {us ls head next under head' next' under' : List ℕ} {i : ℕ} (r : StepRows us ls head next under)
    (h : LinkedPast us ls (length head) (length next) (length under) i head' next' under') where
  pub step-none : i ≤ 0 → StepsLinked us ls head' next' under'
  step-none z = let e : i ≡ 0 = omega arith in linked-all us ls _ _ _ _ _ _ (rw e at h)

  module _ (positive : 0 < i) where
    unfoldable pub step-place : StepPlace us ls head next under head' next' under' i
    step-place =
        let here : suc (i - 1) ≡ i = omega arith in
        let past = h.inside in
        let room = r.room in
        let few = r.few in
        let even = r.even in
        let linked : i < length next = omega arith in
        let upper = rw (at-pred us i positive) at (r.upper i) in
        let lower = rw (at-pred ls i positive) at (r.lower i) in
        let n = few-counted us ls _ _ _ _ _ _ _ (rw (← here) at h) (get_or us (i - 1) 0) in
        record {
          place = here;
          falls = omega arith;
          inside = omega arith;
          even = omega arith;
          few = omega arith;
          linked = linked;
          upper = upper;
          lower = lower;
          linked_now = rw h.next_long linked;
          upper_now = rw h.under_long upper;
          lower_now = rw h.head_long lower;
          count = omega arith;
        }

    pub step-taken : is_step us ls (suc (i - 1)) ≡ true
        → LinkedPast us ls (length head) (length next) (length under) (i - 1) (set head' (get_or ls (i - 1) 0) i)
        (set next' i (get_or head' (get_or ls (i - 1) 0) 0))
        (set under' (get_or us (i - 1) 0) (get_or under' (get_or us (i - 1) 0) 0 + 1))
    step-taken step =
        let k = step-place in
        rw k.place at (one-step us ls _ _ _ _ _ _ _ (rw (← k.place) at h) step k.upper k.lower
        (rw k.place k.linked))

    pub step_left : is_step us ls (suc (i - 1)) ≡ false
        → LinkedPast us ls (length head) (length next) (length under) (i - 1) head' next' under'
    step_left none = no_step us ls _ _ _ _ _ _ _ (rw (← step-place.place) at h) none
