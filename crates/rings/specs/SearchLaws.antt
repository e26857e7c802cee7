-- The search against the steps: those gone have been walked up from, those ahead not yet, and the distances do not fall
-- along those ahead, so that each net found has the fewest steps.
use Rattle.std.specs.Prelude.{ℕ, zero, suc, ◌+◌, ◌≤◌, ◌<◌, ◌≡◌, refl, length, get_or, T}
use Rattle.std.proofs.Common.{add-one, arith, ◌∙◌, subst, ⊎_elim, length-append}
use mathlib.Core.List.Memᴰ
use mathlib.Core.List.{List, [], ◌∷◌, ◌++◌, map, append-nil, append_assoc, Memᴰ}
use Rattle.lists.specs.Lists.{at, Distinct}
use Rattle.lists.specs.Members.{up_to-member}
use Rattle.lists.specs.Pigeonhole.{append-distinct}
use Rattle.lists.specs.Orders.{member?}
use Rattle.lists.specs.Ends.{member-counted}
use Rattle.lists.specs.Counts.{counted-member}
use Rattle.channel.specs.Channel.{highest_net}
use Rattle.items.specs.Steps.{Rises, Stepped}
use Rattle.rings.specs.Fewest.{leads}
use Rattle.rings.specs.LeadLaws.{none-leads, leads-step, leads-once, step-leads}
use Rattle.rings.specs.Search.{numbers, noted, fresh, CanNote, Searched}
use Rattle.lists.specs.Climbs.{Climbs, climbs-level, climbs-same, climbs-append, climbs-first, climbs-rest}
use Rattle.rings.specs.NoteLaws.{Notes, notes-all}

-- After a walk up from net b: `new` are those directly above b that had no distance in `far`, each once; in far' they
-- have d, and all others what they had
pub record Walked (below : ℕ → List ℕ) (b d : ℕ) (far new far' : List ℕ) : Type 0 where
  pub over : (a : ℕ) → Memᴰ a new → Memᴰ b (below a)
  pub inside : (a : ℕ) → Memᴰ a new → Memᴰ a numbers
  pub unknown : (a : ℕ) → Memᴰ a new → get_or far a 0 ≡ 0
  pub distinct : Distinct new
  pub told : (a : ℕ) → Memᴰ a new → get_or far' a 0 ≡ d
  pub kept : (a : ℕ) → (Memᴰ a new → ⊥) → get_or far' a 0 ≡ get_or far a 0
  pub all : (a : ℕ) → Memᴰ b (below a) → 0 < get_or far' a 0
  pub long : length far' ≡ 512

-- the walk along the places in which b stands below
module _ (below : ℕ → List ℕ) (us head next : List ℕ) (steps : Stepped below numbers us head next) (b start : ℕ)
    (r : Rises below us next start b) where
  -- its upper nets are those directly above b
  over : (a : ℕ) → Memᴰ a (map (at us) r.places) → Memᴰ b (below a)
  over a k = let t = r.turned a in let c = member-counted k in counted-member b (below a) (omega arith)

  under : (a : ℕ) → Memᴰ b (below a) → Memᴰ a (map (at us) r.places)
  under a k =
      let t = r.turned a in let c = member-counted k in counted-member a (map (at us) r.places) (omega arith)

  number : (a : ℕ) → Memᴰ a (map (at us) r.places) → a < 512
  number a k = let l = up_to-member highest_net (steps.upper a b (over a k)) in omega arith

  -- the walk can be made, if the queue has room for those new
  pub can-walk : (d : ℕ) (far queue : List ℕ) (count : ℕ) → length far ≡ 512
      → count + length (fresh d (map (at us) r.places) far) ≤ length queue
      → CanNote us next start d far queue count
  can-walk d far queue count long room =
      record {
        places = r.places;
        chained = r.chained;
        rising = r.rising;
        in_row = r.in_row;
        number = λ c k. number (at us c) (Memᴰ.map (at us) k);
        long = long;
        room = room;
      }

  -- what it leaves
  pub walked : (d : ℕ) → 0 < d → (far : List ℕ) → length far ≡ 512
      → Walked below b d far (fresh d (map (at us) r.places) far) (noted d (map (at us) r.places) far)
  walked d some far long =
      let n : Notes d (map (at us) r.places) far (fresh d (map (at us) r.places) far)
      (noted d (map (at us) r.places) far) = notes-all d some (map (at us) r.places) far
      (λ a k. rw long (number a k)) in
      record {
        over = λ a k. over a (n.among a k);
        inside = λ a k. steps.upper a b (over a (n.among a k));
        unknown = n.unknown;
        distinct = n.distinct;
        told = n.told;
        kept = n.kept;
        all = λ a k. n.all a (under a k);
        long = n.long ∙ long;
      }

module _ (below : ℕ → List ℕ) (to : ℕ) where
  -- `gone` are walked up from, `ahead` are those found that are not yet
  pub record Searching (far gone ahead : List ℕ) : Type 0 where
    pub inside : (n : ℕ) → Memᴰ n (gone ++ ahead) → Memᴰ n numbers
    pub distinct : Distinct (gone ++ ahead)
    -- found are just those with a distance
    pub marked : (n : ℕ) → Memᴰ n (gone ++ ahead) → 0 < get_or far n 0
    pub found : (n : ℕ) → 0 < get_or far n 0 → Memᴰ n (gone ++ ahead)
    -- so many steps lead down, and no net directly above one gone has more than one step more
    pub lead : (n : ℕ) → 0 < get_or far n 0 → T (leads below (get_or far n 0) n to)
    pub direct : (a : ℕ) → Memᴰ to (below a) → (0 < get_or far a 0) × (get_or far a 0 ≤ 1)
    pub passed : (n a : ℕ) → Memᴰ n gone → Memᴰ n (below a)
        → (0 < get_or far a 0) × (get_or far a 0 ≤ suc (get_or far n 0))
    -- those ahead come by distance, and no distance is more than one step more than any of theirs
    pub order : Climbs (λ n. get_or far n 0) ahead
    pub near : (n m : ℕ) → Memᴰ n ahead → get_or far m 0 ≤ suc (get_or far n 0)
    pub few : (n : ℕ) → get_or far n 0 ≤ suc (length gone)
    pub long : length far ≡ 512

  -- at first those directly above `to` are ahead
  module _ (far new far' : List ℕ) (none : (n : ℕ) → get_or far n 0 ≡ 0) (w : Walked below to 1 far new far') where
    one_found : (n : ℕ) → 0 < get_or far' n 0 → Memᴰ n new
    one_found n h =
        ⊎_elim (λ k. k) (λ out. let e = w.kept n out in let z = none n in absurd (omega arith)) (member? n new)

    one-most : (n : ℕ) → get_or far' n 0 ≤ 1
    one-most n =
        ⊎_elim (λ k. let e = w.told n k in omega arith)
        (λ out. let e = w.kept n out in let z = none n in omega arith) (member? n new)

    -- the search as it begins
    pub searching-start : Searching far' [] new
    searching-start =
        record {
          inside = w.inside;
          distinct = w.distinct;
          marked = λ n k. let e = w.told n k in omega arith;
          found = one_found;
          lead = λ n h. let k = one_found n h in rw (w.told n k) (leads-once below (w.over n k));
          direct = λ a k. (w.all a k, one-most a);
          passed = λ n a k. absurd (Memᴰ.not-nil k);
          order = climbs-level (λ n. get_or far' n 0) 1 new w.told;
          near = λ n m k. let l = one-most m in omega arith;
          few = λ n. let l = one-most n in omega arith;
          long = w.long;
        }

  -- the first ahead is walked up from, and those new come behind those ahead
  module _ (far gone : List ℕ) (n : ℕ) (ahead : List ℕ) (p : Searching far gone (n ∷ ahead)) (new far' : List ℕ)
      (w : Walked below n (get_or far n 0 + 1) far new far') where
    abbrev whole : List ℕ
    whole = gone ++ (n ∷ ahead)

    same : (gone ++ (n ∷ [])) ++ (ahead ++ new) ≡ whole ++ new
    same = simp append_assoc

    first : Memᴰ n whole
    first = Memᴰ.append_right gone (Memᴰ.head refl)

    in-ahead : (m : ℕ) → Memᴰ m ahead → Memᴰ m whole
    in-ahead m k = Memᴰ.append_right gone (Memᴰ.tail k)

    -- one that has a distance keeps it
    old : (m : ℕ) → 0 < get_or far m 0 → get_or far' m 0 ≡ get_or far m 0
    old m h = w.kept m (λ k. let u = w.unknown m k in omega arith)

    still : (m : ℕ) → Memᴰ m whole → get_or far' m 0 ≡ get_or far m 0
    still m k = old m (p.marked m k)

    -- no distance is more than that of those new
    most : (m : ℕ) → get_or far' m 0 ≤ suc (get_or far n 0)
    most m =
        ⊎_elim (λ k. let e = w.told m k in omega arith)
        (λ out. let e = w.kept m out in let l = p.near n m (Memᴰ.head refl) in omega arith) (member? m new)

    -- what bounded a distance does so still
    bounded : (a k : ℕ) → (0 < get_or far a 0) × (get_or far a 0 ≤ k) → (0 < get_or far' a 0) × (get_or far' a 0 ≤ k)
    bounded a k h = let e = old a h.0 in let b = h.0 in let c = h.1 in (omega arith, omega arith)

    found' : (m : ℕ) → 0 < get_or far' m 0 → Memᴰ m (whole ++ new)
    found' m h =
        ⊎_elim (Memᴰ.append_right whole)
        (λ out. let e = w.kept m out in Memᴰ.append_left new (p.found m (omega arith))) (member? m new)

    marked' : (m : ℕ) → Memᴰ m (whole ++ new) → 0 < get_or far' m 0
    marked' m k =
        ⊎_elim (λ o. let e = still m o in let h = p.marked m o in omega arith)
        (λ f. let e = w.told m f in omega arith) (Memᴰ.append_cases whole k)

    lead' : (m : ℕ) → 0 < get_or far' m 0 → T (leads below (get_or far' m 0) m to)
    lead' m h =
        ⊎_elim (λ k. rw (w.told m k, add-one (get_or far n 0)) (leads-step below (get_or far n 0) to (w.over m k)
        (p.lead n (p.marked n first))))
        (λ out. let e = w.kept m out in rw e (p.lead m (omega arith))) (member? m new)

    passed' : (m a : ℕ) → Memᴰ m (gone ++ (n ∷ [])) → Memᴰ m (below a)
        → (0 < get_or far' a 0) × (get_or far' a 0 ≤ suc (get_or far' m 0))
    passed' m a k h =
        ⊎_elim (λ g. let e = still m (Memᴰ.append_left (n ∷ ahead) g) in rw e (bounded a _ (p.passed m a g h)))
        (λ f. let e = Memᴰ.eq_of_singleton f in rw (e, still n first) (w.all a (rw e at h), most a))
        (Memᴰ.append_cases gone k)

    order' : Climbs (λ m. get_or far' m 0) (ahead ++ new)
    order' =
        climbs-append (λ m. get_or far' m 0) ahead new
        (climbs-same (λ m. get_or far m 0) (λ m. get_or far' m 0) ahead (λ m k. still m (in-ahead m k))
        (climbs-rest (λ m. get_or far m 0) n ahead p.order))
        (climbs-level (λ m. get_or far' m 0) (get_or far n 0 + 1) new w.told)
        (λ x y k f. let l = most x in let e = w.told y f in omega arith)

    near' : (x m : ℕ) → Memᴰ x (ahead ++ new) → get_or far' m 0 ≤ suc (get_or far' x 0)
    near' x m k =
        let l = most m in
        ⊎_elim (λ o. let e = still x (in-ahead x o) in
        let c = climbs-first (λ i. get_or far i 0) n ahead p.order x o in omega arith)
        (λ f. let e = w.told x f in omega arith) (Memᴰ.append_cases ahead k)

    few' : (m : ℕ) → get_or far' m 0 ≤ suc (length (gone ++ (n ∷ [])))
    few' m = let l = most m in let f = p.few n in let a = length-append gone (n ∷ []) in omega arith

    -- the search after the walk up from n
    pub searching-next : Searching far' (gone ++ (n ∷ [])) (ahead ++ new)
    searching-next =
        record {
          inside = rw same (λ m k. ⊎_elim (p.inside m) (w.inside m) (Memᴰ.append_cases whole k));
          distinct = rw same (append-distinct whole new p.distinct w.distinct
              (λ m k f. let u = w.unknown m f in let h = p.marked m k in omega arith));
          marked = rw same marked';
          found = rw same found';
          lead = lead';
          direct = λ a k. bounded a 1 (p.direct a k);
          passed = passed';
          order = order';
          near = near';
          few = few';
          long = w.long;
        }

  -- in the end nobody is ahead, and the distances are the fewest steps
  module _ (far gone : List ℕ) (p : Searching far gone []) where
    -- the first step leads to `to`, or to a net that is gone
    fewest : (k a : ℕ) → T (leads below (suc k) a to) → (0 < get_or far a 0) × (get_or far a 0 ≤ suc k)
    fewest zero a t =
        let r = step-leads below 0 a to t in
        p.direct a (subst (λ (b : ℕ). Memᴰ b (below a)) (none-leads below r.0 to r.2) r.1)
    fewest (suc k) a t =
        let r = step-leads below (suc k) a to t in
        let f = fewest k r.0 r.2 in
        let low = f.1 in
        let g = p.passed r.0 a (rw (append-nil gone) at (p.found r.0 f.0)) r.1 in
        let h = g.1 in
        (g.0, omega arith)

    -- what is found
    pub searching-end : Searched below to far
    searching-end = record { long = p.long; found = λ n. record { lead = p.lead n; fewest = λ k t. fewest k n t } }
