-- What is noted along a list: the new ones are just those of it that had no distance; and the walk that notes and
-- queues them, place by place.
use Rattle.std.specs.Prelude.{ℕ, ◌+◌, ◌-◌, ◌≤◌, ◌<◌, ◌≡◌, refl, length, get_or, set}
use native.Mathlib.Omega.{arith}
use Rattle.std.proofs.Math.Path.{sym, ap}
use Rattle.std.proofs.Common.{◌∙◌, get_or-set_same, get_or-set_other, eq-eqb, ne_eqb}
use mathlib.Core.List.{List, [], ◌∷◌, ◌++◌, map, append-nil, append_assoc, Memᴰ}
use Rattle.std.proofs.Math.Logic.{⊎_elim}
use Rattle.std.proofs.Math.ListN.{length-set, length-append}
use Rattle.std.proofs.lemmas.List.Edits.{sets}
use Rattle.std.proofs.Math.Seq.{length-sets}
use Rattle.lists.specs.Lists.{at, Distinct}
use Rattle.lists.specs.Tests.{equal?}
use Rattle.lists.specs.Pigeonhole.{distinct_cons}
use Rattle.lists.specs.Ends.{Rising, at-pred}
use Rattle.lists.specs.Stores.{sets-append}
use Rattle.items.specs.Chains.{Chained, ends, remaining}
use Rattle.items.specs.ChainLaws.{chained-unique, Split, chained-split, remaining-falls}
use Rattle.rings.specs.Search.{noted, fresh, CanNote, NoteDone}

-- one more in front of the list: it has a distance, or it has none and gets it
module _ (d n : ℕ) (ns far : List ℕ) where
  noted-known : (get_or far n 0 ≡ 0 → ⊥) → noted d (n ∷ ns) far ≡ noted d ns far
  unfolding noted
  noted-known known = rw (ne_eqb (get_or far n 0) 0 known)

  fresh-known : (get_or far n 0 ≡ 0 → ⊥) → fresh d (n ∷ ns) far ≡ fresh d ns far
  unfolding fresh
  fresh-known known = rw (ne_eqb (get_or far n 0) 0 known)

  noted-new : get_or far n 0 ≡ 0 → noted d (n ∷ ns) far ≡ noted d ns (set far n d)
  unfolding noted
  noted-new none = rw (eq-eqb (get_or far n 0) 0 none)

  fresh-new : get_or far n 0 ≡ 0 → fresh d (n ∷ ns) far ≡ n ∷ fresh d ns (set far n d)
  unfolding fresh
  fresh-new none = rw (eq-eqb (get_or far n 0) 0 none)

-- `new` are those of ns without a distance in `far`, each once; in far' they have d, and all others what they had
pub record Notes (d : ℕ) (ns far new far' : List ℕ) : Type 0 where
  pub among : (m : ℕ) → Memᴰ m new → Memᴰ m ns
  pub unknown : (m : ℕ) → Memᴰ m new → get_or far m 0 ≡ 0
  pub distinct : Distinct new
  pub told : (m : ℕ) → Memᴰ m new → get_or far' m 0 ≡ d
  pub kept : (m : ℕ) → (Memᴰ m new → ⊥) → get_or far' m 0 ≡ get_or far m 0
  pub all : (m : ℕ) → Memᴰ m ns → 0 < get_or far' m 0
  pub long : length far' ≡ length far

module _ (d : ℕ) (some : 0 < d) where
  notes-none : (far : List ℕ) → Notes d [] far [] far
  unfolding Distinct
  notes-none far =
      record {
        among = λ m k. k;
        unknown = λ m k. absurd (mathlib.Core.List.Memᴰ.not-nil k);
        distinct = tt;
        told = λ m k. absurd (mathlib.Core.List.Memᴰ.not-nil k);
        kept = λ m k. refl;
        all = λ m k. absurd (mathlib.Core.List.Memᴰ.not-nil k);
        long = refl;
      }

  notes-known : (n : ℕ) (ns far new far' : List ℕ) → (get_or far n 0 ≡ 0 → ⊥) → Notes d ns far new far'
      → Notes d (n ∷ ns) far new far'
  notes-known n ns far new far' known r =
      record {
        among = λ m k. mathlib.Core.List.Memᴰ.tail (r.among m k);
        unknown = r.unknown;
        distinct = r.distinct;
        told = r.told;
        kept = r.kept;
        all = λ m k. ⊎_elim (λ e. rw e (let s = r.kept n (λ h. known (r.unknown n h)) in omega (arith, known)))
            (r.all m) (mathlib.Core.List.Memᴰ.cases_cons k);
        long = r.long;
      }

  module _ (n : ℕ) (ns far new far' : List ℕ) (none : get_or far n 0 ≡ 0) (low : n < length far)
      (r : Notes d ns (set far n d) new far') where
    hit : get_or (set far n d) n 0 ≡ d
    hit = get_or-set_same far n d 0 low

    once : Memᴰ n new → ⊥
    once k = let u = r.unknown n k in let h = hit in omega arith

    first : get_or far' n 0 ≡ d
    first = r.kept n once ∙ hit

    notes-new : Notes d (n ∷ ns) far (n ∷ new) far'
    notes-new =
        record {
          among = λ m k. ⊎_elim mathlib.Core.List.Memᴰ.head (λ t. mathlib.Core.List.Memᴰ.tail (r.among m t)) (mathlib.Core.List.Memᴰ.cases_cons k);
          unknown = λ m k. ⊎_elim (λ e. rw e none) (unknown m) (mathlib.Core.List.Memᴰ.cases_cons k);
          distinct = distinct_cons n new once r.distinct;
          told = λ m k. ⊎_elim (λ e. rw e first) (r.told m) (mathlib.Core.List.Memᴰ.cases_cons k);
          kept = λ m k. r.kept m (λ t. k (mathlib.Core.List.Memᴰ.tail t))
              ∙ get_or-set_other far n m d 0 (λ e. k (mathlib.Core.List.Memᴰ.head e));
          all = λ m k. ⊎_elim (λ e. rw e (let f = first in omega arith)) (r.all m) (mathlib.Core.List.Memᴰ.cases_cons k);
          long = r.long ∙ length-set far n d;
        }
      where
        unknown : (m : ℕ) → Memᴰ m new → get_or far m 0 ≡ 0
        unknown m k =
            ⊎_elim (λ e. rw e none) (λ apart. sym (get_or-set_other far n m d 0 apart) ∙ r.unknown m k) (equal? m n)

  -- what is noted along a list whose numbers have places
  pub notes-all : (ns far : List ℕ) → ((n : ℕ) → Memᴰ n ns → n < length far)
      → Notes d ns far (fresh d ns far) (noted d ns far)
  unfolding fresh noted
  notes-all [] far low = notes-none far
  notes-all (n ∷ ns) far low =
      ⊎_elim (λ none. rw (fresh-new d n ns far none, noted-new d n ns far none) (notes-new n ns far _ _ none
      (low n (mathlib.Core.List.Memᴰ.head refl))
      (notes-all ns (set far n d) (λ m k. rw length-set (low m (mathlib.Core.List.Memᴰ.tail k))))))
      (λ known. rw (fresh-known d n ns far known, noted-known d n ns far known) (notes-known n ns far _ _ known
      (notes-all ns far (λ m k. low m (mathlib.Core.List.Memᴰ.tail k)))))
      (equal? (get_or far n 0) 0)

-- after some places: what is noted and queued in all is what is so far, and then what the places left bring
pub record NotesOn (us next far₀ queue₀ : List ℕ) (start d count : ℕ) (far queue : List ℕ) (c queued : ℕ) : Type 0
  where
    pub can : CanNote us next c d far queue queued
    pub done : List ℕ
    pub notes : (cs : List ℕ) → Chained next start cs
        → noted d (map (at us) cs) far₀ ≡ noted d (map (at us) can.places) far
    pub so_far : (cs : List ℕ) → Chained next start cs
        → fresh d (map (at us) cs) far₀ ≡ done ++ fresh d (map (at us) can.places) far
    pub counted : queued ≡ count + length done
    pub held : queue ≡ sets queue₀ count done

module _ (us next far₀ queue₀ : List ℕ) (start d count : ℕ) where
  -- before the first place nothing is noted or queued
  pub notes-start : CanNote us next start d far₀ queue₀ count
      → NotesOn us next far₀ queue₀ start d count far₀ queue₀ start count
  notes-start can =
      record {
        can = can;
        done = [];
        notes = λ cs h. ap (λ (l : List ℕ). noted d (map (at us) l) far₀) (chained-unique h can.chained);
        so_far = λ cs h. ap (λ (l : List ℕ). fresh d (map (at us) l) far₀) (chained-unique h can.chained);
        counted = omega arith;
        held = refl;
      }

  module _ (far queue : List ℕ) (c queued : ℕ) (p : NotesOn us next far₀ queue₀ start d count far queue c queued) where
    -- where no place is left, all is noted and queued
    pub notes-end : c ≡ 0 → (cs : List ℕ) → Chained next start cs
        → NoteDone (map (at us) cs) d far₀ queue₀ count far queue queued
    unfolding noted fresh
    notes-end e cs h =
        let none = chained-unique {ys = []} (rw e at p.can.chained) ends in
        let all : fresh d (map (at us) cs) far₀ ≡ p.done = p.so_far cs h
        ∙ (ap (λ (ds : List ℕ). p.done ++ fresh d (map (at us) ds) far) none ∙ append-nil p.done) in
        record {
          notes = sym (p.notes cs h ∙ ap (λ (ds : List ℕ). noted d (map (at us) ds) far) none);
          counts = rw all p.counted;
          queues = rw all p.held;
        }

    -- the queue keeps its length
    pub notes-long : length queue ≡ length queue₀
    notes-long = ap length p.held ∙ length-sets queue₀ count p.done

    module _ (some : c ≡ 0 → ⊥) where
      split : Split next c p.can.places
      split = chained-split p.can.chained some

      -- the upper net of place c
      abbrev a : ℕ
      a = get_or us (c - 1) 0

      is-upper : at us c ≡ a
      is-upper = at-pred us c split.positive

      -- the place is one of the row and of the links, and its upper net has a place for its distance
      pub here : (0 < c) × (c < length next) × (c - 1 < length us) × (a < 512)
      here =
          let member : Memᴰ c p.can.places = rw split.begins (mathlib.Core.List.Memᴰ.head refl) in
          let low = p.can.in_row c member in
          let number = p.can.number c member in
          let upper = is-upper in
          let positive = split.positive in
          (positive, split.low, omega arith, omega arith)

      -- the links come nearer to their end
      pub notes-falls : remaining next (get_or next c 0) < remaining next c
      notes-falls = remaining-falls p.can.chained p.can.rising some

      abbrev left : List ℕ
      left = map (at us) split.rest

      begins : map (at us) p.can.places ≡ a ∷ left
      begins = ap (map (at us)) split.begins ∙ ap (λ (n : ℕ). n ∷ left) is-upper

      -- the walk can go on behind place c
      can-go : (far' queue' : List ℕ) (queued' : ℕ) → length far' ≡ 512
          → queued' + length (fresh d left far') ≤ length queue' → CanNote us next (get_or next c 0) d far' queue' queued'
      unfolding Rising
      can-go far' queue' queued' long room =
          record {
            places = split.rest;
            chained = split.on;
            rising = (rw split.begins at p.can.rising).1;
            in_row = λ e m. p.can.in_row e (rw split.begins (mathlib.Core.List.Memᴰ.tail m));
            number = λ e m. p.can.number e (rw split.begins (mathlib.Core.List.Memᴰ.tail m));
            long = long;
            room = room;
          }

      -- the upper net of place c has a distance, and is passed over
      pub notes-past : (get_or far a 0 ≡ 0 → ⊥)
          → NotesOn us next far₀ queue₀ start d count far queue (get_or next c 0) queued
      unfolding can-go
      notes-past known =
          let same = ap (λ (l : List ℕ). fresh d l far) begins ∙ fresh-known d a left far known in
          let same' = ap (λ (l : List ℕ). noted d l far) begins ∙ noted-known d a left far known in
          record {
            can = can-go far queue queued p.can.long (rw same at p.can.room);
            done = p.done;
            notes = λ cs h. p.notes cs h ∙ same';
            so_far = λ cs h. p.so_far cs h ∙ ap (λ (l : List ℕ). p.done ++ l) same;
            counted = p.counted;
            held = p.held;
          }

      -- it has none: it gets this one, and is queued
      pub notes-takes : get_or far a 0 ≡ 0 → (queued < length queue)
          × NotesOn us next far₀ queue₀ start d count (set far a d) (set queue queued a) (get_or next c 0) (queued + 1)
      unfolding can-go
      notes-takes none =
          let one : fresh d (map (at us) p.can.places) far ≡ a ∷ fresh d left (set far a d) =
          ap (λ (l : List ℕ). fresh d l far) begins ∙ fresh-new d a left far none in
          let on = ap (λ (l : List ℕ). noted d l far) begins ∙ noted-new d a left far none in
          let room = rw one at p.can.room in
          let long = length-set queue queued a in (
            omega arith,
            record {
              can = can-go (set far a d) (set queue queued a) (queued + 1) (length-set far a d ∙ p.can.long)
                  (omega arith);
              done = p.done ++ (a ∷ []);
              notes = λ cs h. p.notes cs h ∙ on;
              so_far = λ cs h. p.so_far cs h ∙ (ap (λ (l : List ℕ). p.done ++ l) one
                  ∙ sym (append_assoc p.done (a ∷ []) (fresh d left (set far a d))));
              counted = let l = length-append p.done (a ∷ []) in let k = p.counted in omega arith;
              held = rw (p.held, p.counted) (sets-append queue₀ count p.done (a ∷ []));
            },
          )
