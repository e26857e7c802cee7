-- The marks of a list of elements go by their places: two places have one mark exactly if a chain of touches links
-- them.
use Rattle.std.specs.Prelude.{ℕ, suc, ◌<◌, ◌≡◌, Bool, cond, get_or, T}
use Rattle.std.proofs.Common.{arith, ◌∙◌}
use Rattle.std.proofs.Math.Path.{refl, sym, ap}
use mathlib.Core.List.{List, [], ◌∷◌, map, map-map, map-append, Memᴰ}
use Rattle.std.proofs.Math.Bool.{true, false}
use Rattle.std.proofs.Math.Option.{some}
use Rattle.std.proofs.Math.ListN.{get_elem?}
use Rattle.lists.specs.Lists.{from, keep, head_or}
use Rattle.lists.specs.Members.{from_member}
use Rattle.lists.specs.Places.{place_map, place-of-map, place-from, at_place}
use Rattle.lists.specs.Ends.{at_suc}
use Rattle.lists.specs.Ranges.{place-member}
use Rattle.classes.specs.Classes.{Marked, marks_of, marks_met, remark, add_element, classes_from, classes}
use Rattle.classes.specs.ClassLaws.{Classed, classes-classed, classes-elements}

-- elements named by numbers: what is done to the names is done to the elements
module _ {A : Type 0} (touch : A → A → Bool) (f : ℕ → A) where
  abbrev named : Marked ℕ → Marked A
  named m = record { element = f m.element; mark = m.mark }

  abbrev meets : ℕ → ℕ → Bool
  meets i j = touch (f i) (f j)

  -- the same marks are met, the same are changed, and the same element comes
  met-named : (i : ℕ) (ms : List (Marked ℕ)) → marks_met touch (f i) (map named ms) ≡ marks_met meets i ms
  unfolding marks_met marks_of keep
  met-named i [] = refl
  met-named i (m ∷ ms) = go (meets m.element i) _ _ (met-named i ms)
    where
      go : (b : Bool) (there : List (Marked A)) (here : List (Marked ℕ)) → marks_of there ≡ marks_of here
          → marks_of (cond b (named m ∷ there) there) ≡ marks_of (cond b (m ∷ here) here)
      go true there here e = ap (λ (l : List ℕ). m.mark ∷ l) e
      go false there here e = e

  remark-named : (met : List ℕ) (k : ℕ) (ms : List (Marked ℕ))
      → remark met k (map named ms) ≡ map named (remark met k ms)
  unfolding remark
  remark-named met k ms = map-map _ named ms ∙ sym (map-map named _ ms)

  add-named : (k i : ℕ) (ms : List (Marked ℕ))
      → add_element touch k (f i) (map named ms) ≡ map named (add_element meets k i ms)
  unfolding add_element
  add-named k i ms =
      let met = marks_met meets i ms in
      rw (met-named i ms, remark-named met (head_or k met) ms)
      (sym (map-append named (remark met (head_or k met) ms) _))

  from_named : (k : ℕ) (is : List ℕ) (ms : List (Marked ℕ))
      → marks_of (classes_from touch k (map f is) (map named ms)) ≡ marks_of (classes_from meets k is ms)
  unfolding classes_from marks_of
  from_named k [] ms = map-map _ named ms
  from_named k (i ∷ is) ms =
      ap (λ (es : List (Marked A)). marks_of (classes_from touch (suc k) (map f is) es)) (add-named k i ms)
      ∙ from_named (suc k) is (add_element meets k i ms)

-- marks go by which elements touch, and not by what they are
pub marks-map : {A : Type 0} (touch : A → A → Bool) (f : ℕ → A) (is : List ℕ)
    → marks_of (classes touch (map f is)) ≡ marks_of (classes (λ i j. touch (f i) (f j)) is)
unfolding classes
marks-map touch f is = from_named touch f 1 is []

module _ (touch : ℕ → ℕ → Bool) (n : ℕ) (turned : (i j : ℕ) → T (touch i j) → T (touch j i)) where
  abbrev entries : List (Marked ℕ)
  entries = classes touch (from 0 n)

  -- the place i with its mark
  record EntryOf (i : ℕ) : Type 0 where
    entry : Marked ℕ
    listed : Memᴰ entry entries
    place : entry.element ≡ i
    marked : entry.mark ≡ get_or (marks_of entries) i 0

  entry_of : (i : ℕ) → i < n → EntryOf i
  unfolding marks_of
  entry_of i h =
      let e : get_elem? (map (λ (m : Marked ℕ). m.element) entries) i ≡ some i =
      ap (λ (xs : List ℕ). get_elem? xs i) (classes-elements touch (from 0 n)) ∙ place-from 0 n i h
      ∙ ap some (omega arith) in
      let r = place-of-map (λ (m : Marked ℕ). m.element) entries i e in
      record {
        entry = r.0;
        listed = place-member entries i r.1;
        place = r.2;
        marked =
            sym (at_place (marks_of entries) i (place_map (λ (m : Marked ℕ). m.mark) entries i r.1))
            ∙ at_suc (marks_of entries) i;
      }

  -- the classes, where places that touch have one label
  classed : (label : ℕ → ℕ) → ((i j : ℕ) → i < n → j < n → T (touch i j) → label i ≡ label j)
      → (m : ℕ) × Classed touch (λ i. i < n) (λ i j. label i ≡ label j) m entries
  classed label same =
      classes-classed touch (λ i. i < n) (λ i j. label i ≡ label j) (record {
        touch-sym = turned;
        itself = λ i. refl;
        turned = λ i j e. sym e;
        chained = λ i j k e q. e ∙ q;
        touching = same;
      }) (from 0 n) (λ i m. let r = from_member 0 n m in omega arith)

  -- places that touch have one mark
  pub touching-marks : (i j : ℕ) → i < n → j < n → T (touch i j)
      → get_or (marks_of (classes touch (from 0 n))) i 0 ≡ get_or (marks_of (classes touch (from 0 n))) j 0
  touching-marks i j hi hj t =
      let a = entry_of i hi in
      let b = entry_of j hj in
      let all = (classed (λ k. 0) (λ p q hp hq s. refl)).1 in
      sym a.marked ∙ all.complete a.entry b.entry a.listed b.listed (rw (a.place, b.place) t)
      ∙ b.marked

  -- places of one mark have one label, if places that touch have
  pub marks-label : (label : ℕ → ℕ) → ((i j : ℕ) → i < n → j < n → T (touch i j) → label i ≡ label j)
      → (i j : ℕ) → i < n → j < n
      → get_or (marks_of (classes touch (from 0 n))) i 0 ≡ get_or (marks_of (classes touch (from 0 n))) j 0
      → label i ≡ label j
  marks-label label same i j hi hj e =
      let a = entry_of i hi in
      let b = entry_of j hj in
      ap label (sym a.place)
      ∙ (classed label same).1.sound a.entry b.entry a.listed b.listed (a.marked ∙ e ∙ sym b.marked)
      ∙ ap label b.place
