-- Marks and classes: elements that touch have one mark, and elements of one mark are the same in every equivalence that
-- holds between those that touch.
use Rattle.std.specs.Prelude.{ℕ, suc, ◌<◌, ◌≡◌, Bool, true, false, cond, ◌⊎◌, T}
use Rattle.std.proofs.Common.{arith, ◌∙◌, inl, inr}
use Rattle.std.proofs.Math.Path.{refl, sym, ap, subst}
use mathlib.Core.List.Memᴰ
use mathlib.Core.List.{List, [], ◌∷◌, ◌++◌, map, append_assoc, append-nil, Memᴰ}
use Rattle.std.proofs.Math.Logic.{⊎_elim}
use Rattle.lists.specs.Lists.{keep, is_in, head_or}
use Rattle.lists.specs.Tests.{true→T, false→fails}
use Rattle.lists.specs.Members.{keep-member, kept, is_in→member, member→is_in}
use Rattle.classes.specs.Classes.{Marked, marks_of, marks_met, remark, add_element, classes_from, classes}

-- the mark is the new one, or one of those met
head_or-cases : (k : ℕ) (ns : List ℕ) → (head_or k ns ≡ k) ⊎ Memᴰ (head_or k ns) ns
unfolding head_or
head_or-cases k [] = inl refl
head_or-cases k (n ∷ ns) = inr (Memᴰ.head refl)

-- an equivalence of the elements, of which only those that are Valid come to be marked
pub record Equivalence {A : Type 0} (touch : A → A → Bool) (Valid : A → Type 0) (Same : A → A → Type 0) : Type 0 where
  pub touch-sym : (x y : A) → T (touch x y) → T (touch y x)
  pub itself : (x : A) → Same x x
  pub turned : (x y : A) → Same x y → Same y x
  pub chained : (x y z : A) → Same x y → Same y z → Same x z
  pub touching : (x y : A) → Valid x → Valid y → T (touch x y) → Same x y

module _ {A : Type 0} (touch : A → A → Bool) (Valid : A → Type 0) (Same : A → A → Type 0) where
  -- what holds of the marked elements when k is the next new mark
  pub record Classed (k : ℕ) (ms : List (Marked A)) : Type 0 where
    pub valid : (a : Marked A) → Memᴰ a ms → Valid a.element
    pub below : (a : Marked A) → Memᴰ a ms → a.mark < k
    pub sound : (a b : Marked A) → Memᴰ a ms → Memᴰ b ms → a.mark ≡ b.mark → Same a.element b.element
    pub complete : (a b : Marked A) → Memᴰ a ms → Memᴰ b ms → T (touch a.element b.element)
        → a.mark ≡ b.mark

  module _ (eq : Equivalence touch Valid Same) (k : ℕ) (x : A) (ms : List (Marked A)) (vx : Valid x)
      (inv : Classed k ms) where
    met : List ℕ
    met = marks_met touch x ms

    mark' : ℕ
    mark' = head_or k met

    -- the mark is met exactly where an element of that mark touches x
    met→ : (n : ℕ) → Memᴰ n met → (a : Marked A) × Memᴰ a ms × (a.mark ≡ n) × T (touch a.element x)
    unfolding met marks_met marks_of
    met→ n h =
        let r = Memᴰ.of_map (λ (m : Marked A). m.mark) (keep (λ m. touch m.element x) ms) h in
        let q = keep-member (λ (m : Marked A). touch m.element x) ms r.1 in
        (r.0, q.0, r.2, q.1)

    →met : (a : Marked A) → Memᴰ a ms → T (touch a.element x) → Memᴰ a.mark met
    unfolding met marks_met marks_of
    →met a h t = Memᴰ.map (λ (m : Marked A). m.mark) (kept (λ (m : Marked A). touch m.element x) h t)

    -- one whose mark is met is the same as x
    met-same : (a : Marked A) → Memᴰ a ms → Memᴰ a.mark met → Same a.element x
    met-same a ma h =
        let r = met→ a.mark h in
        let near = eq.touching r.0.element x (inv.valid r.0 r.1) vx r.3 in
        eq.chained a.element r.0.element x (inv.sound a r.0 ma r.1 (sym r.2)) near

    -- an entry, once x has come: of the class of x, or as it was and of another class
    data Entry (b : Marked A) : Type 0 where
      taken : Valid b.element → Same b.element x
          → ((a : Marked A) → Memᴰ a ms → T (touch b.element a.element) → Memᴰ a.mark met)
          → b.mark ≡ mark' → Entry b
      apart : Memᴰ b ms → (Memᴰ b.mark met → ⊥) → Entry b

    entry : (b : Marked A) → Memᴰ b (add_element touch k x ms) → Entry b
    unfolding add_element remark met mark'
    entry b h =
        ⊎_elim old (λ m. subst Entry (sym (Memᴰ.eq_of_singleton m)) itself)
        (Memᴰ.append_cases (remark met mark' ms) h)
      where
        itself : Entry (record { element = x; mark = mark' })
        itself = taken vx (eq.itself x) (λ a ma t. →met a ma (eq.touch-sym x a.element t)) refl

        go : (a : Marked A) → Memᴰ a ms → (t : Bool) → is_in a.mark met ≡ t
            → Entry (record { element = a.element; mark = cond t mark' a.mark })
        go a ma true q =
            let here = is_in→member a.mark met (true→T _ q) in
            taken (inv.valid a ma) (met-same a ma here) (λ c mc t.
            Memᴰ.cast (inv.complete c a mc ma (eq.touch-sym a.element c.element t)) here) refl
        go a ma false q = apart ma (λ i. false→fails _ q (member→is_in i))

        old : Memᴰ b (remark met mark' ms) → Entry b
        old m =
            let r = Memᴰ.of_map (λ (a : Marked A). let new : Marked A =
            record { element = a.element; mark = cond (is_in a.mark met) mark' a.mark } in new) ms m in
            subst Entry r.2 (go r.0 r.1 (is_in r.0.mark met) refl)

    -- a mark of another class is not the mark of x
    other-mark : (b : Marked A) → Memᴰ b ms → (Memᴰ b.mark met → ⊥) → b.mark ≡ mark' → ⊥
    unfolding mark'
    other-mark b mb out e =
        ⊎_elim (λ fresh. let h = inv.below b mb in omega arith) (λ m. out (Memᴰ.cast e m)) (head_or-cases k met)

    mark-below : mark' < suc k
    unfolding mark'
    mark-below =
        ⊎_elim (λ fresh. omega arith) (λ m. let r = met→ (head_or k met) m in let e = r.2 in
        let h = inv.below r.0 r.1 in omega arith) (head_or-cases k met)

    -- one element more, and all still holds
    add-classed : Classed (suc k) (add_element touch k x ms)
    add-classed =
        record {
          valid = λ a ma. valid' a (entry a ma);
          below = λ a ma. below' a (entry a ma);
          sound = λ a b ma mb. sound' a b (entry a ma) (entry b mb);
          complete = λ a b ma mb. complete' a b (entry a ma) (entry b mb);
        }
      where
        valid' : (a : Marked A) → Entry a → Valid a.element
        valid' a (taken v s near e) = v
        valid' a (apart m out) = inv.valid a m

        below' : (a : Marked A) → Entry a → a.mark < suc k
        below' a (taken v s near e) = let h = mark-below in omega arith
        below' a (apart m out) = let h = inv.below a m in omega arith

        sound' : (a b : Marked A) → Entry a → Entry b → a.mark ≡ b.mark → Same a.element b.element
        sound' a b (taken v s near e) (taken v₂ s₂ near₂ e₂) q =
            eq.chained a.element x b.element s (eq.turned b.element x s₂)
        sound' a b (taken v s near e) (apart m out) q = absurd (other-mark b m out (sym q ∙ e))
        sound' a b (apart m out) (taken v s near e) q = absurd (other-mark a m out (q ∙ e))
        sound' a b (apart m out) (apart m₂ out₂) q = inv.sound a b m m₂ q

        complete' : (a b : Marked A) → Entry a → Entry b → T (touch a.element b.element) → a.mark ≡ b.mark
        complete' a b (taken v s near e) (taken v₂ s₂ near₂ e₂) t = e ∙ sym e₂
        complete' a b (taken v s near e) (apart m out) t = absurd (out (near b m t))
        complete' a b (apart m out) (taken v s near e) t =
            absurd (out (near a m (eq.touch-sym a.element b.element t)))
        complete' a b (apart m out) (apart m₂ out₂) t = inv.complete a b m m₂ t

  module _ (eq : Equivalence touch Valid Same) where
    from-classed : (k : ℕ) (xs : List A) (ms : List (Marked A)) → ((x : A) → Memᴰ x xs → Valid x) → Classed k ms
        → (m : ℕ) × Classed m (classes_from touch k xs ms)
    unfolding classes_from
    from-classed k [] ms v inv = (k, inv)
    from-classed k (x ∷ xs) ms v inv =
        from-classed (suc k) xs (add_element touch k x ms) (λ y h. v y (Memᴰ.tail h))
        (add-classed eq k x ms (v x (Memᴰ.head refl)) inv)

    pub classes-classed : (xs : List A) → ((x : A) → Memᴰ x xs → Valid x) → (m : ℕ) × Classed m (classes touch xs)
    unfolding classes
    classes-classed xs v =
        from-classed 1 xs [] v (record {
          valid = λ a m. absurd (Memᴰ.not-nil m);
          below = λ a m. absurd (Memᴰ.not-nil m);
          sound = λ a b m. absurd (Memᴰ.not-nil m);
          complete = λ a b m. absurd (Memᴰ.not-nil m);
        })

abbrev pub elements_of : {A : Type 0} → List (Marked A) → List A
elements_of ms = map (λ m. m.element) ms

-- the marked elements are the elements, in order
module _ {A : Type 0} (touch : A → A → Bool) where
  add-elements : (k : ℕ) (x : A) (ms : List (Marked A))
      → elements_of (add_element touch k x ms) ≡ elements_of ms ++ (x ∷ [])
  unfolding add_element remark
  add-elements k x ms = go (marks_met touch x ms) (head_or k (marks_met touch x ms)) ms
    where
      go : (ns : List ℕ) (n : ℕ) (ms : List (Marked A))
          → elements_of (remark ns n ms ++ (record { element = x; mark = n } ∷ [])) ≡ elements_of ms ++ (x ∷ [])
      go ns n [] = refl
      go ns n (m ∷ ms) = ap {B = List A} (λ r. m.element ∷ r) (go ns n ms)

  from-elements : (k : ℕ) (xs : List A) (ms : List (Marked A))
      → elements_of (classes_from touch k xs ms) ≡ elements_of ms ++ xs
  unfolding classes_from
  from-elements k [] ms = sym (append-nil (elements_of ms))
  from-elements k (x ∷ xs) ms =
      from-elements (suc k) xs (add_element touch k x ms)
      ∙ (ap (λ (s : List A). s ++ xs) (add-elements k x ms) ∙ append_assoc (elements_of ms) (x ∷ []) xs)

  pub classes-elements : (xs : List A) → elements_of (classes touch xs) ≡ xs
  unfolding classes
  classes-elements xs = from-elements 1 xs []
