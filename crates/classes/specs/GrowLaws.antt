-- What joins leave: classes that have grown, and no more than the joins ask for.
use Rattle.std.specs.Prelude.{ℕ, min, max, ◌<◌, ◌≡◌, refl, List, Bool, cond, length, eqb}
use Rattle.std.proofs.Common.{arith, sym, ◌∙◌, ap, ⊎_elim, eqb→eq}
use Rattle.std.proofs.Math.Decide.{dec_lt}
use Rattle.std.proofs.Math.Dec.{eqb_refl}
use Rattle.lists.specs.Tests.{T→true, fails→false, equal?}
use Rattle.classes.specs.Forest.{Forest, root_of, Same, merged, Kept, Joins, Grown, Respects}

pub grown-itself : {s : List ℕ} → Forest s → Grown s s
grown-itself f = record { forest = f; size = refl; grows = λ a b la lb e. e; seconds = λ i l. refl }

pub grown-chained : {s s' s'' : List ℕ} → Grown s s' → Grown s' s'' → Grown s s''
grown-chained g h =
    let z = g.size in
    record {
      forest = h.forest;
      size = h.size ∙ z;
      grows = λ a b la lb e. h.grows a b (omega arith) (omega arith) (g.grows a b la lb e);
      seconds = λ i l. h.seconds i (omega arith) ∙ g.seconds i l;
    }

pub kept-grown : {s s' : List ℕ} → Kept s s' → Grown s s'
kept-grown k =
    record {
      forest = k.forest;
      size = k.size;
      grows = λ a b la lb e. k.roots a la ∙ e ∙ sym (k.roots b lb);
      seconds = k.seconds;
    }

pub joins-grown : {s s' : List ℕ} {a b : ℕ} → Joins s a b s' → Grown s s'
joins-grown {s} {a = a} {b = b} j =
    record {
      forest = j.forest;
      size = j.size;
      grows =
          λ x y lx ly e. j.roots x lx ∙ ap (merged (root_of s a) (root_of s b)) e ∙ sym (j.roots y ly);
      seconds = j.seconds;
    }

-- the two cases of a root where two classes are joined
merged-most : (a b r : ℕ) → r ≡ max a b → merged a b r ≡ min a b
unfolding merged
merged-most a b r e =
    ap (λ (t : Bool). cond t (min a b) r) (T→true (eqb r (max a b)) (rw (sym e) (eqb_refl r)))

merged-other : (a b r : ℕ) → (r ≡ max a b → ⊥) → merged a b r ≡ r
unfolding merged
merged-other a b r n =
    ap (λ (t : Bool). cond t (min a b) r) (fails→false (eqb r (max a b)) (λ t. n (eqb→eq r (max a b) t)))

-- both roots become the lower one
merged-first : (a b : ℕ) → merged a b a ≡ min a b
merged-first a b =
    ⊎_elim (merged-most a b a) (λ n. merged-other a b a n ∙ (let h : a ≡ min a b = omega arith in h))
    (equal? a (max a b))

merged-second : (a b : ℕ) → merged a b b ≡ min a b
merged-second a b =
    ⊎_elim (merged-most a b b) (λ n. merged-other a b b n ∙ (let h : b ≡ min a b = omega arith in h))
    (equal? b (max a b))

pub joins-same : {s s' : List ℕ} {a b : ℕ} → Joins s a b s' → a < length s → b < length s → Same s' a b
joins-same {s} {a = a} {b = b} j la lb =
    j.roots a la ∙ merged-first (root_of s a) (root_of s b) ∙ sym (merged-second (root_of s a) (root_of s b))
    ∙ sym (j.roots b lb)

pub kept-respects : {s s' : List ℕ} (label : ℕ → ℕ) → Kept s s' → Respects label s → Respects label s'
kept-respects label k h i l = let z = k.size in h i (omega arith) ∙ ap label (sym (k.roots i (omega arith)))

-- a label of both classes is one of the class that they become
pub joins-respects : {s s' : List ℕ} {a b : ℕ} (label : ℕ → ℕ) → Joins s a b s' → a < length s → b < length s
    → Respects label s → label a ≡ label b → Respects label s'
joins-respects {s} {a = a} {b = b} label j la lb h same i l =
    let z = j.size in
    let li : i < length s = omega arith in
    ⊎_elim (λ (e : root_of s i ≡ max ra rb). h i li ∙ ap label e ∙ most
    ∙ ap label (sym (j.roots i li ∙ merged-most ra rb (root_of s i) e)))
    (λ n. h i li ∙ ap label (sym (j.roots i li ∙ merged-other ra rb (root_of s i) n))) (equal? (root_of s i) (max ra rb))
  where
    ra : ℕ
    ra = root_of s a

    rb : ℕ
    rb = root_of s b

    roots : label ra ≡ label rb
    roots = sym (h a la) ∙ same ∙ h b lb

    most : label (max ra rb) ≡ label (min ra rb)
    most =
        elim (dec_lt ra rb) [
          | yes k ↦
              let hi : max ra rb ≡ rb = omega arith in
              let lo : min ra rb ≡ ra = omega arith in
              ap label hi ∙ sym roots ∙ ap label (sym lo)
          | no k ↦
              let hi : max ra rb ≡ ra = omega arith in
              let lo : min ra rb ≡ rb = omega arith in
              ap label hi ∙ roots ∙ ap label (sym lo)
        ]
