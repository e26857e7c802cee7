-- The tests equal their meanings: two boxes have a common grid point exactly if both of their ranges overlap, at the
-- greater of the starts.
use Rattle.std.specs.Prelude.{ℕ, ◌≤◌, max, ◌≡◌, refl, ◌&&◌, ◌||◌, T, leb, eqb}
use Rattle.std.proofs.Common.{arith, sym, ◌∙◌, ap₂, subst, ⊎_elim, leb→le, le→leb, eqb→eq, eq-eqb, ne_eqb}
use Rattle.std.proofs.Math.Bool.{and_comm, or_comm, or-true}
use Rattle.lists.specs.Lists.{within}
use Rattle.lists.specs.Tests.{true→T, and_left, and_right, and_both, or_cases, equal?, within→, →within}
use Rattle.grid.specs.declared.Piece.{Piece}
use Rattle.grid.specs.declared.Piece.TheVariants.{Trunk, Branch, Contact}
use Rattle.grid.specs.Pieces.{kind_of, trunk_kind, branch_kind, contact_kind, left, right, low, high, OnGrid}
use Rattle.grid.specs.Touching.{Covers, kinds_meet, pin_meets, Touch, covers, overlap, touches}

-- what a piece on a grid of w columns covers is not empty, and lies in these columns
pub record Boxed (w : ℕ) (p : Piece) : Type 0 where
  pub columns : left p ≤ right p
  pub rows : low p ≤ high p
  pub first : 1 ≤ left p
  pub last : right p ≤ w

pub on-grid→boxed : {w : ℕ} (t : ℕ) (p : Piece) → OnGrid w t p → Boxed w p
unfolding OnGrid left right low high
on-grid→boxed t (Trunk k a b) g = omega arith
on-grid→boxed t (Branch c a b) g = omega arith
on-grid→boxed t (Contact c k) g = omega arith

-- the three kinds: a trunk lies in one row, on a track; a branch in one column; a contact is one point
pub one-row : (w t : ℕ) (p : Piece) → OnGrid w t p → (kind_of p ≡ branch_kind → ⊥)
    → (low p ≡ high p) × (1 ≤ low p) × (low p ≤ t)
unfolding OnGrid kind_of low high
one-row w t (Trunk k a b) g h = (refl, g.0, g.1)
one-row w t (Branch c a b) g h = absurd (h refl)
one-row w t (Contact c k) g h = (refl, g.2, g.3)

pub one-column : (p : Piece) → (kind_of p ≡ trunk_kind → ⊥) → left p ≡ right p
unfolding kind_of left right
one-column (Trunk k a b) h = absurd (h refl)
one-column (Branch c a b) h = refl
one-column (Contact c k) h = refl

pub covers→ : (p : Piece) (x y : ℕ) → T (covers p x y) → Covers p x y
unfolding covers
covers→ p x y h =
    let a = within→ _ _ _ (and_left (within (left p) x (right p)) (within (low p) y (high p)) h) in
    let b = within→ _ _ _ (and_right (within (left p) x (right p)) (within (low p) y (high p)) h) in
    record { from_left = a.0; to_right = a.1; from_low = b.0; to_high = b.1 }

pub →covers : (p : Piece) (x y : ℕ) → Covers p x y → T (covers p x y)
unfolding covers
→covers p x y h =
    and_both (within (left p) x (right p)) (within (low p) y (high p)) (→within _ _ _ h.from_left h.to_right)
    (→within _ _ _ h.from_low h.to_high)

eqb-turned : (a b : ℕ) → eqb a b ≡ eqb b a
eqb-turned a b =
    ⊎_elim (λ e. eq-eqb a b e ∙ sym (eq-eqb b a (sym e))) (λ n. ne_eqb a b n ∙ sym (ne_eqb b a (λ e. n (sym e))))
    (equal? a b)

overlap→ : (a b d e : ℕ) → T (overlap a b d e) → (a ≤ e) × (d ≤ b)
overlap→ a b d e h = (leb→le a e (and_left (leb a e) (leb d b) h), leb→le d b (and_right (leb a e) (leb d b) h))

→overlap : (a b d e : ℕ) → a ≤ e → d ≤ b → T (overlap a b d e)
→overlap a b d e h k = and_both (leb a e) (leb d b) (le→leb a e h) (le→leb d b k)

-- which kinds meet: of two that are no contacts, only equal ones
pub met-kinds : (a b : ℕ) → T (kinds_meet a b) → (a ≡ contact_kind → ⊥) → (b ≡ contact_kind → ⊥) → a ≡ b
unfolding kinds_meet
met-kinds a b h ha hb =
    ⊎_elim (eqb→eq a b)
    (λ k. absurd (⊎_elim (λ e. ha (eqb→eq a contact_kind e)) (λ e. hb (eqb→eq b contact_kind e))
    (or_cases (eqb a contact_kind) (eqb b contact_kind) k)))
    (or_cases (eqb a b) (eqb a contact_kind || eqb b contact_kind) h)

pub same-kind-meets : {a b : ℕ} → a ≡ b → T (kinds_meet a b)
unfolding kinds_meet
same-kind-meets {a} {b} e = true→T (kinds_meet a b) (rw (eq-eqb a b e))

pub contact-meets : (a : ℕ) → T (kinds_meet a contact_kind)
unfolding kinds_meet
contact-meets a = true→T (kinds_meet a contact_kind) (simp or-true)

pub kinds-turned : (a b : ℕ) → kinds_meet a b ≡ kinds_meet b a
unfolding kinds_meet
kinds-turned a b = ap₂ ◌||◌ (eqb-turned a b) (or_comm (eqb a contact_kind) (eqb b contact_kind))

-- a pin meets branches alone
pub met-branch : (k : ℕ) → T (pin_meets k) → k ≡ branch_kind
unfolding pin_meets
met-branch k h = eqb→eq k branch_kind h

-- `touches` is `Touch`
pub touches→ : {w : ℕ} (p q : Piece) → Boxed w p → Boxed w q → T (touches p q) → Touch p q
unfolding touches
touches→ p q bp bq h =
    let wide = overlap (left p) (right p) (left q) (right q) in
    let tall = overlap (low p) (high p) (low q) (high q) in
    let met = kinds_meet (kind_of p) (kind_of q) in
    let x = overlap→ (left p) (right p) (left q) (right q) (and_left wide (tall && met) h) in
    let rest = and_right wide (tall && met) h in
    let y = overlap→ (low p) (high p) (low q) (high q) (and_left tall met rest) in
    let cp = bp.columns in
    let cq = bq.columns in
    let rp = bp.rows in
    let rq = bq.rows in
    record {
      column = max (left p) (left q);
      row = max (low p) (low q);
      covers₁ = omega arith;
      covers₂ = omega arith;
      meets = and_right tall met rest;
    }

pub →touches : (p q : Piece) → Touch p q → T (touches p q)
unfolding touches
→touches p q h =
    let wide = overlap (left p) (right p) (left q) (right q) in
    let tall = overlap (low p) (high p) (low q) (high q) in
    let met = kinds_meet (kind_of p) (kind_of q) in
    let a = h.covers₁ in
    let b = h.covers₂ in
    and_both wide (tall && met) (→overlap (left p) (right p) (left q) (right q) (omega arith) (omega arith))
    (and_both tall met (→overlap (low p) (high p) (low q) (high q) (omega arith) (omega arith)) h.meets)

pub touches-turned : (p q : Piece) → touches p q ≡ touches q p
unfolding touches
touches-turned p q =
    ap₂ ◌&&◌ (and_comm (leb (left p) (right q)) (leb (left q) (right p)))
    (ap₂ ◌&&◌ (and_comm (leb (low p) (high q)) (leb (low q) (high p))) (kinds-turned (kind_of p) (kind_of q)))

pub touch-sym : {p q : Piece} → Touch p q → Touch q p
touch-sym {p} {q} h =
    record {
      column = h.column;
      row = h.row;
      covers₁ = h.covers₂;
      covers₂ = h.covers₁;
      meets = subst T (kinds-turned (kind_of p) (kind_of q)) h.meets;
    }

-- a trunk and a branch that cross do not touch
pub crossing-apart : (p q : Piece) → kind_of p ≡ trunk_kind → kind_of q ≡ branch_kind → Touch p q → ⊥
crossing-apart p q hp hq h =
    let e = met-kinds (kind_of p) (kind_of q) h.meets (λ k. absurd (omega arith)) (λ k. absurd (omega arith)) in
    omega arith
