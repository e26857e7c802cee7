-- Chains: going from each element to the one before it on its line meets all of the line's elements, the highest first.
use Rattle.std.specs.Prelude.{ℕ, zero, suc, ◌+◌, ◌≤◌, ◌<◌, ◌≡◌, refl, List, Bool, length, get_or, set, eqb}
use Rattle.std.proofs.Common.{add-one, arith, sym, ◌∙◌, length-set, get_or-set_same, get_or-set_other, eqb→eq}
use Rattle.std.proofs.Math.Path.{ap}
use Rattle.std.proofs.Math.Bool.{cond}
use Rattle.std.proofs.Math.Logic.{⊎_elim}
use Rattle.lists.specs.Tests.{T→true, fails→false, eq→T, equal?}
use Rattle.classes.specs.declared.Range.{Range}
use Rattle.classes.specs.Halves.{low_half, high_half, number_of, low_small, low-number, high-number}
use Rattle.classes.specs.Forest.{parent_of, second_of, Forest, root_of, noted, Grown}
use Rattle.classes.specs.ForestLaws.{own_root, root-parent, roots-by}
use Rattle.classes.specs.Lines.{last_on, Chained}

module _ (R : ℕ → Range) (l i : ℕ) where
  last-here : (R i).line ≡ l → last_on R l (suc i) ≡ suc i
  unfolding last_on
  last-here e = ap (λ (t : Bool). cond t (suc i) (last_on R l i)) (T→true (eqb (R i).line l) (eq→T (R i).line l e))

  last-before : ((R i).line ≡ l → ⊥) → last_on R l (suc i) ≡ last_on R l i
  unfolding last_on
  last-before n =
      ap (λ (t : Bool). cond t (suc i) (last_on R l i))
      (fails→false (eqb (R i).line l) (λ t. n (eqb→eq (R i).line l t)))

pub last-below : (R : ℕ → Range) (l i : ℕ) → last_on R l i ≤ i
unfolding last_on
last-below R l zero = omega arith
last-below R l (suc i) =
    ⊎_elim (λ (e : (R i).line ≡ l). let q = last-here R l i e in omega arith)
    (λ n. let q = last-before R l i n in let b = last-below R l i in omega arith) (equal? (R i).line l)

-- where a chain leads is on its line
pub last_on_lem : (R : ℕ → Range) (l i e : ℕ) → last_on R l i ≡ suc e → ((R e).line ≡ l) × (e < i)
unfolding last_on
last_on_lem R l zero e q = absurd (omega arith)
last_on_lem R l (suc i) e q =
    ⊎_elim (λ (k : (R i).line ≡ l).
    let h = last-here R l i k in let p : e ≡ i = omega arith in (ap (λ (j : ℕ). (R j).line) p ∙ k, omega arith))
    (λ n. let r = last_on_lem R l i e (sym (last-before R l i n) ∙ q) in (r.0, omega (arith, r.1))) (equal? (R i).line l)

-- and no element of the line is passed over
pub none_between : (R : ℕ → Range) (l i e : ℕ) → last_on R l i ≤ e → e < i → (R e).line ≡ l → ⊥
none_between R l zero e h b q = omega arith
none_between R l (suc i) e h b q =
    ⊎_elim (λ (k : (R i).line ≡ l). let p = last-here R l i k in omega arith)
    (λ n. let p = last-before R l i n in
    ⊎_elim (λ (k : e ≡ i). n (ap (λ (j : ℕ). (R j).line) (sym k) ∙ q))
    (λ m. none_between R l i e (omega arith) (omega arith) q) (equal? e i)) (equal? (R i).line l)

-- a second half changed: the classes stay
pub noted-size : (s : List ℕ) (i k : ℕ) → length (noted s i k) ≡ length s
unfolding noted
noted-size s i k = length-set s i (number_of (low_half (get_or s i 0)) k)

module _ (s : List ℕ) (i k : ℕ) (l : i < length s) where
  noted-parent : (j : ℕ) → parent_of (noted s i k) j ≡ parent_of s j
  unfolding parent_of noted
  noted-parent j =
      let w = number_of (low_half (get_or s i 0)) k in
      ⊎_elim (λ (e : j ≡ i). rw e (ap low_half (get_or-set_same s i w 0 l)
      ∙ low-number (low_half (get_or s i 0)) k (low_small (get_or s i 0))))
      (λ n. ap low_half (get_or-set_other s i j w 0 n)) (equal? j i)

  noted_here : second_of (noted s i k) i ≡ k
  unfolding second_of noted
  noted_here =
      ap high_half (get_or-set_same s i (number_of (low_half (get_or s i 0)) k) 0 l)
      ∙ high-number (low_half (get_or s i 0)) k (low_small (get_or s i 0))

  noted_other : (j : ℕ) → (j ≡ i → ⊥) → second_of (noted s i k) j ≡ second_of s j
  unfolding second_of noted
  noted_other j n = ap high_half (get_or-set_other s i j (number_of (low_half (get_or s i 0)) k) 0 n)

pub noted-forest : (s : List ℕ) (i k : ℕ) → i < length s → Forest s → Forest (noted s i k)
noted-forest s i k l f =
    let z = noted-size s i k in
    let h = f.small in
    record {
      small = omega arith;
      rising = λ j m. let r = f.rising j (omega arith) in let e = noted-parent s i k l j in omega arith;
    }

pub noted-roots : (s : List ℕ) (i k : ℕ) → i < length s → Forest s → (j : ℕ) → j < length s
    → root_of (noted s i k) j ≡ root_of s j
noted-roots s i k l f j m =
    let z = noted-size s i k in
    let up = noted-parent s i k l in
    roots-by (noted s i k) (noted-forest s i k l f) (root_of s)
    (λ x q. root-parent s f x (omega arith) ∙ ap (root_of s) (sym (up x))) (λ x q e. own_root s f x (sym (up x) ∙ e)) j
    (omega arith)

pub chained-none : (R : ℕ → Range) (heads s : List ℕ) → ((l : ℕ) → get_or heads l 0 ≡ 0) → Chained R 0 heads s
unfolding last_on
chained-none R heads s h = record { firsts = λ l k. h l; nexts = λ i k. absurd (omega arith) }

pub chained-next : (R : ℕ → Range) (i : ℕ) (heads s heads' s' : List ℕ) → Chained R i heads s → (R i).line < length heads
    → i < length s → heads' ≡ set heads (R i).line (i + 1) → s' ≡ noted s i (get_or heads (R i).line 0)
    → Chained R (i + 1) heads' s'
chained-next R i heads s heads' s' c k h eh es =
    let line = (R i).line in
    let z = length-set heads line (suc i) in
    rw (eh, es, add-one) (record {
      firsts =
          λ l m. ⊎_elim (λ (e : line ≡ l). rw (sym e)
          (get_or-set_same heads line (suc i) 0 k ∙ sym (last-here R line i refl)))
          (λ n. get_or-set_other heads line l (suc i) 0 (λ e. n (sym e)) ∙ c.firsts l (omega arith)
          ∙ sym (last-before R l i n)) (equal? line l);
      nexts =
          λ j m. ⊎_elim (λ (e : j ≡ i). rw e (noted_here s i (get_or heads line 0) h ∙ c.firsts line k))
          (λ n. noted_other s i (get_or heads line 0) h j n ∙ c.nexts j (omega arith)) (equal? j i);
    })

-- the chains stay while classes grow
pub chained-grown : (R : ℕ → Range) (n : ℕ) (heads s s' : List ℕ) → n ≤ length s → Chained R n heads s → Grown s s'
    → Chained R n heads s'
chained-grown R n heads s s' h c g =
    record { firsts = c.firsts; nexts = λ i l. g.seconds i (omega arith) ∙ c.nexts i l }
