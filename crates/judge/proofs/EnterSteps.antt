-- The elements of a line are entered one after the other, as its chain has them.
use Rattle.std.specs.Prelude.{ℕ, suc, ◌-◌, ◌≤◌, ◌<◌, ◌≡◌, List, Bool, length, get_or}
use Rattle.std.proofs.Common.{arith, sym, ◌∙◌, ap, length-set}
use Rattle.classes.specs.declared.Range.{Range}
use Rattle.classes.specs.Halves.{half}
use Rattle.classes.specs.Forest.{second_of}
use Rattle.classes.specs.Sweep.{Sweepable, Enters}
use Rattle.classes.specs.Lines.{last_on, Entered}
use Rattle.classes.specs.ChainLaws.{last_on_lem, none_between, last-below}
use Rattle.classes.specs.LineLaws.{entered-none, entered-next, entered-skip, entered-sweepable}
use Rattle.judge.specs.LineSteps.{Case, elements, ranges, LineReady}

-- line l's elements from `after` on are entered, and the one before it, if there is one, is of the line too
pub record Entering (R : ℕ → Range) (l after : ℕ) (starts₀ starts s₀ s : List ℕ) : Type 0 where
  pub size : length starts ≡ length starts₀
  pub entered : Entered R l after starts s₀ s
  pub here : (e : ℕ) → after ≡ suc e → ((R e).line ≡ l) × (e < length s₀)

-- one element more is entered, which is one of the forest's, and the chain leads down
pub record EntersNext (R : ℕ → Range) (l after after' : ℕ) (starts₀ starts' s₀ s' : List ℕ) : Type 0 where
  pub entering : Entering R l after' starts₀ starts' s₀ s'
  pub inside : after - 1 < length s'
  pub less : after' < after

-- the chain goes on with the last element of the line before x
at_last : (R : ℕ → Range) (l x after : ℕ) (starts₀ starts s₀ s : List ℕ) → x ≤ length s₀
    → length starts ≡ length starts₀ → Entered R l x starts s₀ s → after ≡ last_on R l x
    → Entering R l after starts₀ starts s₀ s
at_last R l x after starts₀ starts s₀ s h size t q =
    record {
      size = size;
      entered = entered-skip R l x after starts s₀ s t (λ e low high on. none_between R l x e (omega arith) high on);
      here = λ e p. let k = last_on_lem R l x e (sym q ∙ p) in (k.0, omega (arith, k.1));
    }

module _ {case : Case} {across : Bool} {heads : List ℕ} {l : ℕ} {starts₀ s₀ : List ℕ}
    (ready : LineReady case across heads l starts₀ s₀) where
  -- before the first turn: the chain's head
  pub entering-none : {after : ℕ} → after ≡ get_or heads l 0
      → Entering (ranges across case) l after starts₀ starts₀ s₀ s₀
  entering-none {after} q =
      let R = ranges across case in
      at_last R l (length s₀) after starts₀ starts₀ s₀ s₀ (omega arith) (omega arith)
      (entered-none R l starts₀ s₀ ready.elements.forest ready.blank)
      (q ∙ ready.chained.firsts l ready.real.1)

  module _ {starts s : List ℕ} {after : ℕ} (h : Entering (ranges across case) l after starts₀ starts s₀ s)
      (some : 0 < after) where
    -- the element before `after`
    on_line : ((ranges across case (after - 1)).line ≡ l) × (after - 1 < length s₀)
    on_line = h.here (after - 1) (omega arith)

    -- what `range_of` and `enter` ask of it
    pub entering-place : after - 1 < elements case
    entering-place = let c = ready.elements.count in omega (arith, on_line)

    pub entering-ready : {r : Range} → r ≡ ranges across case (after - 1)
        → Sweepable starts s
        × (after - 1 < length s)
        × (r.start < length starts)
        × (length starts < half)
        × (r.past < half)
    entering-ready q =
        let i = on_line.1 in
        let z = h.entered.grown.size in
        let w = ready.fits.wide (after - 1) i in
        let p = ready.fits.placed (after - 1) i in
        let f = ready.few in
        let a = ap (λ (x : Range). x.start) q in
        let b = ap (λ (x : Range). x.past) q in
        let k = h.size in (
          entered-sweepable (ranges across case) l after starts s₀ s h.entered (omega arith),
          omega arith,
          omega arith,
          omega arith,
          omega arith,
        )

    -- and after a turn
    pub entering-next : {r : Range} {starts' s' : List ℕ} {after' : ℕ} → r ≡ ranges across case (after - 1)
        → Enters (after - 1) r.start r.past starts s starts' s' → after' ≡ second_of s' (after - 1)
        → EntersNext (ranges across case) l after after' starts₀ starts' s₀ s'
    entering-next {r} {starts'} {s'} {after'} q e n =
        let low = last-below R l i in
        let same = entered.grown.size in
        record {
          entering = at_last R l i after' starts₀ starts' s₀ s' (omega (arith, on_line)) size entered next;
          inside = omega (arith, on_line);
          less = omega (arith, next);
        }
      where
        R : ℕ → Range
        R = ranges across case

        i : ℕ
        i = after - 1

        size : length starts' ≡ length starts₀
        size = ap length e.stored ∙ (simp length-set) ∙ h.size

        there : Entered R l (suc i) starts s₀ s
        there = let up : after ≡ suc i = omega arith in rw up at h.entered

        entered : Entered R l i starts' s₀ s'
        entered =
            entered-next R l i (length heads) (length starts₀) starts s₀ s starts' s' ready.fits h.size there
            on_line.1 ready.real.0 on_line.0 (rw q at e)

        next : after' ≡ last_on R l i
        next =
            n ∙ entered.grown.seconds i on_line.1 ∙ ready.chained.nexts i on_line.1
            ∙ ap (λ (k : ℕ). last_on R k i) on_line.0
