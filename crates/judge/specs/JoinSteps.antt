-- The lines, joined one after the other: what the loop over them has done, and what each turn asks and leaves.
use Rattle.std.specs.Prelude.{ℕ, ◌+◌, ◌≤◌, ◌<◌, ◌≡◌, refl, List, Bool, length, get_or}
use Rattle.std.proofs.Common.{arith, add-one, ◌∙◌, subst}
use Rattle.classes.specs.Halves.{half}
use Rattle.classes.specs.Lines.{RangesFit, Chained, Entered, LinesJoined, AllJoined, ChainsMade}
use Rattle.classes.specs.Sweep.{Sweepable, Swept}
use Rattle.classes.specs.ChainLaws.{chained-grown}
use Rattle.classes.specs.LineLaws.{entered-sweepable, lines_none, lines_next}
use Rattle.classes.specs.JoinLaws.{all-joined}
use Rattle.lists.specs.Tables.{Blank}
use Rattle.judge.specs.LineSteps.{Case, ranges, ElementsIn, ChainReady, LineReady, LinesReady, JoinReady}

pub chain-ready : {case : Case} {across : Bool} {heads starts s : List ℕ}
    → LinesReady case across heads starts s → ChainReady case across heads s
chain-ready ready = record { elements = ready.elements; lined = ready.fits.lined; blank = ready.headed }

-- the fronts of two blank tables have a head for each line and a place for each start
pub lines-ready : {case : Case} {across : Bool} {lines places : ℕ} {heads starts s : List ℕ}
    → JoinReady case across lines places s → Blank lines heads → Blank places starts
    → LinesReady case across heads starts s
lines-ready ready h b =
    let f = ready.few in
    let e = h.places in
    let k = b.places in
    let z = ready.some in
    record {
      elements = ready.elements;
      fits = rw (e, k) ready.fits;
      headed = h.free;
      blank = b.free;
      some = omega arith;
      few = omega arith;
    }

-- the lines below `line` are joined in s, whose chains s₁ has, and no range is entered
pub record Joining (case : Case) (across : Bool) (heads starts₀ s₁ : List ℕ) (line : ℕ)
    (starts s : List ℕ) : Type 0 where
  pub elements : ElementsIn case s₁
  pub fits : RangesFit (ranges across case) (length s₁) (length heads) (length starts₀)
  pub chained : Chained (ranges across case) (length s₁) heads s₁
  pub few : (length heads < half) × (length starts₀ < half)
  pub real : (1 ≤ line) × (line ≤ length heads)
  pub size : length starts ≡ length starts₀
  pub blank : (a : ℕ) → get_or starts a 0 ≡ 0
  pub joined : LinesJoined (ranges across case) line s₁ s

module _ {case : Case} {across : Bool} {heads₀ starts₀ s₀ heads s₁ : List ℕ}
    (ready : LinesReady case across heads₀ starts₀ s₀) (lines : length heads ≡ length heads₀)
    (made : ChainsMade (ranges across case) s₀ heads s₁) where
  pub joining-none : Joining case across heads starts₀ s₁ 1 starts₀ s₁
  joining-none =
      let z = made.size in
      let f = ready.few in
      let k = ready.some in
      record {
        elements =
            record {
              count = z ∙ ready.elements.count;
              some = let e = ready.elements.some in omega arith;
              forest = made.forest;
            };
        fits = rw (z, lines) ready.fits;
        chained = rw z made.chained;
        few = omega arith;
        real = omega arith;
        size = refl;
        blank = ready.blank;
        joined = lines_none (ranges across case) s₁ made.forest;
      }

  pub joining-whole : {line : ℕ} {starts s : List ℕ} → Joining case across heads starts₀ s₁ line starts s
      → length heads ≤ line → AllJoined (ranges across case) s₀ s
  joining-whole {line} {starts} {s} h end =
      let r = h.real in
      let e : line ≡ length heads = omega arith in
      all-joined (ranges across case) (length heads) (length starts₀) s₀ heads s₁ s (rw lines ready.fits) made
      (subst (λ (k : ℕ). LinesJoined (ranges across case) k s₁ s) e h.joined)

module _ {case : Case} {across : Bool} {heads starts₀ s₁ : List ℕ} {line : ℕ}
    {starts s : List ℕ} (h : Joining case across heads starts₀ s₁ line starts s) (more : line < length heads)
  where
    -- what the next line asks, before it is entered and before it is swept
    pub line-ready : LineReady case across heads line starts s
    line-ready =
        let k = h.joined.grown.size in
        let q = h.size in
        let r = h.real in
        let f = h.few in
        record {
          elements =
              record {
                count = k ∙ h.elements.count;
                some = let e = h.elements.some in omega arith;
                forest = h.joined.grown.forest;
              };
          fits = rw (k, q) h.fits;
          chained =
              rw k (chained-grown (ranges across case) (length s₁) heads s₁ s (omega arith) h.chained
              h.joined.grown);
          real = omega arith;
          blank = h.blank;
          few = omega arith;
        }

    module _ {starts' s' : List ℕ} (entered : Entered (ranges across case) line 0 starts' s s')
        (size : length starts' ≡ length starts) where
      pub sweep-ready : Sweepable starts' s' × (length starts' < half)
      sweep-ready =
          let k = h.joined.grown.size in
          let e = h.elements.some in
          let q = h.size in
          let f = h.few in
          (entered-sweepable (ranges across case) line 0 starts' s s' entered (omega arith), omega arith)

      pub joining-next : {starts'' s'' : List ℕ} → length starts'' ≡ length starts' → Swept starts' s' starts'' s''
          → Joining case across heads starts₀ s₁ (line + 1) starts'' s''
      joining-next {starts''} {s''} e swept =
          let r = h.real in
          let q = h.size in
          record {
            elements = h.elements;
            fits = h.fits;
            chained = h.chained;
            few = h.few;
            real = omega arith;
            size = e ∙ size ∙ q;
            blank = swept.clear;
            joined =
                rw add-one (lines_next (ranges across case) line (length heads) (length starts₀) starts' s₁ s s'
                starts'' s'' h.fits (omega arith) (size ∙ q) h.joined entered swept);
          }
