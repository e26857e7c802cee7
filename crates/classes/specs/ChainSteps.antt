-- The chains of the first elements, as they are made one by one.
use Rattle.std.specs.Prelude.{ℕ, ◌+◌, ◌≤◌, ◌<◌, ◌≡◌, refl, List, length, get_or, set}
use Rattle.std.proofs.Common.{arith, ◌∙◌, ap, length-set}
use Rattle.classes.specs.declared.Range.{Range}
use Rattle.classes.specs.Halves.{half}
use Rattle.classes.specs.Forest.{Forest, root_of, noted}
use Rattle.classes.specs.Lines.{Chained, ChainsMade}
use Rattle.classes.specs.ChainLaws.{chained-none, chained-next, last-below}
use Rattle.classes.specs.ChainLaws.{noted-size, noted-forest, noted-roots}

-- the first i elements are in chains, and the classes are as they were
pub record ChainedTo (R : ℕ → Range) (heads₀ s₀ : List ℕ) (i : ℕ) (heads s : List ℕ) : Type 0 where
  pub inside : i ≤ length s₀
  pub lines : length heads ≡ length heads₀
  pub size : length s ≡ length s₀
  pub forest : Forest s
  pub roots : (j : ℕ) → j < length s₀ → root_of s j ≡ root_of s₀ j
  pub chained : Chained R i heads s

pub chained-to-none : (R : ℕ → Range) (heads s : List ℕ) → Forest s → ((l : ℕ) → get_or heads l 0 ≡ 0)
    → ChainedTo R heads s 0 heads s
chained-to-none R heads s f h =
    record {
      inside = omega arith;
      lines = refl;
      size = refl;
      forest = f;
      roots = λ j l. refl;
      chained = chained-none R heads s h;
    }

module _ (R : ℕ → Range) (heads₀ s₀ : List ℕ) (i : ℕ) (heads s : List ℕ) (c : ChainedTo R heads₀ s₀ i heads s)
    (more : i < length s₀) (lined : (R i).line < length heads₀) (r : Range) (here : r ≡ R i) where
  -- the next element can be put in front of its line's chain
  pub push-ready : (r.line < length heads) × (i < length s) × (i < half) × (get_or heads r.line 0 < half)
  push-ready =
      let z = c.lines in
      let k = c.size in
      let f = c.forest.small in
      let h = c.chained.firsts (R i).line (omega arith) in
      let b = last-below R (R i).line i in
      rw here (omega arith)

  pub chained-to-next : (heads' s' : List ℕ) → heads' ≡ set heads r.line (i + 1)
      → s' ≡ noted s i (get_or heads r.line 0) → ChainedTo R heads₀ s₀ (i + 1) heads' s'
  chained-to-next heads' s' eh es =
      let z = c.lines in
      let k = c.size in
      let w = get_or heads r.line 0 in
      let q : i < length s = omega arith in
      record {
        inside = omega arith;
        lines = ap length eh ∙ length-set heads r.line (i + 1) ∙ z;
        size = ap length es ∙ noted-size s i w ∙ k;
        forest = rw es (noted-forest s i w q c.forest);
        roots = λ j l. rw es (noted-roots s i w q c.forest j (omega arith) ∙ c.roots j l);
        chained =
            chained-next R i heads s heads' s' c.chained (omega arith) q (rw here at eh) (rw here at es);
      }

pub chained-to-whole : {R : ℕ → Range} {heads₀ s₀ heads s : List ℕ} {i : ℕ} → ChainedTo R heads₀ s₀ i heads s
    → length s₀ ≤ i → ChainsMade R s₀ heads s
chained-to-whole {R} {heads₀} {s₀} {heads} {s} {i} c h =
    let a = c.inside in
    let e : i ≡ length s₀ = omega arith in
    record { chained = rw e at c.chained; forest = c.forest; size = c.size; roots = c.roots }
