-- All lines joined: what the chains and the lines leave, seen from the forest before them; and two ways of lines, one
-- after the other.
use Rattle.std.specs.Prelude.{ℕ, List, length}
use Rattle.std.proofs.Common.{arith, sym, ◌∙◌, ap}
use Rattle.classes.specs.declared.Range.{Range}
use Rattle.classes.specs.Lines.{RangesFit, LinesJoined, ChainsMade, AllJoined}

pub all-joined : (R : ℕ → Range) (lines places : ℕ) (s heads s₀ s' : List ℕ) → RangesFit R (length s) lines places
    → ChainsMade R s heads s₀ → LinesJoined R lines s₀ s' → AllJoined R s s'
all-joined R lines places s heads s₀ s' fit made joined =
    let z = made.size in
    record {
      forest = joined.grown.forest;
      size = joined.grown.size ∙ z;
      grows =
          λ a b la lb e. joined.grown.grows a b (omega arith) (omega arith)
          (made.roots a la ∙ e ∙ sym (made.roots b lb));
      links = λ e f le lf o. joined.links e f (omega arith) (omega arith) (fit.lined e le) o;
      only =
          λ label h alike. joined.only label
          (λ i l. h i (omega arith) ∙ ap label (sym (made.roots i (omega arith))))
          (λ l k e f le lf on o. alike e f (omega arith) (omega arith) o);
    }
