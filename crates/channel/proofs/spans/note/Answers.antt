-- By the arm taken, the first column is stored or kept, as `first_noted` does by the same test.
use Rattle.std.proofs.Common.{refl, get_or, eq-eqb, ne_eqb}
use Rattle.grid.specs.Pieces.{column}
use Rattle.grid.specs.Numbers.{column-at, column-set}
use Rattle.channel.specs.Spans.{first_noted}
use Rattle.channel.proofs.spans.note.Goals as goal
use Rattle.channel.proofs.spans.note.Goals.{then-first-i-eq0, else-first-i-eq0}

pub returns : goal.returns
unfolding first_noted
returns c =
    let first = c.args.first.now in
    let at = column-at first c.args.n.0 in
    let old = (get_or first c.args.n.0 (column 0)).0 in (
      elim c.if-first-i-eq0.branch [
        | then-first-i-eq0 w ↦ rw (at, eq-eqb old 0 w.if-first-i-eq0.true, w.first-is) (column-set first c.args.n.0 c.args.c)
        | else-first-i-eq0 w ↦ rw (at, ne_eqb old 0 w.if-first-i-eq0.false, w.first-is) refl
      ],
      column-set c.args.last.now c.args.n.0 c.args.c,
    )
