use Rattle.std.proofs.Common.{ℕ, ◌≡◌, ◌+◌, ◌-◌, ◌%◌, ◌||◌, List, refl, sym, ◌∙◌, ap, ap₂, arith}
use Rattle.lists.specs.Lists.{any_of, from}
use Rattle.lists.specs.Updates.{any_next}
use Rattle.draft.specs.Marks.{without_mark, marked, is_here}
use Rattle.draft.specs.CodeLaws.{changed-none, changed-turn, marked-before, mark-read, mark-changed}
use Rattle.draft.proofs.columns.take_out.Goals as goal

pub loop-c-init : goal.loop-c-init
unfolding any_of from
loop-c-init c = (refl, sym (changed-none _ _ _ _ _ (omega arith)))

pub loop-c-preserved : goal.loop-c-preserved
loop-c-preserved c =
    let l = c.loop-c in
    let n = c.args.net.0 in
    let words = c.args.words.now in
    let e : l.c - 1 + 1 ≡ l.c = omega arith in
    let f : l.c + 1 - 1 ≡ l.c = omega arith in
    let off = c.take_off-found.ensures in
    let mark : marked l.words l.c n ≡ marked words l.c n =
    ap (λ (ws : List ℕ). marked ws l.c n) l.invariant.1
    ∙ (rw e at (marked-before (without_mark (n % 64)) n 1 words (l.c - 1) c.requires (omega arith) (omega arith))) in (
      rw f (ap₂ ◌||◌ l.invariant.0 (off.0 ∙ (mark-read l.words n l.c c.of.ensures ∙ mark))
          ∙ sym (rw e at (any_next (λ k. marked words k n) (l.c - 1)))),
      rw f (off.1 ∙ (mark-changed without_mark l.words n l.c c.of.ensures ∙ (rw e at (changed-turn (without_mark (n % 64)) n 1 words (l.c - 1) c.requires
          (omega arith) (omega arith) l.invariant.1 (omega arith))))),
    )

pub returns : goal.returns
unfolding is_here
returns c =
    let end : c.loop-c.c - 1 ≡ 512 = omega arith in (rw end at c.loop-c.invariant.0, rw end at c.loop-c.invariant.1)
