use Rattle.std.proofs.Common.{◌≡◌, ◌+◌, ◌-◌, refl, arith}
use Rattle.lists.specs.Lists.{from, greatest}
use Rattle.lists.specs.Updates.{greatest-next}
use Rattle.draft.specs.Marks.{count_of, greatest_of}
use Rattle.draft.specs.CountLaws.{count-inside}
use Rattle.draft.proofs.columns.greatest_of.Goals as goal

pub loop-c-init : goal.loop-c-init
unfolding greatest from
loop-c-init c = (refl, omega arith)

pub loop-c-preserved : goal.loop-c-preserved
loop-c-preserved c =
    let l = c.loop-c in
    let e : l.c - 1 + 1 ≡ l.c = omega arith in
    let f : l.c + 1 - 1 ≡ l.c = omega arith in
    let words = c.args.words.now in
    let here = c.marks_of.ensures in
    let inside = count-inside words l.c (omega arith, omega arith) in
    let next = rw e at (greatest-next (count_of words) (l.c - 1)) in
    (rw f (omega (arith, l.invariant.0, here.0, inside, next)), omega (arith, l.invariant.1, here.1))

pub returns : goal.returns
unfolding greatest_of
returns c =
    let end : c.loop-c.c - 1 ≡ 512 = omega arith in (rw end at c.loop-c.invariant.0, c.loop-c.invariant.1)
