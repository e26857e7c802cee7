-- `panel::join_checked` meets its contract, by the laws of AnswerLaws: too many columns are refused first, then a
-- raised number over 511, and else both rows are stored, the second list's behind the first's.
use Prim.Native.Nat.{◌≤◌}
use native.Mathlib.Omega.{arith}
use borrow.Author.Rules.{rules}
use Rattle.panel.proofs.JoinLaws.{low_rows, highest-low}
use Rattle.panel.proofs.AnswerLaws.{checked-wide, checked-full, checked-stored}
use Rattle.panel.proofs.join_checked.Goals as goal

pub returns-then-width-gt-WIDEST : goal.returns-then-width-gt-WIDEST
returns-then-width-gt-WIDEST c =
    rw (← c.first.view_is, ← c.second.view_is)
    (checked-wide _ _ c.first.invariant c.second.invariant _ _ c.if-width-gt-WIDEST.true)

pub returns-then-lowest-le-HIGHEST_NET : goal.returns-then-lowest-le-HIGHEST_NET
returns-then-lowest-le-HIGHEST_NET c =
    rw (← c.first.view_is, ← c.second.view_is) (checked-full _ _ c.first.invariant c.second.invariant c.if-width-gt-WIDEST.false _ _ c.highest_of-highest.ensures
    c.lowest_of-lowest.ensures c.if-lowest-le-HIGHEST_NET.true)

pub put_row-requires : goal.put_row-requires
put_row-requires c =
    let high = highest-low c.first.invariant in
    ((low_rows c.first.invariant).0, (low_rows c.second.invariant).0, omega (arith, c.highest_of-highest.ensures), omega (arith, c.if-width-gt-WIDEST.false, c.requires.0))

pub put_row-requires-2 : goal.put_row-requires-2
put_row-requires-2 c =
    let high = highest-low c.first.invariant in (
      (low_rows c.first.invariant).1,
      (low_rows c.second.invariant).1,
      omega (arith, c.highest_of-highest.ensures),
      omega (arith, c.if-width-gt-WIDEST.false, c.requires.1, c.first.invariant.even, c.second.invariant.even),
    )

pub returns : goal.returns
returns c =
    rw (← c.first.view_is, ← c.second.view_is) (checked-stored _ _ c.first.invariant c.second.invariant c.if-width-gt-WIDEST.false c.highest_of-highest.ensures
    c.lowest_of-lowest.ensures c.if-lowest-le-HIGHEST_NET.false c.put_row.ensures
    c.put_row-2.ensures)

pub overflow_sub-highest : goal.overflow_sub-highest
overflow_sub-highest c = let high = highest-low c.first.invariant in omega (arith, c.highest_of-highest.ensures)

pub overflow_add-result-then-lowest-le-HIGHEST_NET : goal.overflow_add-result-then-lowest-le-HIGHEST_NET
overflow_add-result-then-lowest-le-HIGHEST_NET c =
    let high = highest-low c.first.invariant in
    let h : c.highest_of-highest.result ≤ 511 = omega (arith, c.highest_of-highest.ensures) in
    let l = c.if-lowest-le-HIGHEST_NET.true in
    search rules
