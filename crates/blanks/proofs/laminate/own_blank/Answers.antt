use Rattle.std.proofs.Common.{refl, sym, arith}
use mathlib.Core.Logic.{inl, inr}
use Rattle.std.proofs.lemmas.Bool.Decides.{nat_tests}
use Rattle.blanks.specs.Promise.{no-count}
use Rattle.blanks.specs.TableLaws.{found-bad, found_none}
use Rattle.blanks.proofs.OwnLaws.{over, bad, done, searched-done}
use Rattle.blanks.proofs.laminate.own_blank.Goals as goal
use Rattle.blanks.proofs.laminate.own_blank.Goals.{then-is_empty-via-then-is_empty, then-is_empty-via-else-is_empty+then-table-gt-MOST_ENTRIES}

pub returns-then-tracks-gt-MOST_TRACKS : goal.returns-then-tracks-gt-MOST_TRACKS
returns-then-tracks-gt-MOST_TRACKS c = done _ _ (over c.if-tracks-gt-MOST_TRACKS.true)

pub returns-then-is_empty : goal.returns-then-is_empty
returns-then-is_empty c =
    done _ _ (bad (omega arith) (no-count (elim c.then-is_empty.branch [
      | then-is_empty-via-then-is_empty w ↦ inl (grind (arith, nat_tests))
      | then-is_empty-via-else-is_empty+then-table-gt-MOST_ENTRIES w ↦ inr (omega arith)
    ]) refl))

pub returns-in-Some : goal.returns-in-Some
returns-in-Some c = done _ _ (bad (omega arith) (found-bad _ (grind (arith, nat_tests), omega arith) (sym c.in-Some.ensures)))

pub returns : goal.returns
returns c =
    rw (c.ok_or.ensures.value, c.first_that_holds.ensures)
    (searched-done _ _ (omega arith) (found_none _ (grind (arith, nat_tests), omega arith) (sym c.in_default.ensures)))
