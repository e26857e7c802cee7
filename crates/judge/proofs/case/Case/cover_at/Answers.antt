-- The file has the word that is read, so the word's place does not wrap.
use native.Mathlib.Omega.{arith}
use Rattle.judge.proofs.FitLaws.{file-small}
use Rattle.judge.proofs.case.Case.cover_at.Goals as goal

pub overflow_mul-piece : goal.overflow_mul-piece
overflow_mul-piece c =
    let few = (file-small _ _ _ c.self.invariant.0).1 in
    let inside = rw (← c.self.view_is) at c.requires in
    omega arith

pub overflow_add-piece : goal.overflow_add-piece
overflow_add-piece c =
    let few = (file-small _ _ _ c.self.invariant.0).1 in
    let inside = rw (← c.self.view_is) at c.requires in
    omega arith

pub word_at-requires : goal.word_at-requires
word_at-requires c =
    let long = (file-small _ _ _ c.self.invariant.0).2 in
    let inside = rw (← c.self.view_is) at c.requires in
    omega arith
