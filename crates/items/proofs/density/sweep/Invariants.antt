-- `carried` items go on past the column before c, and `most` is the greatest number over a column before c.
use Rattle.items.specs.DensityLaws.{Swept}
use Rattle.items.proofs.density.sweep.Given as goal

abbrev pub invariant-loop-c : goal.invariant-loop-c
invariant-loop-c l = Swept l.starts l.ends l.c l.carried l.most
