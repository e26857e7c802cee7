-- The two calls leave how many items start and how many end in each column, and from these the sweep counts those that
-- hold it.
use Rattle.std.proofs.Common.{◌∙◌}
use Rattle.items.specs.DensityLaws.{sweepable, swept-densest}
use Rattle.items.proofs.density.greatest_density.Goals as goal

pub sweep-requires : goal.sweep-requires
sweep-requires c = sweepable c.requires c.count_columns.ensures c.count_columns-2.ensures

pub returns : goal.returns
returns c = (
  c.sweep.ensures ∙ swept-densest c.requires c.count_columns.ensures c.count_columns-2.ensures,
  c.count_columns.ensures,
  c.count_columns-2.ensures,
)
