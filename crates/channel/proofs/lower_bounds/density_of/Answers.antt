-- The nets with spans are items with spans (`net-items`), whose density is the channel's (`items-density`). Of the counts
-- as many are lent as the channel has columns, and one.
use Rattle.channel.specs.Channel.{rows}
use Rattle.channel.proofs.SpanningLaws.{no_counts, net-items, items-density}
use Rattle.channel.proofs.lower_bounds.density_of.Goals as goal

pub greatest_density-requires : goal.greatest_density-requires
unfolding no_counts
greatest_density-requires c =
    let p = c.columns.invariant in
    net-items (rows c.columns.inside.top.now c.columns.inside.bot.now) p.only.escapes (rw (← c.columns.view_is) at c.requires)
    p.on_first p.on_last

pub returns : goal.returns
unfolding no_counts
returns c =
    let p = c.columns.invariant in
    rw (← c.columns.view_is) (items-density (rows c.columns.inside.top.now c.columns.inside.bot.now) p.only.escapes
    (rw (← c.columns.view_is) at c.requires) p.on_first p.on_last c.greatest_density.ensures.0)
