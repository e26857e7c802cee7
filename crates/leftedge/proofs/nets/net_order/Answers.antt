-- The nets with spans are listed at the front, and sorting that part makes the order of the scan (`net-sorted`), which is
-- as long.
use Rattle.std.proofs.Common.{◌≡◌, sym, ◌∙◌, arith}
use Rattle.lists.specs.Overlays.{front_of, front-again}
use Rattle.channel.specs.Channel.{rows, spanning}
use Rattle.channel.proofs.SpanningLaws.{no_counts, net-sortable, net-sorted}
use Rattle.leftedge.specs.Nets.{fill_order}
use Rattle.leftedge.proofs.NetLaws.{order-sorted, order-length}
use Rattle.leftedge.proofs.nets.net_order.Goals as goal

pub sort_items-requires : goal.sort_items-requires
unfolding no_counts
sort_items-requires c =
    let p = c.columns.invariant in
    let e = rw (← c.columns.view_is) at c.list_spanning-count.ensures in
    net-sortable (rows c.columns.inside.top.now c.columns.inside.bot.now) p.only.escapes (front_of _ _ e.0 e.1) p.on_first p.on_last (omega arith)

pub returns : goal.returns
unfolding no_counts
returns c =
    let ch = rows c.columns.inside.top.now c.columns.inside.bot.now in
    let p = c.columns.invariant in
    let found = rw (← c.columns.view_is) at c.list_spanning-count.ensures in
    let long = order-length ch p.only.escapes in
    let sorted : c.sort_items.new.items ≡ fill_order ch =
    c.sort_items.ensures.0
    ∙ (net-sorted ch p.only.escapes (front_of _ _ found.0 found.1) p.on_first p.on_last ∙ sym (order-sorted ch)) in
    rw (← c.columns.view_is) (
      found.0 ∙ sym long,
      front-again (spanning ch) _ c.args.order.now sorted found.0 found.1 long,
    )
