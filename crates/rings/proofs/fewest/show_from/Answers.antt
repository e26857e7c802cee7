-- By the distances found, the columns kept lead the walk home (`home-confined`), and the pairs stored are the homeward
-- ones (`home-stored`).
use Rattle.channel.specs.Channel.{rows}
use Rattle.channel.specs.Constraints.{below}
use Rattle.rings.proofs.HomewardLaws.{home-confined, home-stored}
use Rattle.rings.proofs.fewest.show_from.Goals as goal

pub store_pairs-requires : goal.store_pairs-requires
store_pairs-requires c =
    let p = rw (← c.nets.view_is) at c.requires in
    let kept = rw (← c.nets.view_is) at c.home_columns-columns.ensures in
    let searched = c.search.ensures (below (rows c.nets.inside.top.now c.nets.inside.bot.now)) p.stepped in
    (home-confined p searched kept, p.few, p.room)

pub returns : goal.returns
returns c =
    let p = rw (← c.nets.view_is) at c.requires in
    let kept = rw (← c.nets.view_is) at c.home_columns-columns.ensures in
    let searched = c.search.ensures (below (rows c.nets.inside.top.now c.nets.inside.bot.now)) p.stepped in
    rw (← c.nets.view_is) (rw (home-stored p searched kept) at c.store_pairs.ensures)
