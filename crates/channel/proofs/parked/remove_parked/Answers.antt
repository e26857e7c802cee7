-- The counts are those of both rows, counted from nothing, by which a number of the rows is left exactly if it is a
-- net's (`tops-left`, `bots-left`).
use Rattle.std.proofs.Common.{ℕ, List, arith, ◌∙◌, ap}
use Rattle.lists.specs.Lists.{overlay}
use Rattle.channel.specs.Channel.{rows}
use Rattle.channel.specs.Rows.{nets_of_row}
use Rattle.channel.specs.RowLaws.{zeros}
use Rattle.channel.proofs.RemoveLaws.{top_within, bot-within, tops-left, bots-left}
use Rattle.channel.proofs.parked.remove_parked.Goals as goal

pub keep_nets-requires : goal.keep_nets-requires
keep_nets-requires c =
    (top_within (rows c.rows.inside.top.now c.rows.inside.bot.now) c.rows.invariant, c.rows.invariant.narrow)

pub keep_nets-requires-2 : goal.keep_nets-requires-2
keep_nets-requires-2 c =
    (bot-within (rows c.rows.inside.top.now c.rows.inside.bot.now) c.rows.invariant, omega arith)

pub returns : goal.returns
unfolding zeros
returns c =
    let ch = rows c.rows.inside.top.now c.rows.inside.bot.now in
    rw (← c.rows.view_is) (record {
      on_top = c.keep_nets.ensures
          ∙ ap (λ (l : List ℕ). overlay l c.args.upper.now)
          (ap (λ (k : List ℕ). nets_of_row k ch.top) (rw (← c.rows.view_is) at c.count_rows.ensures) ∙ tops-left ch c.rows.invariant);
      on_bot = c.keep_nets-2.ensures
          ∙ ap (λ (l : List ℕ). overlay l c.args.lower.now)
          (ap (λ (k : List ℕ). nets_of_row k ch.bot) (rw (← c.rows.view_is) at c.count_rows.ensures) ∙ bots-left ch c.rows.invariant);
    })
