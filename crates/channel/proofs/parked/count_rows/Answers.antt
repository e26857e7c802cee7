-- Counted from nothing, no number is counted more often than a row has columns when the second row begins.
use Rattle.std.proofs.Common.{ℕ, ◌<◌, ◌≤◌, ◌≡◌, List, get_or, arith, sym, ◌∙◌, ap, subst}
use Rattle.lists.specs.Counts.{tally}
use Rattle.channel.specs.Channel.{rows}
use Rattle.channel.specs.RowLaws.{zeros, zeros_within, counts-within}
use Rattle.channel.proofs.RemoveLaws.{top_within, bot-within}
use Rattle.channel.proofs.parked.count_rows.Goals as goal

none-counted : {counts : List ℕ} → counts ≡ zeros → (n : ℕ) → n < 512 → get_or counts n 0 ≤ 512
none-counted e n h = subst (λ (k : List ℕ). get_or k n 0 ≤ 512) (sym e) (zeros_within n h)

pub count_pins-requires : goal.count_pins-requires
unfolding zeros
count_pins-requires c =
    (top_within (rows c.rows.inside.top.now c.rows.inside.bot.now) c.rows.invariant, c.rows.invariant.narrow, none-counted c.requires)

pub count_pins-requires-2 : goal.count_pins-requires-2
unfolding zeros
count_pins-requires-2 c =
    let esc = c.rows.invariant in (
      bot-within (rows c.rows.inside.top.now c.rows.inside.bot.now) esc,
      omega (arith, esc.narrow, esc.even),
      λ n h.
          subst (λ (k : List ℕ). get_or k n 0 ≤ 512)
          (sym (c.count_pins.ensures ∙ ap (tally c.rows.inside.top.now) c.requires))
          (let w = counts-within _ (top_within (rows c.rows.inside.top.now c.rows.inside.bot.now) esc) n h in
          let t = esc.narrow in omega arith),
    )
