-- The counts are those of both rows, counted from nothing, with none for 0, by which some pin is parked exactly if a
-- number of the rows is counted just once (`parked-told`).
use Rattle.std.proofs.Common.{ℕ, ◌≡◌, List, set, sym, ◌∙◌, ap, Bool}
use mathlib.Core.Bool.{◌||◌}
use Rattle.lists.specs.Lists.{any_of}
use Rattle.channel.specs.Channel.{Channel, rows}
use Rattle.channel.specs.Answers.{Escapes}
use Rattle.channel.specs.Rows.{once}
use Rattle.channel.specs.RowLaws.{zeros}
use Rattle.channel.proofs.RemoveLaws.{top_within, bot-within, counted}
use Rattle.channel.proofs.OnceLaws.{pins, parked-told}
use Rattle.channel.proofs.parked.has_parked.Goals as goal

-- whether a number of a row is parked, by the counts that are left
told : (ch : Channel) (esc : Escapes ch) (row counts : List ℕ) → counts ≡ counted ch esc
    → any_of (once (set counts 0 0)) row ≡ any_of (once (pins ch esc)) row
told ch esc row counts e = ap (λ (l : List ℕ). any_of (once (set l 0 0)) row) e

pub any_once-requires : goal.any_once-requires
any_once-requires c = top_within (rows c.rows.inside.top.now c.rows.inside.bot.now) c.rows.invariant

pub any_once-requires-else-any_once : goal.any_once-requires-else-any_once
any_once-requires-else-any_once c = bot-within (rows c.rows.inside.top.now c.rows.inside.bot.now) c.rows.invariant

pub returns-then-any_once : goal.returns-then-any_once
unfolding zeros
returns-then-any_once c =
    let ch = rows c.rows.inside.top.now c.rows.inside.bot.now in
    let found = sym (told ch c.rows.invariant ch.top _ (rw (← c.rows.view_is) at c.count_rows.ensures)) ∙ (sym c.any_once.ensures ∙ c.if-any_once.true) in
    rw (← c.rows.view_is) (c.if-any_once.true
    ∙ (sym (ap (λ (b : Bool). b || any_of (once (pins ch c.rows.invariant)) ch.bot) found) ∙ parked-told ch c.rows.invariant))

pub returns-else-any_once : goal.returns-else-any_once
unfolding zeros
returns-else-any_once c =
    let ch = rows c.rows.inside.top.now c.rows.inside.bot.now in
    let none = sym (told ch c.rows.invariant ch.top _ (rw (← c.rows.view_is) at c.count_rows.ensures)) ∙ (sym c.any_once.ensures ∙ c.if-any_once.false) in
    rw (← c.rows.view_is) (c.any_once-else-any_once.ensures ∙ (told ch c.rows.invariant ch.bot _ (rw (← c.rows.view_is) at c.count_rows.ensures)
    ∙ (sym (ap (λ (b : Bool). b || any_of (once (pins ch c.rows.invariant)) ch.bot) none) ∙ parked-told ch c.rows.invariant)))
