-- At the end the columns of all nets are copied (`copied-due`).
use Rattle.std.proofs.Common.{ℕ, ◌≤◌, ◌<◌, ◌≡◌, List, arith, get_or}
use Rattle.lists.specs.Arrays.{numbered-at}
use Rattle.lists.specs.Ends.{at_next}
use Rattle.channel.specs.Channel.{Channel, width, widest, rows, first_column, last_column}
use Rattle.channel.specs.Answers.{Escapes}
use Rattle.channel.proofs.Laws.{columns-inside}
use Rattle.channel.specs.Spans.{firsts, lasts}
use Rattle.channel.proofs.EscapeLaws.{top-low, bot-low}
use Rattle.leftedge.specs.ColumnLaws.{copied_none, copied_next, copied-due}
use Rattle.leftedge.proofs.columns.copy_columns.Goals as goal

module _ (ch : Channel) (esc : Escapes ch) (first last : List ℕ) (f : first ≡ firsts ch) (l : last ≡ lasts ch) where
  -- the tables have the columns of a net
  firsts_at : (n : ℕ) → n < 512 → get_or first n 0 ≡ first_column ch n
  firsts_at = numbered-at (first_column ch) 512 f

  lasts-at : (n : ℕ) → n < 512 → get_or last n 0 ≡ last_column ch n
  lasts-at = numbered-at (last_column ch) 512 l

  -- and none passes 512
  narrow : (n : ℕ) → n < 512 → (get_or first n 0 ≤ widest) × (get_or last n 0 ≤ widest)
  narrow n low =
      let inside = columns-inside ch n in
      let w = esc.narrow in
      let a = firsts_at n low in
      let b = lasts-at n low in (omega arith, omega arith)

low_top : (ch : Channel) (esc : Escapes ch) (i : ℕ) → get_or ch.top i 0 < 512
low_top ch esc i = let h = top-low ch i esc in omega arith

low_bot : (ch : Channel) (esc : Escapes ch) (i : ℕ) → get_or ch.bot i 0 < 512
low_bot ch esc i = let h = bot-low ch i esc in omega arith

pub loop-i-init : goal.loop-i-init
loop-i-init c = (copied_none _ _ c.requires.0, copied_none _ _ c.requires.1)

pub copy_net-requires : goal.copy_net-requires
copy_net-requires c =
    let ch = rows c.columns.inside.top.now c.columns.inside.bot.now in
    let esc = c.columns.invariant.only.escapes in
    let n = narrow ch esc _ _ c.columns.invariant.on_first c.columns.invariant.on_last _ (low_top ch esc c.loop-i.i) in (top-low ch c.loop-i.i esc, n.0, n.1)

pub copy_net-requires-in-loop-i : goal.copy_net-requires-in-loop-i
copy_net-requires-in-loop-i c =
    let ch = rows c.columns.inside.top.now c.columns.inside.bot.now in
    let esc = c.columns.invariant.only.escapes in
    let n = narrow ch esc _ _ c.columns.invariant.on_first c.columns.invariant.on_last _ (low_bot ch esc c.loop-i.i) in (bot-low ch c.loop-i.i esc, n.0, n.1)

pub loop-i-preserved : goal.loop-i-preserved
loop-i-preserved c =
    let ch = rows c.columns.inside.top.now c.columns.inside.bot.now in
    let p = c.columns.invariant in
    let esc = p.only.escapes in
    let l = c.loop-i in
    let one = c.copy_net.ensures in
    let two = c.copy_net-in-loop-i.ensures in
    let t = low_top ch esc l.i in
    let b = low_bot ch esc l.i in
    let top = at_next ch.top l.i in
    let bot = at_next ch.bot l.i in (
      rw (two.0, one.0, firsts_at ch esc _ _ p.on_first p.on_last _ t, firsts_at ch esc _ _ p.on_first p.on_last _ b)
          (copied_next (first_column ch) l.i l.invariant.0 _ _ t b top bot),
      rw (two.1, one.1, lasts-at ch esc _ _ p.on_first p.on_last _ t, lasts-at ch esc _ _ p.on_first p.on_last _ b)
          (copied_next (last_column ch) l.i l.invariant.1 _ _ t b top bot),
    )

pub returns : goal.returns
returns c =
    let l = c.loop-i in
    let ch = rows c.columns.inside.top.now c.columns.inside.bot.now in
    let all : l.i ≡ width ch = omega arith in
    rw (← c.columns.view_is)
    (copied-due ch c.columns.invariant.only.escapes.even (rw (← all) l.invariant.0) (rw (← all) l.invariant.1))
