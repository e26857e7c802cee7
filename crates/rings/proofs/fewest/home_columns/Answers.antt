-- A turn is `past_more` where the column is stored and `past_same` where it is not; at 0, `past_all` says that these are
-- the lowest of all.
use Rattle.std.proofs.Common.{ℕ, List, ◌+◌, ◌-◌, ◌≡◌, ap, ◌∙◌, arith, get_or, set, eqb, Bool}
use mathlib.Core.Bool.{◌&&◌, not}
use Rattle.channel.specs.Channel.{rows}
use Rattle.channel.specs.Spans.{each512}
use Rattle.channel.proofs.EscapeLaws.{top-low, bot-low}
use Rattle.leftedge.specs.DropLaws.{lowest_past, steps_wanted, past-none, past_all, past_more, past_same}
use Rattle.rings.specs.Search.{nearer}
use Rattle.rings.proofs.fewest.home_columns.Goals as goal

-- the code's test of the column, by what `nearer` answers
test : (far : List ℕ) (home x y : ℕ) (b : Bool) → b ≡ nearer far home x y
    → steps_wanted (nearer far home) x y ≡ ((not (eqb x 0) && not (eqb y 0)) && not (eqb x y)) && b
test far home x y b e = rw e

pub loop-i-init : goal.loop-i-init
loop-i-init c = past-none (rows c.nets.inside.top.now c.nets.inside.bot.now) (nearer c.args.far.now c.args.home)

pub nearer-requires : goal.nearer-requires
nearer-requires c =
    let ch = rows c.nets.inside.top.now c.nets.inside.bot.now in
    let esc = c.nets.invariant.escapes in
    (top-low ch (c.loop-i.i - 1) esc, bot-low ch (c.loop-i.i - 1) esc)

pub bounds-columns-a : goal.bounds-columns-a
bounds-columns-a c = omega (arith, top-low (rows c.nets.inside.top.now c.nets.inside.bot.now) (c.loop-i.i - 1) c.nets.invariant.escapes)

pub loop-i-preserved-then-a-b : goal.loop-i-preserved-then-a-b
loop-i-preserved-then-a-b c =
    let i = c.loop-i.i in
    let ch = rows c.nets.inside.top.now c.nets.inside.bot.now in
    ap (λ (l : List ℕ). set l (get_or c.nets.inside.top.now (i - 1) 0) (i - 1 + 1)) c.loop-i.invariant
    ∙ past_more ch (nearer c.args.far.now c.args.home) c.nets.invariant i (i - 1) (omega arith) (omega arith)
    (omega (arith, top-low ch (i - 1) c.nets.invariant.escapes))
    (test c.args.far.now c.args.home (get_or c.nets.inside.top.now (i - 1) 0) (get_or c.nets.inside.bot.now (i - 1) 0) _
    c.nearer.ensures ∙ c.if-a-b.true)

pub loop-i-preserved : goal.loop-i-preserved
loop-i-preserved c =
    let i = c.loop-i.i in
    let ch = rows c.nets.inside.top.now c.nets.inside.bot.now in
    c.loop-i.invariant
    ∙ past_same ch (nearer c.args.far.now c.args.home) i (i - 1) (omega arith) (omega arith)
    (test c.args.far.now c.args.home (get_or c.nets.inside.top.now (i - 1) 0) (get_or c.nets.inside.bot.now (i - 1) 0) _
    c.nearer.ensures ∙ c.if-a-b.false)

pub returns : goal.returns
returns c =
    let ch = rows c.nets.inside.top.now c.nets.inside.bot.now in
    let wanted = nearer c.args.far.now c.args.home in
    let end : c.loop-i.i ≡ 0 = omega arith in
    rw (← c.nets.view_is)
    (c.loop-i.invariant ∙ (ap (λ (i : ℕ). each512 (lowest_past ch wanted i)) end ∙ past_all ch wanted))
