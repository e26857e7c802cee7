-- A turn is `past_more` where the column is stored and `past_same` where it is not; at 0, `past_all` says that these are
-- the lowest of all.
use Rattle.std.proofs.Common.{ℕ, List, ◌+◌, ◌-◌, ◌≡◌, ap, ◌∙◌, arith, get_or, set}
use Rattle.grid.specs.Numbers.{track_numbers, track-at}
use Rattle.channel.specs.Channel.{rows}
use Rattle.channel.specs.Spans.{each512}
use Rattle.channel.proofs.EscapeLaws.{top-low, bot-low}
use Rattle.leftedge.specs.Ring.{bare}
use Rattle.leftedge.specs.DropLaws.{lowest_past, past-none, past_all, past_more, past_same}
use Rattle.leftedge.proofs.ring.lowest_drops.Goals as goal

pub loop-i-init : goal.loop-i-init
loop-i-init c = past-none (rows c.nets.inside.top.now c.nets.inside.bot.now) (bare (track_numbers c.args.tracks.now))

pub bounds-tracks-b : goal.bounds-tracks-b
bounds-tracks-b c = omega (arith, bot-low (rows c.nets.inside.top.now c.nets.inside.bot.now) (c.loop-i.i - 1) c.nets.invariant.escapes)

pub bounds-columns-a : goal.bounds-columns-a
bounds-columns-a c = omega (arith, top-low (rows c.nets.inside.top.now c.nets.inside.bot.now) (c.loop-i.i - 1) c.nets.invariant.escapes)

pub loop-i-preserved-then-a-b : goal.loop-i-preserved-then-a-b
loop-i-preserved-then-a-b c =
    let i = c.loop-i.i in
    let ch = rows c.nets.inside.top.now c.nets.inside.bot.now in
    ap (λ (l : List ℕ). set l (get_or c.nets.inside.top.now (i - 1) 0) (i - 1 + 1)) c.loop-i.invariant
    ∙ past_more ch (bare (track_numbers c.args.tracks.now)) c.nets.invariant i (i - 1) (omega arith) (omega arith)
    (omega (arith, top-low ch (i - 1) c.nets.invariant.escapes)) (rw (track-at c.args.tracks.now) c.if-a-b.true)

pub loop-i-preserved : goal.loop-i-preserved
loop-i-preserved c =
    let i = c.loop-i.i in
    let ch = rows c.nets.inside.top.now c.nets.inside.bot.now in
    c.loop-i.invariant ∙ past_same ch (bare (track_numbers c.args.tracks.now)) i (i - 1) (omega arith) (omega arith)
    (rw (track-at c.args.tracks.now) c.if-a-b.false)

pub returns : goal.returns
returns c =
    let ch = rows c.nets.inside.top.now c.nets.inside.bot.now in
    let end : c.loop-i.i ≡ 0 = omega arith in
    rw (← c.nets.view_is) (c.loop-i.invariant
    ∙ (ap (λ (i : ℕ). each512 (lowest_past ch (bare (track_numbers c.args.tracks.now)) i)) end
    ∙ past_all ch (bare (track_numbers c.args.tracks.now))))
