-- Each return is a law of TextLaws about the line that was read last.
use Rattle.std.proofs.Common.{arith}
use Rattle.lists.specs.Bytes.{bytes}
use Rattle.refusal.specs.ChainLaws.{handed-on}
use Rattle.pinlist.proofs.RowLaws.{Whole, line-broken, line-whole, whole-within}
use Rattle.pinlist.proofs.TextLaws.{top-garbled, bot-garbled, more-garbled, both-whole}
use Rattle.pinlist.proofs.parse.Goals as goal
use Rattle.pinlist.proofs.parse.Goals.{In_ok-tops, In_ok-bots}

first : (c : In_ok-tops) → Whole (bytes "TOP ") c.args.text.now 0 c.args.top.now c.read_line.new.row c.in_ok-tops.tops.count
    c.in_ok-tops.tops.next
unfolding bytes
first c = line-whole (bytes "TOP ") _ 0 _ _ c.in_ok-tops.ensures

second : (c : In_ok-bots) → Whole (bytes "BOT ") c.args.text.now c.in_ok-tops.tops.next c.args.bot.now
    c.read_line-2.new.row c.in_ok-bots.bots.count c.in_ok-bots.bots.next
unfolding bytes
second c = line-whole (bytes "BOT ") _ _ _ _ c.in_ok-bots.ensures

pub returns-in_err-tops : goal.returns-in_err-tops
unfolding bytes
returns-in_err-tops c =
    rw (handed-on _ c.from_residual.ensures.1)
    (top-garbled _ _ _ _ _ _ (line-broken (bytes "TOP ") _ 0 _ _ c.in_err-tops.ensures))

pub read_line-requires-2 : goal.read_line-requires-2
read_line-requires-2 c =
    whole-within (omega arith) (first (goal.at.read_line-requires-2 c).In_ok-tops)

pub returns-in_err-bots : goal.returns-in_err-bots
unfolding bytes
returns-in_err-bots c =
    rw (handed-on _ c.from_residual-in_err-bots.ensures.1)
    (bot-garbled _ _ _ _ _ (first (goal.at.returns-in_err-bots c).In_ok-tops) _
    (line-broken (bytes "BOT ") _ _ _ _ c.in_err-bots.ensures))

pub returns-then-bots-text : goal.returns-then-bots-text
returns-then-bots-text c =
    let k = goal.at.returns-then-bots-text c in
    more-garbled _ _ _ _ _ (first k.In_ok-tops) (second k.In_ok-bots) c.if-bots-text.true

pub returns : goal.returns
returns c =
    let k = goal.at.returns c in
    both-whole _ _ _ _ _ (first k.In_ok-tops) (second k.In_ok-bots) c.if-bots-text.false
