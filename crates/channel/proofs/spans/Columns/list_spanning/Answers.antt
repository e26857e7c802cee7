use Rattle.std.proofs.Common.{ℕ, ◌+◌, ◌-◌, ◌≤◌, ◌<◌, ◌≡◌, length, get_or, arith, ◌∙◌, ap₂, sym}
use Rattle.lists.specs.Lists.{up_to, at}
use Rattle.lists.specs.Places.{length_from, place-from, at_place}
use Rattle.lists.specs.Collects.{collected-none, collected-few, collected-takes, collected-skips}
use Rattle.lists.specs.Collects.{collected-all}
use Rattle.grid.specs.Numbers.{column-at, order-lt}
use Rattle.channel.specs.Channel.{rows}
use Rattle.channel.proofs.SpanningLaws.{spans_to, highest-of, spanning-numbers}
use Rattle.channel.proofs.spans.Columns.list_spanning.Goals as goal
use Rattle.channel.proofs.spans.Columns.list_spanning.Goals.{In-loop-n, then-lt, else-lt}

-- there is a place for each number up to it
room_for : (h k : ℕ) → h ≤ 511 → k ≡ 512 → length (up_to h) ≤ k
room_for h k l e = omega (arith, length_from 1 h)

-- the number that a turn looks at is one of the tables; no more are counted than were looked at
record Turn (h n count : ℕ) : Type 0 where
  low : n < 512
  free : count < 512
  ahead : n - 1 < length (up_to h)
  number : get_or (up_to h) (n - 1) 0 ≡ n
  next : n - 1 + 1 ≡ n + 1 - 1

ahead_of : (h n : ℕ) → 1 ≤ n → n < h + 1 → n - 1 < length (up_to h)
ahead_of h n k l = omega (arith, length_from 1 h)

turn-of : (h n count : ℕ) → 1 ≤ n → n < h + 1 → h ≤ 511 → count ≤ n - 1 → Turn h n count
unfolding at
turn-of h n count one l most k =
    record {
      low = omega arith;
      free = omega arith;
      ahead = ahead_of h n one l;
      number = at_place (up_to h) (n - 1) (place-from 1 h (n - 1) (omega arith)) ∙ omega arith;
      next = omega arith;
    }

turn : (c : In-loop-n) → Turn c.highest_number-highest.result c.loop-n.n c.loop-n.count
turn c =
    let h = c.highest_number-highest.result in
    turn-of h c.loop-n.n c.loop-n.count (omega arith) c.loop-n-test.true
    (highest-of (rows c.self.inside.top.now c.self.inside.bot.now) c.self.invariant.only.escapes _ _ c.highest_number-upper.ensures
    c.highest_number-highest.ensures).low
    (collected-few _ _ _ _ _ _ c.loop-n.invariant (ahead_of h c.loop-n.n (omega arith) c.loop-n-test.true))

pub loop-n-init : goal.loop-n-init
loop-n-init c = collected-none _ _ _

pub bounds-first-n : goal.bounds-first-n
bounds-first-n c =
    let high = highest-of (rows c.self.inside.top.now c.self.inside.bot.now) c.self.invariant.only.escapes _ _ c.highest_number-upper.ensures
    c.highest_number-highest.ensures in
    omega (arith, high.low, c.loop-n-test.true)

pub bounds-last-n : goal.bounds-last-n
bounds-last-n c =
    let high = highest-of (rows c.self.inside.top.now c.self.inside.bot.now) c.self.invariant.only.escapes _ _ c.highest_number-upper.ensures
    c.highest_number-highest.ensures in
    omega (arith, high.low, c.loop-n-test.true)

pub bounds-items-count : goal.bounds-items-count
bounds-items-count c =
    let f = (turn (goal.at.bounds-items-count c).In-loop-n).free in
    let l = c.loop-n.auto.items in
    let k = c.requires in
    omega arith

pub loop-n-preserved : goal.loop-n-preserved
loop-n-preserved c =
    let k = turn (goal.at.loop-n-preserved c).In-loop-n in
    let high = highest-of (rows c.self.inside.top.now c.self.inside.bot.now) c.self.invariant.only.escapes _ _ c.highest_number-upper.ensures
    c.highest_number-highest.ensures in
    elim c.if-lt.branch [
      | then-lt w ↦ rw (w.count-is, w.items-is, ← k.next) (rw k.number at (collected-takes _ _ _ _ _ _
          c.loop-n.invariant k.ahead (room_for _ _ high.low c.requires)
          (rw (k.number, column-at c.self.inside.first.now, column-at c.self.inside.last.now) (sym (order-lt _ _) ∙ (sym c.lt.ensures ∙ w.if-lt.true)))))
      | else-lt w ↦ rw (w.count-is, w.items-is, ← k.next) (collected-skips _ _ _ _ _ _ c.loop-n.invariant k.ahead
          (rw (k.number, column-at c.self.inside.first.now, column-at c.self.inside.last.now) (sym (order-lt _ _) ∙ (sym c.lt.ensures ∙ w.if-lt.false))))
    ]

pub returns : goal.returns
returns c =
    let p = c.self.invariant in
    let ch = rows c.self.inside.top.now c.self.inside.bot.now in
    let h = c.highest_number-highest.result in
    let high = highest-of ch p.only.escapes _ _ c.highest_number-upper.ensures c.highest_number-highest.ensures in
    let e = ap₂ (λ first last. spans_to first last h) p.on_first p.on_last ∙ spanning-numbers ch p.only.escapes high in
    let past : h ≤ c.loop-n.n - 1 = omega arith in
    rw (← c.self.view_is) (rw e at (collected-all _ _ _ _ _ _ (omega (arith, length_from 1 h)) c.loop-n.invariant))
