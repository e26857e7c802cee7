use Rattle.std.proofs.Common.{◌+◌, ◌-◌, ◌≡◌, ◌≤◌, ◌∙◌, sym, arith}
use Rattle.grid.specs.Numbers.{column_numbers, track_numbers, column-at}
use Rattle.channel.specs.Channel.{highest_net}
use Rattle.channel.specs.Spans.{spans}
use Rattle.router.proofs.TableLaws.{none_made, few-made, one-made, made-at, no-more-made, listed-none, listed_next}
use Rattle.router.proofs.make_records.Goals as goal
use Rattle.router.proofs.make_records.Goals.{At-loop-n, then-begin-ne0, else-begin-ne0}

pub loop-n-init : goal.loop-n-init
loop-n-init c = rw none_made (listed-none c.requires)

-- there are fewer records than numbers looked at
low : (c : At-loop-n) → c.loop-n.count ≤ c.loop-n.n - 1
low c =
    let counted = c.loop-n.invariant.counted in
    let few = few-made (spans (column_numbers c.args.first.now) (column_numbers c.args.last.now)) (track_numbers c.args.tracks.now) (c.loop-n.n - 1) in
    omega arith

pub bounds-records-count : goal.bounds-records-count
bounds-records-count c = omega (arith, low (goal.at.bounds-records-count c).At-loop-n)

pub offset_bounds-records-count : goal.offset_bounds-records-count
offset_bounds-records-count c = omega (arith, low (goal.at.offset_bounds-records-count c).At-loop-n)

pub overflow_add-count : goal.overflow_add-count
overflow_add-count c = omega (arith, low (goal.at.overflow_add-count c).At-loop-n)

pub loop-n-preserved : goal.loop-n-preserved
loop-n-preserved c =
    let a = c.args in
    let s = spans (column_numbers a.first.now) (column_numbers a.last.now) in
    let tracks = track_numbers a.tracks.now in
    let k = c.loop-n.n - 1 in
    let n : k + 1 ≡ c.loop-n.n = omega arith in
    let next : c.loop-n.n + 1 - 1 ≡ k + 1 = omega arith in
    let begins = column-at a.first.now c.loop-n.n in
    let few = low (goal.at.loop-n-preserved c).At-loop-n in
    elim c.if-begin-ne0.branch [
      | then-begin-ne0 w ↦
          rw (w.records-is, w.count-is, next, one-made s tracks k (λ z. w.if-begin-ne0.true (sym begins ∙ rw (← n) z)), n, made-at a.first.now a.last.now a.tracks.now c.loop-n.n)
          (listed_next _ c.loop-n.invariant (omega arith))
      | else-begin-ne0 w ↦
          rw (w.records-is, w.count-is, next, no-more-made s tracks k (rw n (begins ∙ w.if-begin-ne0.false)))
          c.loop-n.invariant
    ]

pub returns : goal.returns
returns c =
    let a = c.args in
    let all : c.loop-n.n - 1 ≡ highest_net = omega arith in
    rw all at c.loop-n.invariant
