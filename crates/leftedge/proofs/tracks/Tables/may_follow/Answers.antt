-- The item starts before the column, past it, or in it.
use Rattle.std.proofs.Common.{◌≢◌, ◌≡◌, arith, get_or, lt-ltb, le-ltb, eq-eqb, ne_eqb}
use Rattle.leftedge.specs.Tables.{may_follow}
use Rattle.leftedge.proofs.tracks.Tables.may_follow.Goals as goal

pub returns-then-start-end : goal.returns-then-start-end
unfolding may_follow
returns-then-start-end c =
    let t = c.if-start-end.true in
    let begin = get_or c.args.self.first.now c.args.n 0 in
    rw (le-ltb c.args.end begin (omega arith), ne_eqb c.args.end begin (λ e. omega arith))

pub returns-then-end-start : goal.returns-then-end-start
unfolding may_follow
returns-then-end-start c =
    let begin = get_or c.args.self.first.now c.args.n 0 in
    let apart : c.args.end ≢ begin = c.if-end-start.true in
    let t = c.if-start-end.false in
    rw (ne_eqb c.args.end begin apart, lt-ltb c.args.end begin (omega arith))

pub returns-else-end-start : goal.returns-else-end-start
unfolding may_follow
returns-else-end-start c =
    let begin = get_or c.args.self.first.now c.args.n 0 in
    let same : c.args.end ≡ begin = c.if-end-start.false in
    rw (le-ltb c.args.end begin (omega arith), eq-eqb c.args.end begin same, c.net_of.ensures)
