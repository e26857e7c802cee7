-- `join_on` meets its contract: the fronts of two blank tables have a head for each line and a place for each start,
-- and the places are left free.
use Prim.Native.Nat.{◌+◌}
use native.Mathlib.Omega.{arith}
use mathlib.Core.Path.{sym}
use Rattle.channel.specs.Channel.{widest}
use Rattle.lists.specs.Tables.{blank-zeros, front-blank, blank-again}
use Rattle.judge.specs.JoinSteps.{lines-ready}
use Rattle.judge.proofs.lines.join_on.Goals as goal

pub slice_bounds-join_lines-end-2 : goal.slice_bounds-join_lines-end-2
slice_bounds-join_lines-end-2 g c =
    let pre = c.requires in
    let few = pre.0.few in
    let size = pre.1.places in
    omega arith

pub slice_bounds-join_lines-end : goal.slice_bounds-join_lines-end
slice_bounds-join_lines-end g c =
    let pre = c.requires in
    sym (front-blank _ (blank-zeros (widest + 1)) pre.0.few.0).places

pub slice_bounds-join_lines-end-3 : goal.slice_bounds-join_lines-end-3
slice_bounds-join_lines-end-3 g c =
    let pre = c.requires in
    sym (front-blank _ pre.1 pre.0.few.1).places

pub join_lines-requires : goal.join_lines-requires
join_lines-requires g c =
    let pre = c.requires in
    lines-ready pre.0 (front-blank _ (blank-zeros (widest + 1)) pre.0.few.0)
    (front-blank _ pre.1 pre.0.few.1)

pub returns : goal.returns
returns g c =
    let joined = c.join_lines in (
      joined.ensures.0,
      blank-again joined.new.starts c.args.places c.requires.1
          joined.auto.starts joined.ensures.1,
    )
