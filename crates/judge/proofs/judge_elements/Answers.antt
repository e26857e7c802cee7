-- `judge_elements` meets its contract: the elements are alone, then joined on the columns and on the tracks; so two
-- have one root exactly if they have one mark, and what is found by the roots is the finding.
use Prim.Native.Nat.{◌+◌}
use native.Mathlib.Omega.{arith}
use mathlib.Core.Path.{sym, ◌∙◌, ap}
use Rattle.channel.specs.Channel.{widest}
use Rattle.lists.specs.Tables.{blank-zeros}
use Rattle.judge.specs.declared.JudgeAnswer.TheVariants.{Good}
use Rattle.judge.specs.LineSteps.{Case}
use Rattle.judge.proofs.ElementStepsLaws.{elements-few, columns-ready, tracks_ready, flat-ready, flat-unowned}
use Rattle.judge.proofs.ElementStepsLaws.{found-finding}
use Rattle.judge.proofs.JudgeSteps.{found_nothing, found-fault}
use Rattle.judge.proofs.judge_elements.Goals as goal

pub alone-requires : goal.alone-requires
alone-requires c =
    let few = elements-few _ _ _ c.width-width.ensures.known in
    let n = c.requires in
    omega arith

pub join_on-requires : goal.join_on-requires
join_on-requires c =
    let w = c.width-width.ensures.value in
    let t = ap (λ (k : Case). k.tracks) c.case.view_is in (
      columns-ready _ _ _ _ _ c.width-width.ensures.known c.requires c.alone.ensures _ _ (omega arith) (omega arith),
      blank-zeros (widest + 1),
    )

pub join_on-requires-2 : goal.join_on-requires-2
join_on-requires-2 c =
    let w = c.width-width.ensures.value in
    let t = ap (λ (k : Case). k.tracks) c.case.view_is in (
      tracks_ready _ _ _ _ _ c.width-width.ensures.known c.requires c.alone.ensures _ c.join_on.ensures.0 _ _ (omega arith)
          (omega arith),
      c.join_on.ensures.1,
    )

pub find_fault-requires : goal.find_fault-requires
find_fault-requires c = (
  flat-ready _ _ _ _ _ c.width-width.ensures.known c.requires c.alone.ensures _ c.join_on.ensures.0 _ _
      c.join_on-2.ensures.0 c.flatten.ensures,
  flat-unowned _ _ _ _ _ c.width-width.ensures.known c.requires c.alone.ensures _ c.join_on.ensures.0 _ _
      c.join_on-2.ensures.0 c.flatten.ensures,
  c.join_on-2.ensures.1,
)

pub returns-in-None : goal.returns-in-None
returns-in-None c =
    let found = c.find_fault in
    let said = found-finding _ _ _ _ _ c.width-width.ensures.known c.requires c.alone.ensures _ c.join_on.ensures.0 _ _
    c.join_on-2.ensures.0 c.flatten.ensures found.result found.ensures in
    ap Good (ap (λ (k : Case). k.tracks) c.case.view_is) ∙ found_nothing _ _ (sym c.in-None.is ∙ said)

pub returns-in-Some : goal.returns-in-Some
returns-in-Some c =
    let found = c.find_fault in
    let said = found-finding _ _ _ _ _ c.width-width.ensures.known c.requires c.alone.ensures _ c.join_on.ensures.0 _ _
    c.join_on-2.ensures.0 c.flatten.ensures found.result found.ensures in
    found-fault _ _ c.in-Some.fault (sym c.in-Some.is ∙ said)
