use Rattle.std.proofs.Common.{◌∙◌, ap, length, length-drop}
use Rattle.refusal.specs.ChainLaws.{handed-on}
use Rattle.cases.specs.CaseLaws.{draft-short, draft-many, draft-few}
use Rattle.cases.proofs.drafts.answer_draft.Goals as goal

pub returns-in_err-number : goal.returns-in_err-number
returns-in_err-number g c =
    rw (handed-on _ c.from_residual.ensures.1, c.in_err-number.ensures.0) (draft-short _ c.in_err-number.ensures.1)

pub returns-then-size-gt-ROOM : goal.returns-then-size-gt-ROOM
returns-then-size-gt-ROOM g c = draft-many _ c.in_ok-number.ensures.0 c.in_ok-number.ensures.1 c.if-size-gt-ROOM.true

pub returns-in_err-make_calls : goal.returns-in_err-make_calls
returns-in_err-make_calls g c =
    let behind = ap length c.in_ok-number.ensures.2 ∙ length-drop 2 c.args.bytes.now in
    let whole = draft-few _ c.in_ok-number.ensures.0 c.in_ok-number.ensures.1 c.if-size-gt-ROOM.false in
    rw (handed-on _ c.from_residual-in_err-make_calls.ensures.1) (rw (behind, whole) at c.in_err-make_calls.ensures)

pub returns : goal.returns
returns g c =
    let behind = ap length c.in_ok-number.ensures.2 ∙ length-drop 2 c.args.bytes.now in
    let whole = draft-few _ c.in_ok-number.ensures.0 c.in_ok-number.ensures.1 c.if-size-gt-ROOM.false in
    rw (behind, whole) at c.in_ok-make_calls.ensures
