-- The tests of the length of both rows, one by one, are those of `rows_whole`.
use Rattle.std.proofs.Common.{◌∙◌, ap, length, length-drop}
use Rattle.refusal.specs.ChainLaws.{handed-on}
use Rattle.cases.specs.CaseLaws.{rows_short, rows_few, rows-long, rows-longer, rows-enough}
use Rattle.cases.proofs.rows.read_rows.Goals as goal
use Rattle.cases.proofs.rows.read_rows.Goals.{then-all-a-via-then-all-a, then-all-a-via-else-all-a+then-a-gt-ROW_ROOM, then-all-a-via-else-all-a+else-a-gt-ROW_ROOM+then-all-a-gt-ROW_ROOM}

pub returns-in_err-first : goal.returns-in_err-first
returns-in_err-first c =
    rw (handed-on _ c.from_residual.ensures.1, c.in_err-first.ensures.0) (rows_short _ c.in_err-first.ensures.1)

pub returns-then-all-a : goal.returns-then-all-a
returns-then-all-a c =
    let h = c.in_ok-first.ensures.0 in
    let e = c.in_ok-first.ensures.1 in
    let behind = ap length c.in_ok-first.ensures.2 ∙ length-drop 2 c.args.bytes.now in
    elim c.then-all-a.branch [
      | then-all-a-via-then-all-a w ↦ rows_few _ h e (rw behind at w.if-all-a.true)
      | then-all-a-via-else-all-a+then-a-gt-ROW_ROOM w ↦
          rows-long _ h e (rw behind at w.if-all-a.false) w.if-a-gt-ROW_ROOM.true
      | then-all-a-via-else-all-a+else-a-gt-ROW_ROOM+then-all-a-gt-ROW_ROOM w ↦
          rows-longer _ h e (rw behind at w.if-all-a.false) w.if-a-gt-ROW_ROOM.false (rw behind at w.if-all-a-gt-ROW_ROOM.true)
    ]

pub returns : goal.returns
returns c =
    let e = c.in_ok-first.ensures.1 in
    let behind = ap length c.in_ok-first.ensures.2 ∙ length-drop 2 c.args.bytes.now in (
      rows-enough _ c.in_ok-first.ensures.0 e (rw behind at c.if-all-a.false) c.if-a-gt-ROW_ROOM.false
          (rw behind at c.if-all-a-gt-ROW_ROOM.false),
      rw (behind, e) at c.rows_of.ensures,
    )
