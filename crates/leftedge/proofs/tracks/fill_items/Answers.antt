-- A turn is `track-filled`; the two ends are `placed-ends` and `stuck-ends`.
use Rattle.std.proofs.Common.{refl, arith, ◌∙◌}
use Rattle.leftedge.proofs.FillTurns.{starts-empty, scan_begins, placed-ends, no_more, track-filled}
use Rattle.leftedge.proofs.FillTurns.{few-looks, stuck-ends}
use Rattle.leftedge.proofs.tracks.fill_items.Goals as goal

pub loop-rest-init : goal.loop-rest-init
loop-rest-init c = (λ it b. starts-empty b, refl, refl, refl)

pub scan_track-scanned-requires : goal.scan_track-scanned-requires
scan_track-scanned-requires c =
    let b = c.requires.begins in
    record { it = _; ps = _; begins = scan_begins b (c.loop-rest.invariant.0 _ b) }

pub overflow_add-looked : goal.overflow_add-looked
overflow_add-looked c =
    let b = c.requires.begins in
    omega (arith, few-looks b (c.loop-rest.invariant.0 _ b) (c.scan_track-scanned.ensures _) c.if-rest-eq0.false)

pub loop-rest-smaller : goal.loop-rest-smaller
loop-rest-smaller c =
    let b = c.requires.begins in
    let u = c.loop-rest.invariant.0 _ b in
    omega (arith, no_more b u (c.scan_track-scanned.ensures _) c.if-rest-eq0.false, c.if-scanned-rest.false)

pub loop-rest-preserved : goal.loop-rest-preserved
loop-rest-preserved c =
    let i = c.loop-rest.invariant in
    let kept = c.scan_track-scanned.auto in (
      λ it b. track-filled b (i.0 it b) (c.scan_track-scanned.ensures it) c.if-rest-eq0.false c.if-scanned-rest.false,
      kept.under ∙ i.1,
      kept.left ∙ i.2,
      kept.tracks ∙ i.3,
    )

pub returns-then-rest-eq0 : goal.returns-then-rest-eq0
returns-then-rest-eq0 c it b = placed-ends b (c.loop-rest.invariant.0 it b) c.if-rest-eq0.true (refl, refl)

pub returns-then-scanned-rest : goal.returns-then-scanned-rest
returns-then-scanned-rest c it b =
    stuck-ends b (c.loop-rest.invariant.0 it b) (c.scan_track-scanned.ensures it) c.if-rest-eq0.false
    c.if-scanned-rest.true (refl, refl)
