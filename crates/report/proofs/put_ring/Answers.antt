-- A turn puts one line more, by `put_then` and `ring-more`; the pair of a turn is that of `chunk-at`.
use Rattle.std.proofs.Common.{◌<◌, ◌/◌, [], length, get_or, get_or-take, length-take, ap, sym, refl, arith, ◌∙◌}
use Rattle.lists.specs.Lists.{each, from}
use Rattle.report.specs.Code.{ring_text}
use Rattle.text.specs.PutLaws.{put_then, put_same}
use Rattle.report.specs.CodeLaws.{chunk-at, ring-more}
use Rattle.report.proofs.put_ring.Goals as goal

pub loop-net-init : goal.loop-net-init
unfolding ring_text each from
loop-net-init c = (record { place = omega arith; stored = refl }, omega arith)

pub loop-net-preserved : goal.loop-net-preserved
loop-net-preserved c =
    let ring = c.args.ring.now in
    let i = c.loop-net.net-index in
    let shown = length-take c.args.pairs c.as_chunks.result.0.now in
    let inside : i < length ring / 2 = omega (arith, shown) in
    let taken : i < c.args.pairs = omega (arith, shown) in
    let pair = get_or-take c.args.pairs c.as_chunks.result.0.now i [] taken
    ∙ (ap (λ chunks. get_or chunks i []) c.as_chunks.ensures.front ∙ chunk-at (length ring / 2) ring i inside (omega arith)) in
    let put = rw pair at c.put_pair-next.ensures.put in
    (put_same (put_then c.loop-net.invariant.0 put) (sym (ring-more ring i)), omega arith)
