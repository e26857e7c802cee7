-- `enter` meets its contract: the range that stands at the start meets the new one, whose low half is the element.
use native.Mathlib.Omega.{arith}
use mathlib.Core.Path.{◌∙◌, ap}
use Rattle.classes.specs.Halves.{low_half, low-number}
use Rattle.classes.proofs.ranges.enter.Goals as goal

pub meet-requires : goal.meet-requires
meet-requires c =
    let start = c in
    let small = start.requires.0.forest.small in
    let low = ap low_half c.number-range.ensures
    ∙ low-number start.args.element start.args.past (omega arith) in
    (start.requires.0.forest, start.requires.0.inside start.args.start start.requires.2, omega (arith, low))

pub returns : goal.returns
returns c =
    let start = c in
    let number = c.number-range in
    let met = c.meet.ensures in
    let small = start.requires.0.forest.small in
    let low = ap low_half number.ensures
    ∙ low-number start.args.element start.args.past (omega arith) in
    record {
      stored = rw (met.furthest, number.ensures);
      joins = λ k. rw low at (met.joins k);
      apart = met.apart;
    }
