-- Whether the first column is before the last is whether the net has a span.
use Rattle.std.proofs.Common.{arith, subst, rules, ◌≤◌, ◌<◌}
use Rattle.std.specs.Cmp.Rules.{comparing}
use mathlib.Core.Path.{subst⁻¹}
use Rattle.drawing.specs.Putting.{Room, Put}
use Rattle.drawing.proofs.CodeLaws.{pieces-span, pieces-straight}
use Rattle.drawing.proofs.Pen.draw_net.Goals as goal

pub draw_span-requires : goal.draw_span-requires
draw_span-requires c =
    let p = c.requires in
    let before : c.args.net.first.0 < c.args.net.last.0 = search (comparing, rules) in
    (p.0, p.1, subst (Room _ _) (pieces-span _ _ _ _ p.1 _ _ (omega arith)) p.2)

pub returns-then-lt-clause-drawn : goal.returns-then-lt-clause-drawn
returns-then-lt-clause-drawn c =
    let before : c.args.net.first.0 < c.args.net.last.0 = search (comparing, rules) in
    subst⁻¹ (Put _ _ _ _) (pieces-span _ _ _ _ c.requires.1 _ _ (omega arith)) c.draw_span.ensures.drawn

pub put-requires : goal.put-requires
put-requires c =
    let p = c.requires in
    let straight : c.args.net.last.0 ≤ c.args.net.first.0 = search (comparing, rules) in
    subst (Room _ _) (pieces-straight _ _ _ _ p.1 _ _ (omega arith)) p.2

pub returns-else-lt-clause-drawn : goal.returns-else-lt-clause-drawn
returns-else-lt-clause-drawn c =
    let straight : c.args.net.last.0 ≤ c.args.net.first.0 = search (comparing, rules) in
    subst⁻¹ (Put _ _ _ _) (pieces-straight _ _ _ _ c.requires.1 _ _ (omega arith)) c.put.ensures.drawn
