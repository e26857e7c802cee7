-- Each field is picked by the two tests of the kind.
use mathlib.Core.Path.{sym, ap, ◌∙◌}
use Rattle.judge.specs.BoxLaws.{picked_box, box-picked}
use Rattle.judge.proofs.boxes.cover_of.Goals as goal

pub returns : goal.returns
unfolding picked_box
returns c =
    rw (
      c.pick-7.ensures,
      c.pick-6.ensures,
      c.pick-5.ensures,
      c.pick-4.ensures,
      c.pick-3.ensures,
      c.pick-2.ensures,
      c.pick.ensures,
    )
    (ap picked_box c.fields_of-kind.ensures ∙ sym (box-picked c.args.v))
