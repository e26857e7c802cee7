use Rattle.std.proofs.Common.{arith}
use mathlib.Core.Path.{refl, sym, ◌∙◌, subst, subst⁻¹}
use Rattle.drawing.specs.Putting.{Room, Put, put_then, room-first, room-rest, next-put, next-passed}
use Rattle.drawing.proofs.CodeLaws.{stands-inside, net-stands, span-begun, span-ended, column-room, span-is}
use Rattle.drawing.proofs.Pen.draw_span.Goals as goal
use Rattle.drawing.proofs.Pen.draw_span.Goals.{then-has_pin, else-has_pin}

pub put-requires : goal.put-requires
put-requires c = room-first _ (subst (Room _ _) (span-is _ _ _ _ c.requires.1 _ _) c.requires.2)

pub overflow_add-c-end : goal.overflow_add-c-end
overflow_add-c-end c = let i = stands-inside _ _ _ _ c.requires.1 in let w = c.requires.1.escapes.narrow in omega arith

pub loop-c-init : goal.loop-c-init
loop-c-init c = (refl, span-begun _ _ _ _ c.requires.1 _ _ _)

pub has_pin-requires : goal.has_pin-requires
has_pin-requires c = let i = stands-inside _ _ _ _ c.requires.1 in (omega arith, omega arith)

pub draw_column-requires : goal.draw_column-requires
draw_column-requires c =
    let pre = c.requires in
    let i = stands-inside _ _ _ _ pre.1 in (
      pre.0,
      omega arith,
      omega arith,
      column-room _ _ _ _ pre.1 _ _ (omega arith) (omega arith)
          (sym (c.has_pin.ensures ∙ net-stands _ _ _ _ pre.1 _) ∙ c.if-has_pin.true)
          (room-rest c.put.ensures.drawn (subst (Room _ _) (span-is _ _ _ _ pre.1 _ _) pre.2)) c.loop-c.invariant.1,
    )

pub loop-c-preserved : goal.loop-c-preserved
loop-c-preserved c =
    let inv = c.loop-c.invariant.1 in
    let i = stands-inside _ _ _ _ c.requires.1 in
    let pin = sym (c.has_pin.ensures ∙ net-stands _ _ _ _ c.requires.1 _) in
    elim c.if-has_pin.branch [
      | then-has_pin w ↦ rw w.self-is
          (w.draw_column.ensures.same_board ∙ c.loop-c.invariant.0, next-put _ _ _ (omega arith) inv (pin ∙ w.if-has_pin.true) w.draw_column.ensures.drawn)
      | else-has_pin w ↦ rw w.self-is (c.loop-c.invariant.0, next-passed _ _ _ (omega arith) inv (pin ∙ w.if-has_pin.false))
    ]

pub returns-clause-drawn : goal.returns-clause-drawn
returns-clause-drawn c =
    let i = stands-inside _ _ _ _ c.requires.1 in
    subst⁻¹ (Put _ _ _ _) (span-is _ _ _ _ c.requires.1 _ _)
    (put_then c.put.ensures.drawn (span-ended _ _ _ _ c.requires.1 _ _ (omega arith) c.loop-c.invariant.1))
