-- What is known of the place of a turn is `here`; a turn is `notes-takes` or `notes-past`.
use Rattle.std.proofs.Common.{arith}
use Rattle.rings.specs.NoteLaws.{notes-start, notes-end, here, notes-falls, notes-past, notes-takes}
use Rattle.rings.proofs.search.note_above.Goals as goal

pub loop-c-init : goal.loop-c-init
loop-c-init c = notes-start _ _ _ _ _ _ _ c.requires

pub bounds-upper-c : goal.bounds-upper-c
bounds-upper-c c = (here _ _ _ _ _ _ _ _ _ _ _ c.loop-c.invariant c.loop-c-test.true).2

pub bounds-far-a : goal.bounds-far-a
bounds-far-a c =
    omega (arith, c.loop-c.invariant.can.long, (here _ _ _ _ _ _ _ _ _ _ _ c.loop-c.invariant c.loop-c-test.true).3)

pub bounds-far-a-then-far-a-eq0 : goal.bounds-far-a-then-far-a-eq0
bounds-far-a-then-far-a-eq0 c =
    omega (arith, c.loop-c.invariant.can.long, (here _ _ _ _ _ _ _ _ _ _ _ c.loop-c.invariant c.loop-c-test.true).3)

pub overflow_cast-queue : goal.overflow_cast-queue
overflow_cast-queue c = omega (arith, (here _ _ _ _ _ _ _ _ _ _ _ c.loop-c.invariant c.loop-c-test.true).3)

pub bounds-queue-queued : goal.bounds-queue-queued
bounds-queue-queued c =
    (notes-takes _ _ _ _ _ _ _ _ _ _ _ c.loop-c.invariant c.loop-c-test.true c.if-far-a-eq0.true).0

pub loop-c-smaller-then-far-a-eq0 : goal.loop-c-smaller-then-far-a-eq0
loop-c-smaller-then-far-a-eq0 c = notes-falls _ _ _ _ _ _ _ _ _ _ _ c.loop-c.invariant c.loop-c-test.true

pub loop-c-preserved-then-far-a-eq0 : goal.loop-c-preserved-then-far-a-eq0
loop-c-preserved-then-far-a-eq0 c =
    (notes-takes _ _ _ _ _ _ _ _ _ _ _ c.loop-c.invariant c.loop-c-test.true c.if-far-a-eq0.true).1

pub loop-c-smaller : goal.loop-c-smaller
loop-c-smaller c = notes-falls _ _ _ _ _ _ _ _ _ _ _ c.loop-c.invariant c.loop-c-test.true

pub loop-c-preserved : goal.loop-c-preserved
loop-c-preserved c =
    notes-past _ _ _ _ _ _ _ _ _ _ _ c.loop-c.invariant c.loop-c-test.true c.if-far-a-eq0.false

pub returns : goal.returns
returns c = notes-end _ _ _ _ _ _ _ _ _ _ _ c.loop-c.invariant c.loop-c-test.false
