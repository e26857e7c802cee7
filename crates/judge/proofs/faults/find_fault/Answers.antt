-- `find_fault` meets its contract: the first search leaves the marks as they are, so the others may be asked, and each
-- return is what is found where the searches before it found nothing.
use Rattle.std.proofs.Common.{rules}
use mathlib.Core.Path.{◌≡◌}
use Rattle.std.specs.Prelude.{option_map}
use Rattle.judge.specs.declared.Fault.TheVariants.{Floating}
use Rattle.judge.proofs.FaultStepsLaws.{still-ready, finds-short, finds-open, finds-last}
use Rattle.judge.proofs.faults.find_fault.Goals as goal

pub returns-in-Some : goal.returns-in-Some
returns-in-Some c = finds-short c.first_short.ensures c.in-Some.is

pub first_open-requires : goal.first_open-requires
first_open-requires c = (still-ready c.first_short.ensures c.requires.0, c.requires.2)

pub returns-in-Some-first_open : goal.returns-in-Some-first_open
returns-in-Some-first_open c =
    finds-open c.first_short.ensures c.in_default.is c.first_open.ensures c.in-Some-first_open.is

pub first_floating-requires : goal.first_floating-requires
first_floating-requires c =
    let ready = still-ready c.first_short.ensures c.requires.0 in
    (rw c.width-width.ensures.value ready.long, ready.marked)

pub returns : goal.returns
returns c =
    let e : c.map.result ≡ option_map Floating c.first_floating.result = search rules in
    let last = finds-last c.first_short.ensures c.in_default.is c.first_open.ensures c.in_default-first_open.is
    (rw c.width-width.ensures.value at c.first_floating.ensures) in
    rw e last
