use Rattle.std.proofs.Common.{◌+◌, sym, ◌∙◌, arith}
use Rattle.pinlist.proofs.RowLaws.{Behind, none_yet, number_read_lem, number-later, no_number}
use Rattle.pinlist.proofs.RowLaws.{cut_off, other_byte, line-feed, carriage-return, space}
use Rattle.pinlist.proofs.line.read_numbers.Goals as goal
use Rattle.pinlist.proofs.line.read_numbers.Goals.{After-keep_number}

-- what is known once the number of a turn is kept
number-kept : (c : After-keep_number) → Behind c.args.text.now c.args.from c.args.row.now c.keep_number.new.row
    c.in-Some.field-0.next (c.loop-value.count + 1)
number-kept c =
    let loop = c.loop-value in
    number_read_lem _ _ _ loop.row _ loop.at loop.count _ _ loop.invariant (omega arith)
    c.keep_number.ensures c.read_number-found.ensures c.in-Some.is

pub loop-value-init : goal.loop-value-init
loop-value-init c = none_yet _ _ _ c.requires

pub returns-in_default : goal.returns-in_default
returns-in_default c =
    no_number _ _ _ _ c.loop-value.at c.loop-value.count c.loop-value.invariant c.read_number-found.ensures c.in_default.is

pub overflow_add-count : goal.overflow_add-count
overflow_add-count c = let b = number-kept (goal.at.overflow_add-count c).After-keep_number in omega arith

pub returns-in_default-get : goal.returns-in_default-get
returns-in_default-get c =
    let past = rw c.in_default-get.is at c.get.ensures.lookup.3 in
    cut_off _ _ _ _ _ _ (number-kept (goal.at.returns-in_default-get c).After-keep_number) past

pub returns-in-10 : goal.returns-in-10
returns-in-10 c =
    let here = c.in-Some-get.ensures.lookup.3 in
    line-feed _ _ _ _ _ _ (number-kept (goal.at.returns-in-10 c).After-keep_number) here.0 (sym (here.1 0) ∙ c.in-10.is)

pub returns-in-13 : goal.returns-in-13
returns-in-13 c =
    let here = c.in-Some-get.ensures.lookup.3 in
    carriage-return _ _ _ _ _ _ (number-kept (goal.at.returns-in-13 c).After-keep_number) here.0
    (sym (here.1 0) ∙ c.in-13.is) c.end_line.ensures

pub returns-in_default-b : goal.returns-in_default-b
returns-in_default-b c =
    let here = c.in-Some-get.ensures.lookup.3 in
    let byte = here.1 0 in
    other_byte _ _ _ _ _ _ (number-kept (goal.at.returns-in_default-b c).After-keep_number) here.0
    (λ e. omega (arith, byte, e)) (λ e. omega (arith, byte, e)) (λ e. omega (arith, byte, e))

pub loop-value-smaller : goal.loop-value-smaller
loop-value-smaller c =
    let loop = c.loop-value in
    let here = c.in-Some-get.ensures.lookup.3 in
    let h = number-later _ _ _ loop.row loop.at loop.count _ _ loop.invariant c.read_number-found.ensures c.in-Some.is in
    omega (arith, here.0)

pub loop-value-preserved : goal.loop-value-preserved
loop-value-preserved c =
    let here = c.in-Some-get.ensures.lookup.3 in
    space _ _ _ _ _ _ (number-kept (goal.at.loop-value-preserved c).After-keep_number) here.0
    (sym (here.1 0) ∙ c.in-32.is)
