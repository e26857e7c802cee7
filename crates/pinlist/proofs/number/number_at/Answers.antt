use Rattle.std.proofs.Common.{◌≡◌, ◌<◌, length, get_or, sym, ◌∙◌, arith}
use Rattle.pinlist.proofs.CodeLaws.{number-none, number-zero, number-other, number-digit, digits-end, digits-stop}
use Rattle.pinlist.proofs.CodeLaws.{digits_more}
use Rattle.pinlist.proofs.number.number_at.Goals as goal
use Rattle.pinlist.proofs.number.number_at.Goals.{In-Some}

-- the byte that the number begins at
begins : (c : In-Some) → (c.args.at < length c.args.text.now) × (c.in-Some.field-0.now ≡ get_or c.args.text.now c.args.at 0)
begins c = let here = c.in-Some.ensures.lookup.3 in (here.0, here.1 0)

pub returns-in_default : goal.returns-in_default
returns-in_default c = sym (number-none _ _ (rw c.in_default.is at c.get.ensures.lookup.3))

pub returns-then-not-is_ascii_digit : goal.returns-then-not-is_ascii_digit
returns-then-not-is_ascii_digit c =
    let first = begins (goal.at.returns-then-not-is_ascii_digit c).In-Some in
    sym (number-other _ _ first.0 (λ w. omega (arith, w, first.1, c.if-not-is_ascii_digit.ensures.cases)))

pub returns-then-first-eq48 : goal.returns-then-first-eq48
returns-then-first-eq48 c =
    let first = begins (goal.at.returns-then-first-eq48 c).In-Some in
    sym (number-zero _ _ first.0 (sym first.1 ∙ c.if-first-eq48.true))

pub overflow_cast-value : goal.overflow_cast-value
overflow_cast-value c = let digit = c.if-not-is_ascii_digit.ensures.cases in omega arith

pub loop-next-init : goal.loop-next-init
loop-next-init c =
    let first = begins (goal.at.loop-next-init c).In-Some in
    let digit = c.if-not-is_ascii_digit.ensures.cases in
    (omega arith, rw first.1 (number-digit _ _ first.0 (omega (arith, first.1, digit)) (omega (arith, first.1, digit))))

pub returns-then-not-is_ascii_digit-2 : goal.returns-then-not-is_ascii_digit-2
returns-then-not-is_ascii_digit-2 c =
    let loop = c.loop-next in sym
    (loop.invariant.1 ∙ digits-stop _ loop.value loop.next (omega arith)
    (λ w. omega (arith, w, c.if-not-is_ascii_digit-2.ensures.cases)))

pub with_digit-value-requires : goal.with_digit-value-requires
with_digit-value-requires c =
    let digit = c.if-not-is_ascii_digit-2.ensures.cases in (omega arith, omega (arith, digit), omega (arith, digit))

pub loop-next-preserved : goal.loop-next-preserved
loop-next-preserved c =
    let loop = c.loop-next in
    let digit = c.if-not-is_ascii_digit-2.ensures.cases in
    let e = c.with_digit-value.ensures in (
      omega arith,
      loop.invariant.1 ∙ (digits_more _ loop.value loop.next (omega arith) (omega (arith, digit))
          (omega (arith, digit)) ∙ rw (← e)),
    )

pub returns : goal.returns
returns c =
    let loop = c.loop-next in
    let first = begins (goal.at.returns c).In-Some in
    let end : loop.next ≡ length c.args.text.now = let start = first.0 in omega arith in
    rw (← end) (sym (loop.invariant.1 ∙ digits-end _ loop.value loop.next c.loop-next-test.false))
