-- Each test leads to the answer that the chain of refusals gives at it, by the law of that answer, and what is known past
-- the test is one of `Narrow`, `Even`, `Low`.
use Rattle.std.proofs.Common.{ℕ, ◌+◌, ◌≡◌, ◌≢◌, ◌≤◌, arith, sym, ◌∙◌, ap, inl, inr, length, Ok, Err}
use Rattle.refusal.specs.declared.Refusal.TheVariants.{HighNet}
use Rattle.channel.specs.Channel.{Channel, rows, widest}
use Rattle.channel.specs.Answers.{rows_answer}
use Rattle.channel.specs.RowLaws.{found-high, found-no-high, first-high-left, first-high-right}
use Rattle.channel.specs.AnswerLaws.{Narrow, Even, answer-wide, answer-uneven, answer-high, answer-accepted}
use Rattle.channel.proofs.BoundLaws.{accepted→escapes, checked→ok, checked→err}
use Rattle.channel.proofs.rows.Rows.accept.Goals as goal
use Rattle.channel.proofs.rows.Rows.accept.Goals.{In-Some, In-Some-first_high, In_default-first_high}
use Rattle.channel.proofs.rows.Rows.accept.Goals.{then-a-gt-WIDEST-via-then-a-gt-WIDEST, then-a-gt-WIDEST-via-else-a-gt-WIDEST+then-b-gt-WIDEST}

narrow : (ch : Channel) → length ch.top ≤ widest → length ch.bot ≤ widest → Narrow ch
narrow ch a b = record { top-narrow = a; bot-narrow = b }

even : (ch : Channel) → length ch.top ≤ widest → length ch.bot ≤ widest → length ch.top ≡ length ch.bot
    → length ch.top ≢ 0 → Even ch
even ch a b same filled = record { narrow = narrow ch a b; same = same; filled = filled }

pub returns-then-a-gt-WIDEST : goal.returns-then-a-gt-WIDEST
returns-then-a-gt-WIDEST c =
    checked→err _ (answer-wide _ (elim c.then-a-gt-WIDEST.branch [
      | then-a-gt-WIDEST-via-then-a-gt-WIDEST w ↦ inl w.if-a-gt-WIDEST.true
      | then-a-gt-WIDEST-via-else-a-gt-WIDEST+then-b-gt-WIDEST w ↦ inr w.if-b-gt-WIDEST.true
    ]))

pub returns-then-a-b : goal.returns-then-a-b
returns-then-a-b c =
    checked→err _ (answer-uneven _ (narrow _ c.if-a-gt-WIDEST.false c.if-b-gt-WIDEST.false) (inl c.if-a-b.true) _ (omega arith))

pub returns-then-a-eq0 : goal.returns-then-a-eq0
returns-then-a-eq0 c =
    checked→err _ (answer-uneven _ (narrow _ c.if-a-gt-WIDEST.false c.if-b-gt-WIDEST.false) (inr c.if-a-eq0.true) _ (omega arith))

-- a high number on top; and none there, but one below
module _ (c : In-Some) where
  top-high : Err (HighNet c.in-Some.place) ≡ rows_answer (rows c.args.top.now c.args.bot.now)
  top-high =
      let h = found-high _ c.in-Some.ensures in
      answer-high _ (even _ c.if-a-gt-WIDEST.false c.if-b-gt-WIDEST.false c.if-a-b.false c.if-a-eq0.false) (first-high-left _ _ h.some ∙ h.first) (λ z. h.some (h.first ∙ z))

module _ (c : In-Some-first_high) where
  bot-high : Err (HighNet (length c.args.top.now + c.in-Some-first_high.place)) ≡ rows_answer (rows c.args.top.now c.args.bot.now)
  bot-high =
      let h = found-high _ c.in-Some-first_high.ensures in
      answer-high _ (even _ c.if-a-gt-WIDEST.false c.if-b-gt-WIDEST.false c.if-a-b.false c.if-a-eq0.false)
      (first-high-right _ _ (found-no-high _ c.in_default.ensures) h.some ∙ ap (λ (k : ℕ). length c.args.top.now + k) h.first)
      (λ z. h.some (h.first ∙ omega arith))

pub returns-in-Some : goal.returns-in-Some
returns-in-Some c = checked→err _ (top-high (goal.at.returns-in-Some c).In-Some)

pub overflow_add-result-in-Some-first_high : goal.overflow_add-result-in-Some-first_high
overflow_add-result-in-Some-first_high c =
    let inside = (found-high _ c.in-Some-first_high.ensures).inside in omega arith

pub returns-in-Some-first_high : goal.returns-in-Some-first_high
returns-in-Some-first_high c = checked→err _ (bot-high (goal.at.returns-in-Some-first_high c).In-Some-first_high)

accept : (c : In_default-first_high) → Ok tt ≡ rows_answer (rows c.args.top.now c.args.bot.now)
accept c =
    answer-accepted _ (record {
      even = even _ c.if-a-gt-WIDEST.false c.if-b-gt-WIDEST.false c.if-a-b.false c.if-a-eq0.false;
      top-low = found-no-high _ c.in_default.ensures;
      bot-low = found-no-high _ c.in_default-first_high.ensures;
    })

pub invariant_of-result : goal.invariant_of-result
invariant_of-result c = accepted→escapes _ (sym (accept (goal.at.invariant_of-result c).In_default-first_high))

pub returns : goal.returns
returns c = checked→ok _ (accept (goal.at.returns c).In_default-first_high)
