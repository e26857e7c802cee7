-- What the row check answers, test by test: the refusal that a test leads to, and what is left of the chain past it.
use Rattle.std.specs.Prelude.{ℕ, suc, min, ◌≤◌, ◌<◌, ◌≡◌, ◌⊎◌, ◌||◌, not, length, Ok, Err}
use Rattle.std.proofs.Common.{arith, ◌∙◌, subst, lt→ltb, eqb→eq}
use Rattle.std.proofs.Math.Path.{sym, ap}
use Rattle.std.proofs.Math.Logic.{⊎_elim}
use Rattle.std.proofs.Math.Option.{some}
use Rattle.std.proofs.Math.Dec.{T, ltb, eqb, ltb→lt, eqb_refl}
use Rattle.lists.specs.Tests.{or_cases, or_left, or_right, not-passes, not-fails}
use Rattle.refusal.specs.declared.Refusal.{Refusal}
use Rattle.refusal.specs.declared.Refusal.TheVariants.{TooWide, Uneven, HighNet}
use Rattle.refusal.specs.Refusals.{◌or_else◌}
use Rattle.refusal.specs.ChainLaws.{none-refuse-if, some-refuse-if, refuse-none, refuse-first, none-or-else-later}
use Rattle.refusal.specs.ChainLaws.{some-or-else, answered-none, answered-some}
use Rattle.channel.specs.Channel.{Channel, positions, widest}
use Rattle.channel.specs.Answers.{too_wide, uneven, high_net, rows_refusal, rows_answer}
use Rattle.channel.specs.Rows.{high, first_high}
use Rattle.channel.specs.RowLaws.{first-high-neither}

module _ (ch : Channel) where
  -- no row is over 512
  pub record Narrow : Type 0 where
    pub top-narrow : length ch.top ≤ widest
    pub bot-narrow : length ch.bot ≤ widest

  -- and the rows are as long as each other, and not empty
  pub record Even : Type 0 where
    pub narrow : Narrow
    pub same : length ch.top ≡ length ch.bot
    pub filled : length ch.top ≡ 0 → ⊥

  -- and no number is over 511
  pub record Low : Type 0 where
    pub even : Even
    pub top-low : first_high ch.top ≡ 0
    pub bot-low : first_high ch.bot ≡ 0

  -- the answer of each test, and what is left of the chain past it
  refused : (r : Refusal) → rows_refusal ch ≡ some r → Err r ≡ rows_answer ch
  unfolding rows_answer
  refused r e = sym (answered-some Err (rows_refusal ch) (Ok tt) r e)

  pub answer-wide : (widest < length ch.top) ⊎ (widest < length ch.bot)
      → Err (TooWide 513) ≡ rows_answer ch
  unfolding rows_refusal too_wide
  answer-wide h =
      let a = ltb widest (length ch.top) in
      let b = ltb widest (length ch.bot) in
      refused (TooWide 513) (some-or-else (too_wide ch) (uneven ch or_else high_net ch) (TooWide 513)
      (some-refuse-if (a || b) (TooWide 513) (⊎_elim (λ l. or_left a b (lt→ltb widest (length ch.top) l))
      (λ l. or_right a b (lt→ltb widest (length ch.bot) l)) h)))

  past-wide : Narrow → rows_refusal ch ≡ (uneven ch or_else high_net ch)
  unfolding rows_refusal too_wide
  past-wide n =
      let a = ltb widest (length ch.top) in
      let b = ltb widest (length ch.bot) in
      none-or-else-later (too_wide ch) (uneven ch or_else high_net ch)
      (none-refuse-if (a || b) (TooWide (suc widest))
      (λ t. ⊎_elim (λ k. let l = ltb→lt widest (length ch.top) k in omega arith)
      (λ k. let l = ltb→lt widest (length ch.bot) k in omega arith) (or_cases a b t)))

  pub answer-uneven : Narrow → (length ch.top ≡ length ch.bot → ⊥) ⊎ (length ch.top ≡ 0) → (p : ℕ)
      → p ≡ suc (min (length ch.top) (length ch.bot)) → Err (Uneven p) ≡ rows_answer ch
  unfolding uneven
  answer-uneven n h p e =
      let a = eqb (length ch.top) (length ch.bot) in
      let b = eqb (length ch.top) 0 in
      let q = Uneven (suc (min (length ch.top) (length ch.bot))) in
      ap (λ (k : ℕ). Err (Uneven k)) e ∙ refused q
      (past-wide n ∙ some-or-else (uneven ch) (high_net ch) q
      (some-refuse-if (not a || b) q (⊎_elim (λ o. or_left (not a) b
      (not-passes a (λ t. o (eqb→eq (length ch.top) (length ch.bot) t))))
      (λ z. or_right (not a) b (subst (λ (k : ℕ). T (eqb k 0)) (sym z) (eqb_refl 0))) h)))

  past-uneven : Even → rows_refusal ch ≡ high_net ch
  unfolding uneven
  past-uneven s =
      let a = eqb (length ch.top) (length ch.bot) in
      let b = eqb (length ch.top) 0 in
      past-wide s.narrow ∙ none-or-else-later (uneven ch) (high_net ch)
      (none-refuse-if (not a || b) _ (λ t. ⊎_elim (λ k.
      not-fails a k (subst (λ (m : ℕ). T (eqb (length ch.top) m)) s.same (eqb_refl (length ch.top))))
      (λ k. s.filled (eqb→eq (length ch.top) 0 k)) (or_cases (not a) b t)))

  pub answer-high : Even → {p : ℕ} → first_high (positions ch) ≡ p → (p ≡ 0 → ⊥) → Err (HighNet p) ≡ rows_answer ch
  unfolding high_net first_high
  answer-high s {p} e h =
      refused (HighNet p) (past-uneven s ∙ (refuse-first HighNet (high (positions ch)) (length (positions ch))
      (λ z. h (sym e ∙ z)) ∙ ap (λ (k : ℕ). some (HighNet k)) e))

  pub answer-accepted : Low → Ok tt ≡ rows_answer ch
  unfolding rows_answer high_net first_high
  answer-accepted l =
      sym (answered-none Err (rows_refusal ch) (Ok tt)
      (past-uneven l.even ∙ refuse-none HighNet (high (positions ch)) (length (positions ch))
      (first-high-neither ch.top ch.bot l.top-low l.bot-low)))
