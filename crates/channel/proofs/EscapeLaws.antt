-- The check of rows accepts exactly the channels that escape refusals 3 to 5. The numbers of such a channel are low.
use Rattle.std.specs.Prelude.{ℕ, zero, suc, ◌+◌, ◌-◌, ◌≤◌, ◌≡◌, refl, ◌↔◌, Bool, ◌||◌, not, length, get_or, T, ltb, eqb}
use Rattle.std.proofs.Common.{arith, sym, ◌∙◌, subst, ⊎_elim, ltb→lt, lt→ltb, eqb→eq}
use Rattle.std.proofs.Math.Decide.{dec_le}
use Rattle.std.proofs.Math.Option.{none}
use Rattle.std.proofs.Math.Dec.{eqb_refl}
use Rattle.lists.specs.Lists.{keep, up_to, at}
use Rattle.lists.specs.Tests.{or_cases, or_left, or_right, not-passes, not-fails, equal?}
use Rattle.lists.specs.Members.{up_to-member, in-up_to}
use Rattle.lists.specs.Ends.{at_suc, at-inside, at_next}
use Rattle.lists.specs.Ranges.{none-kept→fails, fails→none-kept}
use Rattle.refusal.specs.declared.Refusal.TheVariants.{HighNet}
use Rattle.refusal.specs.Refusals.{◌or_else◌}
use Rattle.refusal.specs.ChainLaws.{or_else_none, none-or-else, refuse-if-none, none-refuse-if, refuse-at-first-none}
use Rattle.refusal.specs.ChainLaws.{none-refuse-at-first}
use Rattle.channel.specs.Channel.{Channel, width, positions, highest_net, widest}
use Rattle.channel.specs.Answers.{too_wide, uneven, high_net, rows_refusal, Escapes}
use Rattle.channel.proofs.Laws.{PinAmong, top-holds, bot-holds, Standing, on-top, on-bot, standing}

abbrev wide_test : Channel → Bool
wide_test ch = ltb widest (length ch.top) || ltb widest (length ch.bot)

abbrev uneven_test : Channel → Bool
uneven_test ch = not (eqb (length ch.top) (length ch.bot)) || eqb (length ch.top) 0

abbrev high : Channel → ℕ → Bool
high ch p = ltb highest_net (at (positions ch) p)

-- none of the three is said exactly if no test passes
pub record Silent (ch : Channel) : Type 0 where
  pub not_wide : T (wide_test ch) → ⊥
  pub not_uneven : T (uneven_test ch) → ⊥
  pub not_high : (p : ℕ) → 1 ≤ p → p ≤ length (positions ch) → T (high ch p) → ⊥

silent→ : (ch : Channel) → rows_refusal ch ≡ none → Silent ch
unfolding rows_refusal too_wide uneven high_net
silent→ ch h =
    let a = or_else_none (too_wide ch) (uneven ch or_else high_net ch) h in
    let b = or_else_none (uneven ch) (high_net ch) a.1 in
    record {
      not_wide = refuse-if-none (wide_test ch) _ a.0;
      not_uneven = refuse-if-none (uneven_test ch) _ b.0;
      not_high = λ p h₁ h₂ t. none-kept→fails (high ch)
          (refuse-at-first-none HighNet (keep (high ch) (up_to (length (positions ch)))) b.1)
          (in-up_to (length (positions ch)) p h₁ h₂) t;
    }

→silent : (ch : Channel) → Silent ch → rows_refusal ch ≡ none
unfolding rows_refusal too_wide uneven high_net
→silent ch s =
    none-or-else (too_wide ch) (uneven ch or_else high_net ch)
    (none-refuse-if (wide_test ch) _ s.not_wide)
    (none-or-else (uneven ch) (high_net ch) (none-refuse-if (uneven_test ch) _ s.not_uneven)
    (none-refuse-at-first HighNet (keep (high ch) (up_to (length (positions ch))))
    (fails→none-kept (high ch) (up_to (length (positions ch)))
    (λ p m. let r = up_to-member (length (positions ch)) m in s.not_high p r.0 r.1))))

silent→even : (ch : Channel) → Silent ch → length ch.bot ≡ width ch
silent→even ch s =
    ⊎_elim (λ e. sym e) (λ o. absurd (s.not_uneven
    (or_left (not (eqb (length ch.top) (length ch.bot))) (eqb (length ch.top) 0)
    (not-passes (eqb (length ch.top) (length ch.bot))
    (λ t. o (eqb→eq (length ch.top) (length ch.bot) t))))))
    (equal? (length ch.top) (length ch.bot))

-- what stands at a pin position
position-holds : (ch : Channel) (n i : ℕ) → PinAmong ch n i
    → (1 ≤ suc i) × (suc i ≤ length (positions ch)) × (at (positions ch) (suc i) ≡ n)
position-holds ch n i p = (omega arith, p.in_row, at_suc (positions ch) i ∙ p.holds)

at_most : (ch : Channel) → Silent ch → (n i : ℕ) → PinAmong ch n i → n ≤ highest_net
at_most ch s n i p =
    let r = position-holds ch n i p in
    elim (dec_le n highest_net) [
      | yes h ↦ h
      | no h ↦
          absurd (s.not_high (suc i) r.0 r.1 (lt→ltb highest_net (at (positions ch) (suc i))
          (let e = r.2 in omega arith)))
    ]

silent→escapes : (ch : Channel) → Silent ch → Escapes ch
silent→escapes ch s =
    record {
      narrow = elim (dec_le (width ch) widest) [
        | yes h ↦ h
        | no h ↦
            absurd (s.not_wide (or_left (ltb widest (length ch.top)) (ltb widest (length ch.bot))
            (lt→ltb widest (length ch.top) (omega arith))))
      ];
      even = even;
      wide =
          ⊎_elim
          (λ e.
          absurd (s.not_uneven (or_right (not (eqb (length ch.top) (length ch.bot))) (eqb (length ch.top) 0)
          (subst (λ (k : ℕ). T (eqb k 0)) (sym e) (eqb_refl 0))))) (λ o. omega (arith, o)) (equal? (width ch) 0);
      low = λ c. (top-low c, bot-low c);
    }
  where
    even : length ch.bot ≡ width ch
    even = silent→even ch s

    top-low : (c : ℕ) → at ch.top c ≤ highest_net
    top-low c =
        ⊎_elim (λ e. omega arith) (λ o. let r = at-inside ch.top c (omega (arith, o)) in
        at_most ch s (at ch.top c) (c - 1) (top-holds ch (at ch.top c) c r.0 r.1 refl))
        (equal? (at ch.top c) 0)

    bot-low : (c : ℕ) → at ch.bot c ≤ highest_net
    bot-low c =
        ⊎_elim (λ e. omega arith) (λ o. let r = at-inside ch.bot c (omega (arith, o)) in
        at_most ch s (at ch.bot c) (width ch + (c - 1))
        (bot-holds ch (at ch.bot c) c even r.0 (let h = r.1 in omega (arith, even)) refl))
        (equal? (at ch.bot c) 0)

escapes→silent : (ch : Channel) → Escapes ch → Silent ch
escapes→silent ch e = record { not_wide = not_wide; not_uneven = not_uneven; not_high = not_high }
  where
    not_wide : T (wide_test ch) → ⊥
    not_wide t =
        let a = e.narrow in
        let b = e.even in
        ⊎_elim (λ k. let l = ltb→lt widest (length ch.top) k in omega arith)
        (λ k. let l = ltb→lt widest (length ch.bot) k in omega arith)
        (or_cases (ltb widest (length ch.top)) (ltb widest (length ch.bot)) t)

    not_uneven : T (uneven_test ch) → ⊥
    not_uneven t =
        let a = e.wide in
        ⊎_elim (λ k. not-fails (eqb (length ch.top) (length ch.bot)) k
        (subst (λ (n : ℕ). T (eqb (length ch.top) n)) (sym e.even) (eqb_refl (length ch.top))))
        (λ k. let l = eqb→eq (length ch.top) 0 k in omega arith)
        (or_cases (not (eqb (length ch.top) (length ch.bot))) (eqb (length ch.top) 0) t)

    bounded : (n i : ℕ) → Standing ch n i → n ≤ highest_net
    bounded n i (on-top c h₁ h₂ q t) = let k = (e.low c).0 in omega arith
    bounded n i (on-bot c h₁ h₂ q t) = let k = (e.low c).1 in omega arith

    not_high : (p : ℕ) → 1 ≤ p → p ≤ length (positions ch) → T (high ch p) → ⊥
    not_high zero h₁ h₂ t = omega arith
    not_high (suc i) h₁ h₂ t =
        let n = get_or (positions ch) i 0 in
        let b = bounded n i (standing ch n i e.even (record { in_row = h₂; holds = refl })) in
        let k = ltb→lt highest_net (at (positions ch) (suc i)) t in
        let q = at_suc (positions ch) i in
        omega arith

-- the row check answers accepted exactly if the channel escapes refusals 3 to 5
pub accepted-exactly : (ch : Channel) → (rows_refusal ch ≡ none) ↔ Escapes ch
accepted-exactly ch = (λ h. silent→escapes ch (silent→ ch h), λ e. →silent ch (escapes→silent ch e))

-- what stands at place k of a row is at most 511
module _ (ch : Channel) (k : ℕ) where
  pub top-low : Escapes ch → get_or ch.top k 0 ≤ highest_net
  top-low esc = let e = at_next ch.top k in let h = (esc.low (k + 1)).0 in omega arith

  pub bot-low : Escapes ch → get_or ch.bot k 0 ≤ highest_net
  bot-low esc = let e = at_next ch.bot k in let h = (esc.low (k + 1)).1 in omega arith
