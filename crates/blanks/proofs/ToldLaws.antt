-- The choice of a blank is told by its refusal, of the stock exactly over 512 tracks, or by the tracks of the blank, at
-- most 512. The place of a refusal is no larger, or the tracks themselves.
use Rattle.std.specs.Prelude.{ℕ, max, ◌≤◌, ◌<◌, ◌≡◌, List, [], ◌∷◌, ◌↔◌, Result, Ok}
use native.Mathlib.Omega.{arith}
use Rattle.std.proofs.Math.Decide.{dec_le}
use Rattle.std.proofs.Math.Path.{ap}
use Rattle.std.proofs.Common.{sym, ◌∙◌, subst}
use borrow.Author.Tests.{lt-ltb, le-ltb}
use Rattle.lists.specs.Lists.{head_or}
use Rattle.refusal.specs.declared.Refusal.{Refusal}
use Rattle.refusal.specs.Refusals.{refuse_if, told_by, told}
use Rattle.refusal.specs.ToldLaws.{told-ok_unless, told-success}
use Rattle.blanks.specs.Stock.{stock, smallest_for, no_blank, blank_answer, blank_told}
use Rattle.blanks.specs.Laminate.{own_refusal, own_answer}
use Rattle.blanks.specs.Promise.{BadAt, no-count, first-bad}
use Rattle.blanks.specs.Code.{value_told}
use Rattle.blanks.proofs.OwnLaws.{Outcome}
use Rattle.blanks.proofs.OwnLaws.{over, bad, none-holds, held, outcome, done}
use Rattle.blanks.proofs.StockLaws.{stock-passes, stock-chosen}

module _ (t : ℕ) where
  pub blank-told : blank_told (blank_answer t) ≡ told_by (no_blank t) (smallest_for stock t ∷ [])
  unfolding blank_answer
  blank-told = told-ok_unless _ (no_blank t) (smallest_for stock t)

  told-small : t ≤ 512 → (blank_told (blank_answer t)).number ≡ 0
  unfolding no_blank refuse_if told_by
  told-small h = rw (blank-told, le-ltb 512 t h)

  told-large : 512 < t → (blank_told (blank_answer t)).number ≡ 14
  unfolding no_blank refuse_if told_by
  told-large h = rw (blank-told, lt-ltb 512 t h)

  pub fourteen-exactly : ((blank_told (blank_answer t)).number ≡ 14) ↔ (512 < t)
  fourteen-exactly = (
    λ e. elim (dec_le t 512) [ yes h ↦ (let z = told-small h in absurd (omega arith)) | no h ↦ omega arith ],
    told-large,
  )

  pub blank-small : {b : ℕ} → blank_answer t ≡ Ok b → b ≤ 512
  unfolding told
  blank-small {b} e = elim (dec_le t 512) [ yes h ↦ chosen h | no h ↦ absurd (none-chosen (told-large (omega arith))) ]
    where
      none-chosen : (blank_told (blank_answer t)).number ≡ 14 → ⊥
      none-chosen z = let n = ap (λ a. (blank_told a).number) e in omega arith

      chosen : t ≤ 512 → b ≤ 512
      chosen h =
          let s = (told-success (no_blank t) (smallest_for stock t ∷ []) (b ∷ []) (sym blank-told ∙ ap blank_told e)).1 in
          let same : smallest_for stock t ≡ b = cc in
          let range = stock-passes.in_range _ (stock-chosen t h).in_table in
          omega arith

module _ (table : List ℕ) (t : ℕ) where
  pub own-told : blank_told (own_answer table t) ≡ told_by (own_refusal table t) (smallest_for table t ∷ [])
  unfolding own_answer
  own-told = told-ok_unless _ (own_refusal table t) (smallest_for table t)

  place-small : {p : ℕ} → BadAt table p → p ≤ 64
  place-small (no-count h e) = omega arith
  place-small (first-bad count lowest) = let inside = lowest.holds.in_table in omega arith

  value-small : {a : Result ℕ Refusal} → Outcome table t a → value_told a ≤ max t 512
  unfolding told head_or
  value-small (over h) = omega arith
  value-small (bad h b) = let few = place-small b in omega arith
  value-small (none-holds h passes below) = omega arith
  value-small (held passes chosen) = let range = passes.in_range _ chosen.in_table in omega arith

  pub own-small : value_told (own_answer table t) ≤ max t 512
  own-small =
      let ended = outcome table t in
      subst (λ a. value_told a ≤ max t 512) (done table t ended.1).answer (value-small ended.1)
