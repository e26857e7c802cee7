-- SCOPE, "Judge, blanks, programs": the stock blanks and the choice among them.
use Rattle.std.specs.Prelude.{ℕ, List, [], ◌∷◌, leb, ltb, Result}
use Rattle.std.proofs.Math.Option.{Option}
use Rattle.lists.specs.Lists.{keep, head_or}
use Rattle.refusal.specs.declared.Refusal.{Refusal}
use Rattle.refusal.specs.declared.Refusal.TheVariants.{NoBlank}
use Rattle.refusal.specs.Refusals.{Told, refuse_if, ok_unless, told}

-- "Stock blanks hold 8, 12, 16, 24, 32, 48, 64, 96, 128, 192, 256, 512 tracks"
unfoldable pub stock : List ℕ
stock = 8 ∷ 12 ∷ 16 ∷ 24 ∷ 32 ∷ 48 ∷ 64 ∷ 96 ∷ 128 ∷ 192 ∷ 256 ∷ 512 ∷ []

-- "the smallest that holds t is chosen", of a rising table; 0 where none does
unfoldable pub smallest_for : List ℕ → ℕ → ℕ
smallest_for table t = head_or 0 (keep (leb t) table)

-- 14: "blank wanted for over 512 tracks; that number"
unfoldable pub no_blank : ℕ → Option Refusal
no_blank t = refuse_if (ltb 512 t) (NoBlank t)

unfoldable pub blank_answer : ℕ → Result ℕ Refusal
blank_answer t = ok_unless (no_blank t) (smallest_for stock t)

abbrev pub blank_told : Result ℕ Refusal → Told
blank_told = told (λ b. b ∷ [])
