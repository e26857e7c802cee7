-- An operation whose answer is told case by case is told by its refusal; 0 tells that nothing was refused, and so the
-- values that were answered.
use Rattle.std.specs.Prelude.{ℕ, ◌≡◌, refl, List, ◌↔◌}
use Rattle.std.proofs.Common.{arith, ap}
use Rattle.std.proofs.Math.Option.{Option, none, some}
use Rattle.refusal.specs.declared.Refusal.{Refusal}
use Rattle.refusal.specs.Refusals.{Told, told_refusal, told_values, told_by, answered, ok_unless, told}
use Rattle.refusal.specs.TrayLaws.{refusal-numbered}

module _ {A : Type 0} (tell : A → Told) (refused : Refusal → A) (success : A) (vs : List ℕ) where
  pub answered-told : ((r : Refusal) → tell (refused r) ≡ told_refusal r) → tell success ≡ told_values vs
      → (a : Option Refusal) → tell (answered refused a success) ≡ told_by a vs
  unfolding answered told_by
  answered-told h k none = k
  answered-told h k (some r) = h r

-- the same of an answer that is a value or a refusal
pub told-ok_unless : {A : Type 0} (shows : A → List ℕ) (refused : Option Refusal) (value : A)
    → told shows (ok_unless refused value) ≡ told_by refused (shows value)
unfolding answered told told_by
told-ok_unless shows none value = refl
told-ok_unless shows (some r) value = refl

pub told-zero : (a : Option Refusal) (vs : List ℕ) → ((told_by a vs).number ≡ 0) ↔ (a ≡ none)
unfolding told_by
told-zero none vs = (λ h. refl, λ h. refl)
told-zero (some r) vs =
    (λ h. absurd (let n = refusal-numbered r in omega arith), λ h. absurd (let z : ◌≡◌ {A = ℕ} 0 1 = cc in omega arith))

-- what is told as values is no refusal, and they are the values
pub told-success : (a : Option Refusal) (vs ws : List ℕ) → told_by a vs ≡ told_values ws → (a ≡ none) × (vs ≡ ws)
unfolding told_by
told-success none vs ws e = (refl, ap (λ (t : Told). t.values) e)
told-success (some r) vs ws e =
    absurd (let n = refusal-numbered r in let z = ap (λ (t : Told). t.number) e in omega arith)
