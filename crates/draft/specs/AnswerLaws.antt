-- The refusals of the calls, case by case, and that the place of each is the net number or the length of a draft.
use Rattle.std.specs.Prelude.{ℕ, ◌≤◌, ◌<◌, ◌≡◌, List, Bool, true, false, length, Result, Ok, Err, Some, None}
use Rattle.std.specs.Prelude as prelude
use Rattle.std.specs.Option.{ok_or}
use Rattle.std.specs.Result.{IsErrAnd}
use Rattle.std.proofs.Common.{arith, sym, ◌∙◌, subst, ⊎_elim, lt-ltb, le-ltb}
use Rattle.std.proofs.Math.Decide.{dec_lt}
use Rattle.std.proofs.Math.Option.{Option, none, some, none-ne-some, some-injective}
use Rattle.lists.specs.Lists.{keep}
use Rattle.refusal.specs.declared.Refusal.{Refusal}
use Rattle.refusal.specs.declared.Refusal.TheVariants.{ShortTray, BadSpan, AlreadyHere, NotHere}
use Rattle.refusal.specs.Refusals.{place_of, refuse_if, refuse_at_first, ◌or_else◌}
use Rattle.refusal.specs.ChainLaws.{handed-on, or_else_some, refuse-if-some}
use Rattle.refusal.specs.Trays.{draft_tray, short_tray}
use Rattle.draft.specs.Marks.{LongDraft, is_here}
use Rattle.draft.specs.Answers.{good_number, good_span, short_draft, arrival_refusal, leaving_refusal}
use Rattle.draft.specs.Answers.{arrive_refusal, leave_refusal}

-- what `?` hands on where there was no value is the refusal that stood for it
pub none-handed : {A B : Type 0} (a : Result A Refusal) (found : prelude.Option B) {r q : Refusal}
    → IsErrAnd a (λ s. s ≡ r) → Err r ≡ ok_or found q → a ≡ Err q
none-handed a None h e = handed-on a h ∙ cc
none-handed a (Some x) h e = absurd cc

-- refusal 1
pub long-silent : (words : List ℕ) → LongDraft words → short_draft words ≡ none
unfolding short_draft short_tray keep refuse_at_first
long-silent words long = rw (le-ltb (length words) draft_tray long)

pub short-told : (words : List ℕ) → length words < draft_tray → short_draft words ≡ some (ShortTray draft_tray)
unfolding short_draft short_tray keep refuse_at_first
short-told words short = rw (lt-ltb (length words) draft_tray short)

-- what follows refusal 1 in each chain
module _ (words : List ℕ) (n first last : ℕ) where
  pub arrive-short : length words < draft_tray → arrive_refusal words n first last ≡ some (ShortTray draft_tray)
  unfolding arrive_refusal ◌or_else◌
  arrive-short short = rw (short-told words short)

  pub arrive-bad : LongDraft words → good_span n first last ≡ false
      → arrive_refusal words n first last ≡ some (BadSpan n)
  unfolding arrive_refusal arrival_refusal refuse_if ◌or_else◌
  arrive-bad long bad = rw (long-silent words long, bad)

  pub arrive-here : LongDraft words → good_span n first last ≡ true → is_here words n ≡ true
      → arrive_refusal words n first last ≡ some (AlreadyHere n)
  unfolding arrive_refusal arrival_refusal refuse_if ◌or_else◌
  arrive-here long good here = rw (long-silent words long, good, here)

  pub arrive-silent : LongDraft words → good_span n first last ≡ true → is_here words n ≡ false
      → arrive_refusal words n first last ≡ none
  unfolding arrive_refusal arrival_refusal refuse_if ◌or_else◌
  arrive-silent long good here = rw (long-silent words long, good, here)

module _ (words : List ℕ) (n : ℕ) where
  pub leave-short : length words < draft_tray → leave_refusal words n ≡ some (ShortTray draft_tray)
  unfolding leave_refusal ◌or_else◌
  leave-short short = rw (short-told words short)

  pub leave-bad : LongDraft words → good_number n ≡ false → leave_refusal words n ≡ some (BadSpan n)
  unfolding leave_refusal leaving_refusal refuse_if ◌or_else◌
  leave-bad long bad = rw (long-silent words long, bad)

  pub leave-absent : LongDraft words → good_number n ≡ true → is_here words n ≡ false
      → leave_refusal words n ≡ some (NotHere n)
  unfolding leave_refusal leaving_refusal refuse_if ◌or_else◌
  leave-absent long good here = rw (long-silent words long, good, here)

  pub leave-silent : LongDraft words → good_number n ≡ true → is_here words n ≡ true → leave_refusal words n ≡ none
  unfolding leave_refusal leaving_refusal refuse_if ◌or_else◌
  leave-silent long good here = rw (long-silent words long, good, here)

-- the place of every refusal is the net number, or the length of a draft
abbrev pub Below : ℕ → Option Refusal → Type 0
Below m a = (q : Refusal) → a ≡ some q → place_of q ≤ m

below-if : (m : ℕ) (b : Bool) (r : Refusal) → place_of r ≤ m → Below m (refuse_if b r)
below-if m b r h q e = let s = refuse-if-some b r q e in subst (λ (o : Refusal). place_of o ≤ m) s.1 h

below-either : (m : ℕ) (a b : Option Refusal) → Below m a → Below m b → Below m (a or_else b)
below-either m a b h k q e = ⊎_elim (h q) (λ s. k q s.1) (or_else_some a b q e)

pub below-short : (m : ℕ) (words : List ℕ) → draft_tray ≤ m → Below m (short_draft words)
below-short m words h q e =
    elim (dec_lt (length words) draft_tray) [
      | yes short ↦
          (let same = some-injective (ShortTray draft_tray) q (sym (short-told words short) ∙ e) in
          subst (λ (o : Refusal). place_of o ≤ m) same h)
      | no long ↦ absurd (none-ne-some q (sym (long-silent words (omega arith)) ∙ e))
    ]

module _ (m : ℕ) (words : List ℕ) (long : draft_tray ≤ m) (n : ℕ) (small : n ≤ m) where
  pub arrive-below : (first last : ℕ) → Below m (arrive_refusal words n first last)
  unfolding arrive_refusal arrival_refusal
  arrive-below first last =
      below-either m (short_draft words) _ (below-short m words long)
      (below-either m _ _ (below-if m _ (BadSpan n) small) (below-if m _ (AlreadyHere n) small))

  pub leave-below : Below m (leave_refusal words n)
  unfolding leave_refusal leaving_refusal
  leave-below =
      below-either m (short_draft words) _ (below-short m words long)
      (below-either m _ _ (below-if m _ (BadSpan n) small) (below-if m _ (NotHere n) small))
