-- What C reads in an entry's number is what was answered, and values that fit are their own number. Refusals have
-- numbers of at most 23, so that one with its place fits 64 bits.
use Rattle.std.specs.Prelude.{ℕ, ◌+◌, ◌*◌, ◌/◌, ◌%◌, ◌≤◌, ◌<◌, ◌≡◌, refl, List, [], ◌∷◌, ◌↔◌, Result, Ok, Err, MatchResult}
use Rattle.std.proofs.Common.{arith, sym, ◌∙◌}
use Rattle.std.proofs.Math.Option.{Option, none}
use Rattle.refusal.specs.declared.Refusal.{Refusal}
use Rattle.refusal.specs.declared.Refusal.TheVariants.{
  ShortTray,
  Garbled,
  TooWide,
  Uneven,
  HighNet,
  Tangled,
  Torn,
  BadField,
  WrongBoard,
  NoBlank,
  BadTable,
  NoStock,
  PanelFull,
  BadSpan,
  AlreadyHere,
  NotHere,
}
use Rattle.refusal.specs.Refusals.{number_of, place_of, Told, told_at, told_values, told_by}
use Rattle.refusal.specs.ToldLaws.{told-zero}
use Rattle.screen_api.specs.Numbers.{packed, entry_number, refusal_in, place_in, tracks_in, pieces_in, Decoded}

pub refusal-small : (r : Refusal) → number_of r ≤ 23
refusal-small (ShortTray p) = omega arith
refusal-small (Garbled p) = omega arith
refusal-small (TooWide p) = omega arith
refusal-small (Uneven p) = omega arith
refusal-small (HighNet p) = omega arith
refusal-small (Tangled p) = omega arith
refusal-small (Torn p) = omega arith
refusal-small (BadField p) = omega arith
refusal-small (WrongBoard p) = omega arith
refusal-small (NoBlank p) = omega arith
refusal-small (BadTable p) = omega arith
refusal-small (NoStock p) = omega arith
refusal-small (PanelFull p) = omega arith
refusal-small (BadSpan p) = omega arith
refusal-small (AlreadyHere p) = omega arith
refusal-small (NotHere p) = omega arith

-- 18 is the number of one refusal alone
pub eighteen : (r : Refusal) → number_of r ≡ 18 → r ≡ PanelFull (place_of r)
eighteen (ShortTray p) e = absurd (omega arith)
eighteen (Garbled p) e = absurd (omega arith)
eighteen (TooWide p) e = absurd (omega arith)
eighteen (Uneven p) e = absurd (omega arith)
eighteen (HighNet p) e = absurd (omega arith)
eighteen (Tangled p) e = absurd (omega arith)
eighteen (Torn p) e = absurd (omega arith)
eighteen (BadField p) e = absurd (omega arith)
eighteen (WrongBoard p) e = absurd (omega arith)
eighteen (NoBlank p) e = absurd (omega arith)
eighteen (BadTable p) e = absurd (omega arith)
eighteen (NoStock p) e = absurd (omega arith)
eighteen (PanelFull p) e = refl
eighteen (BadSpan p) e = absurd (omega arith)
eighteen (AlreadyHere p) e = absurd (omega arith)
eighteen (NotHere p) e = absurd (omega arith)

-- what holds after a value and after a refusal holds after an answer
pub each-answer : {A G : Type 0} {P : A → Type 0} {Q : Refusal → Type 0} (a : Result A Refusal) → MatchResult a P Q
    → ((v : A) → a ≡ Ok v → P v → G) → ((q : Refusal) → a ≡ Err q → Q q → G) → G
each-answer (Ok v) h f g = f v refl h
each-answer (Err q) h f g = g q refl h

-- values that fit
pub value-number : {v : ℕ} → v < 4294967296 → v ≡ entry_number (told_values (v ∷ []))
unfolding entry_number packed
value-number h = omega arith

pub pair-number : {v w : ℕ} → v < 65536 → w < 65536 → v * 65536 + w ≡ entry_number (told_values (v ∷ w ∷ []))
unfolding entry_number packed
pair-number h k = omega arith

pub decoded : {told : Told} {r : ℕ} → r ≡ entry_number told → Decoded told r
unfolding entry_number refusal_in place_in
decoded e = record { number = omega arith; place = omega arith }

-- what is promised of the number answered holds of the number that C reads
pub number-exactly : {told : Told} {r k : ℕ} {P : Type 0} → Decoded told r → ((told.number ≡ k) ↔ P)
    → (refusal_in r ≡ k) ↔ P
number-exactly d exactly = (λ h. exactly.0 (sym d.number ∙ h), λ p. d.number ∙ exactly.1 p)

-- a place that fits comes back
pub place-back : {r p : ℕ} (n : ℕ) → r ≡ entry_number (told_at n p) → p < 65536 → place_in r ≡ p
unfolding packed
place-back n e h = let d = (decoded e).place in omega arith

-- and so does a value
pub value-back : {r v : ℕ} → r ≡ entry_number (told_values (v ∷ [])) → v < 4294967296 → place_in r ≡ v
unfolding packed
value-back e h = let d = (decoded e).place in omega arith

-- both halves of two values come back
pub record Halves (v w r : ℕ) : Type 0 where
  pub upper : place_in r / 65536 ≡ v
  pub lower : place_in r % 65536 ≡ w
  pub pieces : pieces_in r ≡ v
  pub tracks : tracks_in r ≡ w

pub pair-back : {v w r : ℕ} → v < 65536 → w < 65536 → r ≡ entry_number (told_values (v ∷ w ∷ [])) → Halves v w r
unfolding entry_number packed place_in pieces_in tracks_in
pair-back h k e = record { upper = omega arith; lower = omega arith; pieces = omega arith; tracks = omega arith }

-- 0 is read exactly where nothing is refused, and then the number is that of the values
module _ (a : Option Refusal) (vs : List ℕ) {r : ℕ} (e : r ≡ entry_number (told_by a vs)) where
  pub zero-exactly : (refusal_in r ≡ 0) ↔ (a ≡ none)
  zero-exactly = number-exactly (decoded e) (told-zero a vs)

  pub zero→values : refusal_in r ≡ 0 → r ≡ entry_number (told_values vs)
  unfolding told_by
  zero→values h = rw (zero-exactly.0 h) at e
