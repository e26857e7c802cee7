-- SCOPE, "The shop's refusal words": the number and the place of each, and how a chain of them is put together in
-- rising number.
use Rattle.std.specs.Prelude.{ℕ, Bool, cond, List, [], ◌∷◌, Result, Ok, Err}
use Rattle.std.proofs.Math.Option.{Option, none, some}
use Rattle.lists.specs.Lists.{overlay}
use Rattle.refusal.specs.declared.Refusal.{Refusal}
use Rattle.refusal.specs.declared.Refusal.TheVariants.{
  ShortTray,
  Garbled,
  TooWide,
  Uneven,
  HighNet,
  Tangled,
  Torn,
  BadField,
  WrongBoard,
  NoBlank,
  BadTable,
  NoStock,
  PanelFull,
  BadSpan,
  AlreadyHere,
  NotHere,
}

-- the column "number"; SCOPE, Req 04: "Refusal 6 is no longer given"; Req 03: "15, bad table", "16, no stock"; Req 09:
-- "18, panel full"; Req 14: "21, bad span", "22, already here", "23, not here"
abbrev pub number_of : Refusal → ℕ
number_of (ShortTray p) = 1
number_of (Garbled p) = 2
number_of (TooWide p) = 3
number_of (Uneven p) = 4
number_of (HighNet p) = 5
number_of (Tangled p) = 7
number_of (Torn p) = 8
number_of (BadField p) = 9
number_of (WrongBoard p) = 10
number_of (NoBlank p) = 14
number_of (BadTable p) = 15
number_of (NoStock p) = 16
number_of (PanelFull p) = 18
number_of (BadSpan p) = 21
number_of (AlreadyHere p) = 22
number_of (NotHere p) = 23

-- the place that the column "Given when; place" names
abbrev pub place_of : Refusal → ℕ
place_of (ShortTray p) = p
place_of (Garbled p) = p
place_of (TooWide p) = p
place_of (Uneven p) = p
place_of (HighNet p) = p
place_of (Tangled p) = p
place_of (Torn p) = p
place_of (BadField p) = p
place_of (WrongBoard p) = p
place_of (NoBlank p) = p
place_of (BadTable p) = p
place_of (NoStock p) = p
place_of (PanelFull p) = p
place_of (BadSpan p) = p
place_of (AlreadyHere p) = p
place_of (NotHere p) = p

-- an answer in the scope's numbers: the refusal's or fault's number and its place, or 0 and the values answered
pub record Told : Type 0 where
  pub number : ℕ
  pub values : List ℕ

abbrev pub told_at : ℕ → ℕ → Told
told_at number place = record { number = number; values = place ∷ [] }

abbrev pub told_refusal : Refusal → Told
told_refusal r = told_at (number_of r) (place_of r)

abbrev pub told_values : List ℕ → Told
told_values vs = record { number = 0; values = vs }

-- an operation's answer in the scope's numbers: its refusal's, or 0 and the values
unfoldable pub told_by : Option Refusal → List ℕ → Told
told_by none vs = told_values vs
told_by (some r) vs = told_refusal r

-- refused under this condition
unfoldable pub refuse_if : Bool → Refusal → Option Refusal
refuse_if condition r = cond condition (some r) none

-- refused at the first of these places, if there is one
unfoldable pub refuse_at_first : (ℕ → Refusal) → List ℕ → Option Refusal
refuse_at_first r [] = none
refuse_at_first r (p ∷ ps) = some (r p)

-- "Order is rising number": the first refusal, or else what the later ones say
unfoldable pub ◌or_else◌ : Option Refusal → Option Refusal → Option Refusal
◌or_else◌ none later = later
◌or_else◌ (some r) later = some r

infixr 30 ◌or_else◌
-- the answer of an operation: that of its refusal, or else its success
unfoldable pub answered : {A : Type 0} → (Refusal → A) → Option Refusal → A → A
answered refused none success = success
answered refused (some r) success = refused r

-- the answer of an operation that has a value: that value, unless it is refused
abbrev pub ok_unless : {A : Type 0} → Option Refusal → A → Result A Refusal
ok_unless refused value = answered Err refused (Ok value)

-- such an answer in the scope's numbers, by the values that it shows
unfoldable pub told : {A : Type 0} → (A → List ℕ) → Result A Refusal → Told
told shows (Ok value) = told_values (shows value)
told shows (Err r) = told_refusal r

-- "Success fills the front of each output buffer; the remainder is untouched"; under a refusal "lent memory stays"
unfoldable pub filled_unless : {A : Type 0} → Option Refusal → List A → List A → List A
filled_unless none front buffer = overlay front buffer
filled_unless (some r) front buffer = buffer
