-- What the functions that find the faults ask and answer.
use Prim.Native.Nat.{ℕ, ◌+◌, ◌≤◌, ◌<◌}
use Rattle.std.specs.Prelude.{◌≡◌, Bool, true, false, length, get_or, set, slice_get}
use mathlib.Core.List.{List, ◌∷◌, map}
use Rattle.std.proofs.Math.Option.{Option, none, some}
use Rattle.grid.specs.Pieces.{Layout}
use Rattle.channel.specs.Channel.{Channel, width}
use Rattle.judge.specs.declared.Fault.{Fault}
use Rattle.std.specs.declared.option.Option as Maybe
use Rattle.std.specs.Prelude.{Some, None}
use Rattle.classes.specs.Halves.{half, low_half, high_half}
use Rattle.judge.specs.Finding.{shorts, floating}
use Rattle.judge.specs.SameFinding.{found_by}
use Rattle.judge.specs.Searches.{Owned}

-- the marks of the elements, from 1: the low halves, each a root
unfoldable pub marks_in : List ℕ → List ℕ
marks_in s = map (λ v. low_half v + 1) s

-- by mark, the nets of the classes: the high halves of the roots
unfoldable pub owners_in : List ℕ → List ℕ
owners_in s = 0 ∷ map high_half s

-- a root for each pin place and each piece
pub record FaultReady (ch : Channel) (s : List ℕ) : Type 0 where
  pub long : width ch + width ch ≤ length s
  pub small : length s ≤ half
  pub marked : (i : ℕ) → i < length s → get_or (marks_in s) i 0 ≤ length s

-- whether a pin may have a place of a table for its value, and the table then
pub data Claimed (table : List ℕ) (place value : ℕ) : Bool → List ℕ → Type 0 where
  free : get_or table place 0 ≡ 0 → Claimed table place value true (set table place value)
  same : (get_or table place 0 ≡ 0 → ⊥) → get_or table place 0 ≡ value → Claimed table place value true table
  other : (get_or table place 0 ≡ 0 → ⊥) → (get_or table place 0 ≡ value → ⊥) → Claimed table place value false table

-- the same of a pin's class, for its net: the marks stay
pub record ClassClaimed (s : List ℕ) (i net : ℕ) (r : Bool) (s' : List ℕ) : Type 0 where
  pub marks : marks_in s' ≡ marks_in s
  pub claimed : Claimed (owners_in s) (get_or (marks_in s) i 0) net r (owners_in s')

-- the first of a list of places, if there is one
abbrev pub first_of : List ℕ → Maybe.Option ℕ
first_of places = slice_get places 0

-- the first short; where there is none, the owner of each mark is known
pub record ShortFound (ch : Channel) (s : List ℕ) (r : Maybe.Option ℕ) (s' : List ℕ) : Type 0 where
  pub first : r ≡ first_of (shorts ch (marks_in s))
  pub marks : marks_in s' ≡ marks_in s
  pub owned : r ≡ None → Owned ch (marks_in s) (owners_in s') (width ch + width ch)

-- the first floating piece, whatever the channel whose owners these are
abbrev pub FirstFloating : List ℕ → ℕ → List ℕ → Maybe.Option ℕ → Type 0
FirstFloating ms base owners r =
    (ch : Channel) (l : Layout) → width ch + width ch ≡ base → base + length l.pieces ≡ length ms
    → Owned ch ms owners base → r ≡ first_of (floating ch l ms)

unfoldable pub found_of : Option Fault → Maybe.Option Fault
found_of none = None
found_of (some f) = Some f

-- what is found by these marks, whatever the layout that has so many pieces
abbrev pub Finds : Channel → List ℕ → Maybe.Option Fault → Type 0
Finds ch s r =
    (l : Layout) → width ch + width ch + length l.pieces ≡ length s → r ≡ found_of (found_by ch l (marks_in s))
