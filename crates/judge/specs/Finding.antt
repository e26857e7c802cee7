-- SCOPE, refusals 11 to 13: what the judge finds in a layout, computed from the classes of its elements.
use Rattle.std.specs.Prelude.{ℕ, ◌+◌, List, [], ◌∷◌, ◌&&◌, not, length, ltb, eqb}
use Rattle.std.proofs.Math.Option.{Option, none, some}
use Rattle.lists.specs.Lists.{keep, any_of, up_to, head_or, at}
use Rattle.grid.specs.Pieces.{Layout}
use Rattle.channel.specs.Channel.{Channel, width, positions}
use Rattle.judge.specs.declared.Fault.{Fault}
use Rattle.judge.specs.declared.Fault.TheVariants.{Short, Open, Floating}
use Rattle.judge.specs.Elements.{elements, elements_touch}
use Rattle.classes.specs.Classes.{marks_of, classes}

-- the mark of the pin place at position p is `at marks p`, that of piece i is `at marks (2w + i)`
unfoldable pub marks : Channel → Layout → List ℕ
marks ch l = marks_of (classes (elements_touch ch l.tracks) (elements ch l))

-- the positions that hold a pin
unfoldable pub pins : Channel → List ℕ
pins ch = keep (λ p. ltb 0 (at (positions ch) p)) (up_to (width ch + width ch))

-- the position of the first pin of the net at position p
unfoldable pub first_of_net : Channel → ℕ → ℕ
first_of_net ch p = head_or 0 (keep (λ q. eqb (at (positions ch) q) (at (positions ch) p)) (pins ch))

-- 11: the pins "joined to an earlier pin of another net", by the marks ms
unfoldable pub shorts : Channel → List ℕ → List ℕ
shorts ch ms =
    keep (λ p. any_of (λ q. ltb q p
    && (not (eqb (at (positions ch) q) (at (positions ch) p)) && eqb (at ms q) (at ms p))) (pins ch)) (pins ch)

-- 12: the pins "not joined to its net's first pin"
unfoldable pub opens : Channel → List ℕ → List ℕ
opens ch ms = keep (λ p. not (eqb (at ms (first_of_net ch p)) (at ms p))) (pins ch)

-- 13: the pieces "joined to no pin"
unfoldable pub floating : Channel → Layout → List ℕ → List ℕ
floating ch l ms =
    keep (λ i. not (any_of (λ q. eqb (at ms q) (at ms (width ch + width ch + i))) (pins ch))) (up_to (length l.pieces))

-- the fault at the first of the places, else what is found next
unfoldable pub fault_at_first : (ℕ → Fault) → List ℕ → Option Fault → Option Fault
fault_at_first fault [] next = next
fault_at_first fault (p ∷ ps) next = some (fault p)

-- the first fault in rising number, at its lowest place; none where the layout is good
unfoldable pub finding : Channel → Layout → Option Fault
finding ch l =
    let ms = marks ch l in
    fault_at_first Short (shorts ch ms) (fault_at_first Open (opens ch ms) (fault_at_first Floating (floating ch l ms) none))
