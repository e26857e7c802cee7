-- The elements of a channel's layout in one list, and the test of whether two of them touch.
use Rattle.std.specs.Prelude.{ℕ, List, ◌++◌, map, Bool, false}
use Rattle.lists.specs.Lists.{up_to}
use Rattle.grid.specs.Touching.{touches}
use Rattle.grid.specs.Pieces.{Layout}
use Rattle.channel.specs.Channel.{Channel, width}
use Rattle.wiring.specs.Pins.{top, bot, pin_touches}
use Rattle.wiring.specs.Layouts.{Element, pin, copper}

-- the pin places in order of position, then the pieces
unfoldable pub elements : Channel → Layout → List Element
elements ch l =
    map (λ c. pin (top c)) (up_to (width ch)) ++ (map (λ c. pin (bot c)) (up_to (width ch)) ++ map copper l.pieces)

-- `Touching` of two elements that are present, as a test
unfoldable pub elements_touch : Channel → ℕ → Element → Element → Bool
elements_touch ch t (pin x) (pin y) = false
elements_touch ch t (pin x) (copper q) = pin_touches ch t x q
elements_touch ch t (copper p) (pin y) = pin_touches ch t y p
elements_touch ch t (copper p) (copper q) = touches p q
