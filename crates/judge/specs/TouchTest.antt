-- The test of two elements of a layout equals its meaning.
use Rattle.std.specs.Prelude.{ℕ, T}
use Rattle.std.proofs.Common.{subst}
use mathlib.Core.List.{Memᴰ}
use Rattle.grid.specs.Pieces.{Layout}
use Rattle.grid.proofs.TouchLaws.{on-grid→boxed, touches→, →touches, touches-turned}
use Rattle.channel.specs.Channel.{Channel}
use Rattle.wiring.specs.PinLaws.{pin-touches→, →pin-touches}
use Rattle.wiring.specs.Layouts.{Element, pin, copper, Present, Touching, AllOnGrid}
use Rattle.judge.specs.Elements.{elements_touch}

pub test-sym : (ch : Channel) (t : ℕ) (x y : Element) → T (elements_touch ch t x y) → T (elements_touch ch t y x)
unfolding elements_touch
test-sym ch t (pin x) (pin y) h = h
test-sym ch t (pin x) (copper q) h = h
test-sym ch t (copper p) (pin y) h = h
test-sym ch t (copper p) (copper q) h = subst T (touches-turned p q) h

-- the places of pins, whether or not they hold one, and the pieces of the layout
abbrev pub Placed : Layout → Element → Type 0
Placed l (pin x) = Unit {0}
Placed l (copper p) = Memᴰ p l.pieces

-- of two places that touch, both are elements of the layout, and they touch
pub test→touching : (ch : Channel) (l : Layout) → AllOnGrid ch l → (x y : Element) → Placed l x → Placed l y
    → T (elements_touch ch l.tracks x y)
    → Present ch l x × Present ch l y × Touching l.tracks x y
unfolding elements_touch Present Touching
test→touching ch l g (pin x) (pin y) px py h = absurd h
test→touching ch l g (pin x) (copper q) px py h = let r = pin-touches→ ch l.tracks x q h in (r.0, py, r.1)
test→touching ch l g (copper p) (pin y) px py h = let r = pin-touches→ ch l.tracks y p h in (px, r.0, r.1)
test→touching ch l g (copper p) (copper q) px py h =
    (px, py, touches→ p q (on-grid→boxed l.tracks p (g p px)) (on-grid→boxed l.tracks q (g q py)) h)

pub touching→test : (ch : Channel) (l : Layout) (x y : Element) → Present ch l x → Present ch l y
    → Touching l.tracks x y → T (elements_touch ch l.tracks x y)
unfolding elements_touch Present Touching
touching→test ch l (pin x) (pin y) px py h = h
touching→test ch l (pin x) (copper q) px py h = →pin-touches ch l.tracks x q px h
touching→test ch l (copper p) (pin y) px py h = →pin-touches ch l.tracks y p py h
touching→test ch l (copper p) (copper q) px py h = →touches p q h
