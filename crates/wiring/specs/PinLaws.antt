-- The test of a pin and a piece equals its meaning. And two pins that carry one parked number are one pin.
use Rattle.std.specs.Prelude.{ℕ, ◌+◌, ◌-◌, ◌≡◌, ◌&&◌, length, T, ltb}
use Rattle.std.proofs.Common.{arith, sym, subst, ltb→lt, lt→ltb}
use Rattle.std.proofs.Math.Path.{refl, ap}
use Rattle.lists.specs.Lists.{at}
use Rattle.lists.specs.Tests.{and_left, and_right, and_both}
use Rattle.lists.specs.Ends.{at-inside}
use Rattle.grid.specs.declared.Piece.{Piece}
use Rattle.grid.specs.Pieces.{kind_of}
use Rattle.grid.specs.Touching.{pin_meets, covers}
use Rattle.grid.proofs.TouchLaws.{covers→, →covers}
use Rattle.channel.specs.Channel.{Channel, width, is_net}
use Rattle.channel.proofs.Laws.{PinAmong, top-holds, bot-holds}
use Rattle.channel.proofs.ParkedLaws.{pin-parked, one_place}
use Rattle.wiring.specs.Pins.{Pin, top, bot, column_of, row_of, net_of, IsPin, PinTouch, pin_touches}

pub pin-touches→ : (ch : Channel) (t : ℕ) (x : Pin) (p : Piece) → T (pin_touches ch t x p) → IsPin ch x × PinTouch t x p
unfolding pin_touches
pin-touches→ ch t x p h =
    let is_pin = ltb 0 (net_of ch x) in
    let met = pin_meets (kind_of p) in
    let over = covers p (column_of x) (row_of t x) in
    let rest = and_right is_pin (met && over) h in (
      ltb→lt 0 (net_of ch x) (and_left is_pin (met && over) h),
      record {
        meets = and_left met over rest;
        covered = covers→ p (column_of x) (row_of t x) (and_right met over rest);
      },
    )

pub →pin-touches : (ch : Channel) (t : ℕ) (x : Pin) (p : Piece) → IsPin ch x → PinTouch t x p → T (pin_touches ch t x p)
unfolding pin_touches
→pin-touches ch t x p h k =
    let over = covers p (column_of x) (row_of t x) in
    and_both (ltb 0 (net_of ch x)) (pin_meets (kind_of p) && over) (lt→ltb 0 (net_of ch x) h)
    (and_both (pin_meets (kind_of p)) over k.meets (→covers p (column_of x) (row_of t x) k.covered))

-- the place of a pin among the pin positions, counted from 0
place : Channel → Pin → ℕ
place ch (top c) = c - 1
place ch (bot c) = width ch + (c - 1)

module _ (ch : Channel) (even : length ch.bot ≡ width ch) where
  pin-among : (x : Pin) → IsPin ch x → PinAmong ch (net_of ch x) (place ch x)
  unfolding net_of place
  pin-among (top c) h = let r = at-inside ch.top c h in top-holds ch (at ch.top c) c r.0 r.1 refl
  pin-among (bot c) h =
      let r = at-inside ch.bot c h in
      let l = r.1 in
      bot-holds ch (at ch.bot c) c even r.0 (omega arith) refl

  same_place : (x y : Pin) → IsPin ch x → IsPin ch y → place ch x ≡ place ch y → x ≡ y
  unfolding net_of place
  same_place (top c) (top d) h k e =
      let a = at-inside ch.top c h in
      let b = at-inside ch.top d k in
      ap top (omega arith)
  same_place (top c) (bot d) h k e =
      let a = at-inside ch.top c h in
      let b = at-inside ch.bot d k in
      absurd (omega arith)
  same_place (bot c) (top d) h k e =
      let a = at-inside ch.bot c h in
      let b = at-inside ch.top d k in
      absurd (omega arith)
  same_place (bot c) (bot d) h k e =
      let a = at-inside ch.bot c h in
      let b = at-inside ch.bot d k in
      ap bot (omega arith)

  -- a pin of a number that is no net's is the number's only pin
  pub one-pin : (x y : Pin) → IsPin ch x → IsPin ch y → net_of ch x ≡ net_of ch y → (T (is_net ch (net_of ch x)) → ⊥)
      → x ≡ y
  one-pin x y h k e other =
      let parked = pin-parked ch (net_of ch x) (place ch x) h (pin-among x h) other in
      same_place x y h k (one_place ch (net_of ch x) (place ch x) (place ch y) parked (pin-among x h)
      (subst (λ (n : ℕ). PinAmong ch n (place ch y)) (sym e) (pin-among y k)))
