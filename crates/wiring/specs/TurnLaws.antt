-- The same copper turned over: pins and pieces that touch do so in the turned layout of the turned channel, so that
-- what is joined stays joined, and what is apart stays apart, since turned over once more all is as it was.
use Prim.Native.Nat.{ℕ, ◌+◌}
use Rattle.std.proofs.Common.{arith, sym, ◌∙◌, ap}
use Rattle.std.specs.Prelude.{◌≡◌, refl, ◌↔◌, length}
use Rattle.std.proofs.Math.Path.{subst}
use mathlib.Core.List.Memᴰ
use mathlib.Core.List.{List, Memᴰ}
use Rattle.lists.specs.Places.{place_map}
use Rattle.lists.specs.Updates.{map-undone}
use Rattle.grid.specs.declared.Piece.{Piece}
use Rattle.grid.specs.Pieces.{OnGrid, Layout}
use Rattle.grid.specs.Flipped.{over, flip, flipped}
use Rattle.grid.proofs.FlipLaws.{flip-kind, flip-on-grid, flip-flip, flip-covers, flip-touch}
use Rattle.grid.specs.Touching.{Covers}
use Rattle.channel.specs.Channel.{Channel, width}
use Rattle.channel.specs.Turned.{turned}
use Rattle.wiring.specs.Pins.{Pin, top, bot, column_of, row_of, net_of, IsPin, PinTouch}
use Rattle.wiring.specs.Layouts.{
  Element,
  pin,
  copper,
  Present,
  Touching,
  Joined,
  itself,
  link,
  AllOnGrid,
  Good,
  TrunkOf,
  OneTrunkEach,
}

-- a pin place of the other side, and an element of a board of t tracks turned over
across : Pin → Pin
across (top c) = bot c
across (bot c) = top c

across-twice : (x : Pin) → across (across x) ≡ x
unfolding across
across-twice (top c) = refl
across-twice (bot c) = refl

turn : ℕ → Element → Element
turn t (pin x) = pin (across x)
turn t (copper p) = copper (flip t p)

across-net : (ch : Channel) (x : Pin) → net_of (turned ch) (across x) ≡ net_of ch x
unfolding across net_of
across-net ch (top c) = refl
across-net ch (bot c) = refl

across-touch : (t : ℕ) (x : Pin) (p : Piece) → PinTouch t x p → PinTouch t (across x) (flip t p)
unfolding across column_of row_of over
across-touch t (top c) p h =
    record {
      meets = rw (flip-kind t p) h.meets;
      covered = subst (λ (y : ℕ). Covers (flip t p) c y) (omega arith) (flip-covers t p c (t + 1) h.covered);
    }
across-touch t (bot c) p h =
    record {
      meets = rw (flip-kind t p) h.meets;
      covered = subst (λ (y : ℕ). Covers (flip t p) c y) (omega arith) (flip-covers t p c 0 h.covered);
    }

turn-touching : (t : ℕ) (x y : Element) → Touching t x y → Touching t (turn t x) (turn t y)
unfolding Touching turn
turn-touching t (pin x) (pin y) h = h
turn-touching t (pin x) (copper q) h = across-touch t x q h
turn-touching t (copper p) (pin y) h = across-touch t y p h
turn-touching t (copper p) (copper q) h = flip-touch t p q h

module _ (ch : Channel) (l : Layout) where
  abbrev t : ℕ
  t = l.tracks

  turn-present : (x : Element) → Present ch l x → Present (turned ch) (flipped l) (turn t x)
  unfolding Present turn
  turn-present (pin x) h = rw (across-net ch x) h
  turn-present (copper p) m = Memᴰ.map (flip t) m

  turn-joined : {x y : Element} → Joined ch l x y → Joined (turned ch) (flipped l) (turn t x) (turn t y)
  turn-joined itself = itself
  turn-joined (link {x = x} {y = y} h p r) = link (turn-touching t x y h) (turn-present y p) (turn-joined r)

  turn-trunk : {n i : ℕ} → TrunkOf ch l n i → TrunkOf (turned ch) (flipped l) n i
  unfolding turn
  turn-trunk {i = i} h =
      record {
        piece = flip t h.piece;
        place = place_map (flip t) l.pieces i h.place;
        trunk = flip-kind t h.piece ∙ h.trunk;
        pin_of = across h.pin_of;
        is_pin = rw (across-net ch h.pin_of) h.is_pin;
        net = across-net ch h.pin_of ∙ h.net;
        joined = turn-joined h.joined;
      }

  -- turned over twice, a layout on the grid is what it was
  flipped-twice : AllOnGrid ch l → flipped (flipped l) ≡ l
  flipped-twice grid =
      ap {B = Layout} (λ (ps : List Piece). record { tracks = t; pieces = ps })
      (map-undone (flip t) (flip t) l.pieces (λ p m. flip-flip (width ch) t p (grid p m)))

module _ (ch : Channel) (l : Layout) (grid : AllOnGrid ch l) where
  back : {x y : Pin} → Joined (turned ch) (flipped l) (pin x) (pin y) → Joined ch l (pin (across x)) (pin (across y))
  unfolding turn
  back {x} {y} j =
      subst (λ (m : Layout). Joined ch m (pin (across x)) (pin (across y))) (flipped-twice ch l grid)
      (turn-joined (turned ch) (flipped l) j)

  trunk-back : {n i : ℕ} → TrunkOf (turned ch) (flipped l) n i → TrunkOf ch l n i
  trunk-back {n} {i} h =
      subst (λ (m : Layout). TrunkOf ch m n i) (flipped-twice ch l grid) (turn-trunk (turned ch) (flipped l) h)

  -- "at most one trunk piece per net" is kept, both ways
  pub one-trunk-turned : OneTrunkEach ch l ↔ OneTrunkEach (turned ch) (flipped l)
  one-trunk-turned = (
    λ one n i j p q. one n i j (trunk-back p) (trunk-back q),
    λ one n i j p q. one n i j (turn-trunk ch l p) (turn-trunk ch l q),
  )

  good→turned : length ch.bot ≡ width ch → Good ch l → Good (turned ch) (flipped l)
  unfolding turn
  good→turned even g = record { on_grid = on_grid; joins = joins; floats = floats }
    where
      t : ℕ
      t = l.tracks

      is_pin : (x : Pin) → IsPin (turned ch) x → IsPin ch (across x)
      is_pin x h = rw (across-net (turned ch) x) h

      on_grid : AllOnGrid (turned ch) (flipped l)
      on_grid q m =
          let r = Memᴰ.of_map (flip t) l.pieces m in
          subst (OnGrid (length ch.bot) t) r.2
          (rw even (flip-on-grid (width ch) t r.0 (grid r.0 r.1)))

      joins : (x y : Pin) → IsPin (turned ch) x → IsPin (turned ch) y
          → Joined (turned ch) (flipped l) (pin x) (pin y) ↔ (net_of (turned ch) x ≡ net_of (turned ch) y)
      joins x y hx hy =
          let nx = across-net (turned ch) x in
          let ny = across-net (turned ch) y in
          let same = g.joins (across x) (across y) (is_pin x hx) (is_pin y hy) in (
            λ j. sym nx ∙ (same.0 (back j) ∙ ny),
            λ e. subst (λ (z : Pin). Joined (turned ch) (flipped l) (pin z) (pin y)) (across-twice x)
                (subst (λ (z : Pin). Joined (turned ch) (flipped l) (pin (across (across x))) (pin z)) (across-twice y)
                (turn-joined ch l (same.1 (nx ∙ (e ∙ sym ny))))),
          )

      floats : (q : Piece) → Memᴰ q (flipped l).pieces
          → (x : Pin) × IsPin (turned ch) x × Joined (turned ch) (flipped l) (copper q) (pin x)
      floats q m =
          let r = Memᴰ.of_map (flip t) l.pieces m in
          let f = g.floats r.0 r.1 in (
            across f.0,
            rw (across-net ch f.0) f.1,
            subst (λ (p : Piece). Joined (turned ch) (flipped l) (copper p) (pin (across f.0))) r.2
                (turn-joined ch l f.2),
          )

-- the same copper turned over is good for the turned list exactly if it is good for the first
pub good-turned : (ch : Channel) (l : Layout) → length ch.bot ≡ width ch → AllOnGrid ch l
    → Good ch l ↔ Good (turned ch) (flipped l)
good-turned ch l even grid = (
  good→turned ch l grid even,
  λ g. subst (Good ch) (flipped-twice ch l grid) (good→turned (turned ch) (flipped l) g.on_grid (sym even) g),
)
