-- Two elements on the grid touch exactly if their ranges overlap on a common line.
use Rattle.std.specs.Prelude.{ℕ, ◌≤◌, ◌<◌, max, ◌≡◌, refl, Bool, true, false, cond, ◌⊎◌, T, ltb}
use Rattle.std.proofs.Common.{arith, sym, ap, inl, inr, ltb→lt, lt→ltb}
use Rattle.classes.specs.declared.Range.{Range}
use Rattle.classes.specs.Lines.{Overlap}
use Rattle.lists.specs.Tests.{T→true, true→T}
use Rattle.grid.specs.declared.Piece.{Piece}
use Rattle.grid.specs.declared.Piece.TheVariants.{Trunk, Branch, Contact}
use Rattle.grid.specs.Pieces.{kind_of, left, right, low, high, OnGrid, Layout}
use Rattle.grid.specs.Touching.{kinds_meet, pin_meets, Touch, touches}
use Rattle.grid.proofs.TouchLaws.{on-grid→boxed, touches→, →touches}
use Rattle.channel.specs.Channel.{Channel, width}
use Rattle.wiring.specs.Pins.{Pin, top, bot, column_of, row_of, net_of, IsPin, PinTouch}
use Rattle.wiring.specs.PinLaws.{pin-touches→, →pin-touches}
use Rattle.wiring.specs.Layouts.{Element, pin, copper, AllOnGrid}
use Rattle.judge.specs.Elements.{elements_touch}
use Rattle.judge.specs.TouchTest.{Placed}
use Rattle.judge.specs.Ranges.{in_column, on_track}

overlap-sym : {a b : Range} → Overlap a b → Overlap b a
overlap-sym h = omega arith

-- a pin's line is its column, and a pin place without a pin is on none
pin-line : (ch : Channel) (t : ℕ) (x : Pin) → IsPin ch x → (in_column ch t (pin x)).line ≡ column_of x
unfolding in_column
pin-line ch t x h =
    ap (λ (b : Bool). cond b (column_of x) 0) (T→true (ltb 0 (net_of ch x)) (lt→ltb 0 (net_of ch x) h))

line-pin : (ch : Channel) (t : ℕ) (x : Pin) → 0 < (in_column ch t (pin x)).line → IsPin ch x
unfolding in_column
line-pin ch t x = go (ltb 0 (net_of ch x)) refl
  where
    go : (b : Bool) → ltb 0 (net_of ch x) ≡ b → 0 < cond b (column_of x) 0 → IsPin ch x
    go true e h = ltb→lt 0 (net_of ch x) (true→T _ e)
    go false e h = absurd (omega arith)

-- two pieces: trunks and contacts overlap on tracks, branches and contacts on columns
touch→overlap : (ch : Channel) (t : ℕ) (p q : Piece) → OnGrid (width ch) t p → OnGrid (width ch) t q → Touch p q
    → Overlap (in_column ch t (copper p)) (in_column ch t (copper q)) ⊎ Overlap (on_track (copper p)) (on_track (copper q))
unfolding in_column on_track kind_of left right low high OnGrid kinds_meet
touch→overlap ch t (Trunk k a b) (Trunk l d e) g h m = inr (omega arith)
touch→overlap ch t (Trunk k a b) (Branch l d e) g h m = absurd m.meets
touch→overlap ch t (Trunk k a b) (Contact l d) g h m = inr (omega arith)
touch→overlap ch t (Branch k a b) (Trunk l d e) g h m = absurd m.meets
touch→overlap ch t (Branch k a b) (Branch l d e) g h m = inl (omega arith)
touch→overlap ch t (Branch k a b) (Contact l d) g h m = inl (omega arith)
touch→overlap ch t (Contact k a) (Trunk l d e) g h m = inr (omega arith)
touch→overlap ch t (Contact k a) (Branch l d e) g h m = inl (omega arith)
touch→overlap ch t (Contact k a) (Contact l d) g h m = inl (omega arith)

-- the other way round: what the cases of pieces that overlap have in common
record Near (p q : Piece) : Type 0 where
  meets : T (kinds_meet (kind_of p) (kind_of q))
  boxes : (left p ≤ right q) × (left q ≤ right p) × (low p ≤ high q) × (low q ≤ high p)

near→touches : (w t : ℕ) (p q : Piece) → OnGrid w t p → OnGrid w t q → Near p q → T (touches p q)
near→touches w t p q g h n =
    let a = on-grid→boxed t p g in
    let b = on-grid→boxed t q h in
    →touches p q (record {
      column = max (left p) (left q);
      row = max (low p) (low q);
      covers₁ = omega arith;
      covers₂ = omega arith;
      meets = n.meets;
    })

column→near : (ch : Channel) (t : ℕ) (p q : Piece)
    → Overlap (in_column ch t (copper p)) (in_column ch t (copper q)) → Near p q
unfolding in_column kind_of left right low high kinds_meet
column→near ch t (Trunk k a b) q o = absurd (omega arith)
column→near ch t (Branch k a b) (Trunk l d e) o = absurd (omega arith)
column→near ch t (Branch k a b) (Branch l d e) o = record { meets = tt; boxes = omega arith }
column→near ch t (Branch k a b) (Contact l d) o = record { meets = tt; boxes = omega arith }
column→near ch t (Contact k a) (Trunk l d e) o = absurd (omega arith)
column→near ch t (Contact k a) (Branch l d e) o = record { meets = tt; boxes = omega arith }
column→near ch t (Contact k a) (Contact l d) o = record { meets = tt; boxes = omega arith }

track→near : (p q : Piece) → Overlap (on_track (copper p)) (on_track (copper q)) → Near p q
unfolding on_track kind_of left right low high kinds_meet
track→near (Branch k a b) q o = absurd (omega arith)
track→near (Trunk k a b) (Branch l d e) o = absurd (omega arith)
track→near (Trunk k a b) (Trunk l d e) o = record { meets = tt; boxes = omega arith }
track→near (Trunk k a b) (Contact l d) o = record { meets = tt; boxes = omega arith }
track→near (Contact k a) (Branch l d e) o = absurd (omega arith)
track→near (Contact k a) (Trunk l d e) o = record { meets = tt; boxes = omega arith }
track→near (Contact k a) (Contact l d) o = record { meets = tt; boxes = omega arith }

-- a pin and a piece: only a branch meets a pin, and only a branch has points in a pin's row and column
pin-touch→overlap : (ch : Channel) (t : ℕ) (x : Pin) (p : Piece) → OnGrid (width ch) t p → IsPin ch x → PinTouch t x p
    → Overlap (in_column ch t (pin x)) (in_column ch t (copper p))
unfolding in_column kind_of left right low high OnGrid kinds_meet pin_meets
pin-touch→overlap ch t x (Trunk k a b) g i m = absurd m.meets
pin-touch→overlap ch t x (Branch k a b) g i m = let e = pin-line ch t x i in omega arith
pin-touch→overlap ch t x (Contact k a) g i m = absurd m.meets

overlap→pin-touch : (ch : Channel) (t : ℕ) (x : Pin) (p : Piece) → OnGrid (width ch) t p
    → Overlap (in_column ch t (pin x)) (in_column ch t (copper p)) → IsPin ch x × PinTouch t x p
unfolding in_column kind_of left right low high OnGrid kinds_meet pin_meets row_of
overlap→pin-touch ch t x (Trunk k a b) g o = absurd (omega arith)
overlap→pin-touch ch t x (Branch k a b) g o =
    let i = line-pin ch t x o.real in
    let e = pin-line ch t x i in
    (i, record { meets = tt; covered = omega arith })
overlap→pin-touch ch t (top c) (Contact k a) g o = absurd (omega arith)
overlap→pin-touch ch t (bot c) (Contact k a) g o = absurd (omega arith)

same_point : (t : ℕ) (x y : Pin) → column_of x ≡ column_of y → row_of t x ≡ row_of t y → x ≡ y
unfolding column_of row_of
same_point t (top c) (top d) e r = ap top e
same_point t (top c) (bot d) e r = absurd (omega arith)
same_point t (bot c) (top d) e r = absurd (omega arith)
same_point t (bot c) (bot d) e r = ap bot e

-- two pin places that overlap are one
one-pin-place : (ch : Channel) (t : ℕ) (x y : Pin) → Overlap (in_column ch t (pin x)) (in_column ch t (pin y)) → x ≡ y
unfolding in_column
one-pin-place ch t x y o =
    let e = pin-line ch t x (line-pin ch t x o.real) in
    let f = pin-line ch t y (line-pin ch t y (overlap-sym o).real) in
    same_point t x y (omega arith) (omega arith)

-- elements that touch overlap on a column or on a track
pub test→overlap : (ch : Channel) (l : Layout) → AllOnGrid ch l → (x y : Element) → Placed l x → Placed l y
    → T (elements_touch ch l.tracks x y)
    → Overlap (in_column ch l.tracks x) (in_column ch l.tracks y) ⊎ Overlap (on_track x) (on_track y)
unfolding elements_touch
test→overlap ch l g (pin x) (pin y) px py h = absurd h
test→overlap ch l g (pin x) (copper q) px py h =
    let r = pin-touches→ ch l.tracks x q h in
    inl (pin-touch→overlap ch l.tracks x q (g q py) r.0 r.1)
test→overlap ch l g (copper p) (pin y) px py h =
    let r = pin-touches→ ch l.tracks y p h in
    inl (overlap-sym (pin-touch→overlap ch l.tracks y p (g p px) r.0 r.1))
test→overlap ch l g (copper p) (copper q) px py h =
    let t = l.tracks in
    touch→overlap ch t p q (g p px) (g q py)
    (touches→ p q (on-grid→boxed t p (g p px)) (on-grid→boxed t q (g q py)) h)

-- elements that overlap on a column touch, or are one pin place
pub column→test : (ch : Channel) (l : Layout) → AllOnGrid ch l → (x y : Element) → Placed l x → Placed l y
    → Overlap (in_column ch l.tracks x) (in_column ch l.tracks y)
    → T (elements_touch ch l.tracks x y) ⊎ ((z : Pin) × (x ≡ pin z) × (y ≡ pin z))
unfolding elements_touch
column→test ch l g (pin x) (pin y) px py o = inr (x, refl, ap pin (sym (one-pin-place ch l.tracks x y o)))
column→test ch l g (pin x) (copper q) px py o =
    let r = overlap→pin-touch ch l.tracks x q (g q py) o in
    inl (→pin-touches ch l.tracks x q r.0 r.1)
column→test ch l g (copper p) (pin y) px py o =
    let r = overlap→pin-touch ch l.tracks y p (g p px) (overlap-sym o) in
    inl (→pin-touches ch l.tracks y p r.0 r.1)
column→test ch l g (copper p) (copper q) px py o =
    inl (near→touches (width ch) l.tracks p q (g p px) (g q py) (column→near ch l.tracks p q o))

-- elements that overlap on a track touch
pub track→test : (ch : Channel) (l : Layout) → AllOnGrid ch l → (x y : Element) → Placed l x → Placed l y
    → Overlap (on_track x) (on_track y) → T (elements_touch ch l.tracks x y)
unfolding elements_touch on_track
track→test ch l g (pin x) y px py o = absurd (omega arith)
track→test ch l g (copper p) (pin y) px py o = absurd (omega arith)
track→test ch l g (copper p) (copper q) px py o =
    near→touches (width ch) l.tracks p q (g p px) (g q py) (track→near p q o)
