-- Every pin is joined to one piece of its net, its hub: the trunk, through branch and contact, or the branch of a
-- straight net. And every piece is joined to a pin.
use Rattle.std.specs.Prelude.{ℕ, ◌+◌, ◌<◌, ◌≡◌, length, T}
use native.Mathlib.Omega.{arith}
use Rattle.std.proofs.Math.Decide.{dec_lt}
use Rattle.std.proofs.Common.{sym, inl, inr}
use Rattle.std.proofs.Math.Path.{subst}
use mathlib.Core.List.{List, Memᴰ}
use Rattle.std.proofs.Math.Logic.{⊎_elim}
use Rattle.lists.specs.Lists.{at}
use Rattle.lists.specs.Ends.{at-inside}
use Rattle.grid.specs.declared.Piece.{Piece}
use Rattle.grid.specs.Pieces.{trunk_kind, branch_kind, kind_of, left, right, low, high}
use Rattle.grid.specs.Touching.{pin_meets, Touch}
use Rattle.grid.proofs.TouchLaws.{contact-meets, touch-sym}
use Rattle.channel.specs.Channel.{Channel, width, is_net, spanning, first_column, last_column}
use Rattle.channel.specs.Answers.{Escapes}
use Rattle.channel.specs.Nets.{PinIn, IsNet}
use Rattle.channel.proofs.Laws.{net-positive, pin-after-first, pin-before-last}
use Rattle.channel.proofs.SpanLaws.{spanning→, →spanning}
use Rattle.wiring.specs.Pins.{Pin, top, bot, column_of, row_of, net_of, IsPin, PinTouch}
use Rattle.wiring.specs.Layouts.{Element, pin, copper, Present, Touching, Joined, itself, link}
use Rattle.wiring.specs.Chains.{joined_snoc}
use Rattle.wiring.specs.Order.{pin_of_lem}
use Rattle.leftedge.specs.Items.{Place, track_of}
use Rattle.leftedge.specs.Nets.{net_items}
use Rattle.leftedge.specs.Invariants.{FilledBy}
use Rattle.drawing.specs.Draw.{branch_in, draw}
use Rattle.drawing.proofs.Owner.{trunk_piece, contact_piece, straight_piece, Drawn, trunk, branch, contact, straight}
use Rattle.drawing.proofs.Owner.{net-pin, straight-in, trunk-present, branch-present, contact-present}
use Rattle.drawing.proofs.Owner.{straight-present}
use Rattle.drawing.proofs.Points.{picked}
use Rattle.drawing.proofs.OwnerLaws.{on-tracks}

-- the column of a net's pin
pub pin-in : (ch : Channel) → length ch.bot ≡ width ch → (x : Pin) (n : ℕ) → T (is_net ch n) → net_of ch x ≡ n
    → PinIn ch n (column_of x)
unfolding column_of net_of
pin-in ch even (top c) n net e =
    let h = net-positive ch n net in
    let r = at-inside ch.top c (omega arith) in
    record { net = net; first = r.0; last = r.1; pin = inl e }
pin-in ch even (bot c) n net e =
    let h = net-positive ch n net in
    let r = at-inside ch.bot c (omega arith) in
    let l = r.1 in
    record { net = net; first = r.0; last = omega arith; pin = inr e }

module _ (ch : Channel) (esc : Escapes ch) (t : ℕ) (ps : List Place) (f : FilledBy (net_items ch) t ps) where
  abbrev Linked : Element → Element → Type 0
  Linked u v = Joined ch (draw ch t ps) u v

  branch_of : ℕ → ℕ → Piece
  branch_of n c = branch_in ch t (track_of ps n) n c

  -- a net's branch covers the points of its pins in the column
  pin-touches-branch : (x : Pin) (n : ℕ) → Memᴰ n (spanning ch) → net_of ch x ≡ n
      → PinTouch t x (branch_of n (column_of x))
  unfolding branch_of branch_in kind_of left right low high pin_meets column_of row_of net_of
  pin-touches-branch (top c) n s e =
      let k = on-tracks ch esc t ps f n s in
      record {
        meets = tt;
        covered = ⊎_elim (λ a. ⊎_elim (λ b. omega arith) (λ b. omega arith)
            (picked (at ch.bot c) n 0 (track_of ps n))) (λ a. absurd (a.0 e))
            (picked (at ch.top c) n (t + 1) (track_of ps n));
      }
  pin-touches-branch (bot c) n s e =
      record {
        meets = tt;
        covered = ⊎_elim (λ a. omega arith) (λ a. absurd (a.0 e))
            (picked (at ch.bot c) n 0 (track_of ps n));
      }

  -- and it meets its contact, which meets the trunk
  branch-touches-contact : (n c : ℕ) → Memᴰ n (spanning ch) → Touch (branch_of n c) (contact_piece ps n c)
  unfolding branch_of branch_in kind_of left right low high
  branch-touches-contact n c s =
      let k = on-tracks ch esc t ps f n s in
      record {
        column = c;
        row = track_of ps n;
        covers₁ =
            ⊎_elim (λ a. ⊎_elim (λ b. omega arith) (λ b. omega arith) (picked (at ch.bot c) n 0 (track_of ps n)))
            (λ a. ⊎_elim (λ b. omega arith) (λ b. omega arith) (picked (at ch.bot c) n 0 (track_of ps n)))
            (picked (at ch.top c) n (t + 1) (track_of ps n));
        covers₂ = omega arith;
        meets = contact-meets branch_kind;
      }

  contact-touches-trunk : (n c : ℕ) → PinIn ch n c → Touch (contact_piece ps n c) (trunk_piece ch ps n)
  unfolding kind_of left right low high
  contact-touches-trunk n c q =
      let a = pin-after-first ch n c q in
      let b = pin-before-last ch n c q in
      touch-sym (record {
        column = c;
        row = track_of ps n;
        covers₁ = omega arith;
        covers₂ = omega arith;
        meets = contact-meets trunk_kind;
      })

  pin-touches-straight : (x : Pin) → PinTouch t x (straight_piece t (column_of x))
  unfolding kind_of left right low high pin_meets column_of row_of
  pin-touches-straight (top c) = record { meets = tt; covered = omega arith }
  pin-touches-straight (bot c) = record { meets = tt; covered = omega arith }

  module _ (x : Pin) (n : ℕ) (is_net : IsNet ch n) (e : net_of ch x ≡ n) where
    in_column : PinIn ch n (column_of x)
    in_column = pin-in ch esc.even x n is_net.is_net e

    module _ (s : Memᴰ n (spanning ch)) where
      pin-to-branch : Linked (pin x) (copper (branch_of n (column_of x)))
      unfolding draw Present Touching branch_of
      pin-to-branch = link (pin-touches-branch x n s e) (branch-present ch esc t ps n (column_of x) s in_column) itself

      pin-to-contact : Linked (pin x) (copper (contact_piece ps n (column_of x)))
      unfolding draw Present Touching
      pin-to-contact =
          joined_snoc pin-to-branch (branch-touches-contact n (column_of x) s)
          (contact-present ch esc t ps n (column_of x) s in_column)

      pin-to-trunk : Linked (pin x) (copper (trunk_piece ch ps n))
      unfolding draw Present Touching
      pin-to-trunk =
          joined_snoc pin-to-contact (contact-touches-trunk n (column_of x) in_column) (trunk-present ch esc t ps n s)

    pin-to-straight : (first_column ch n < last_column ch n → ⊥)
        → Linked (pin x) (copper (straight_piece t (first_column ch n)))
    unfolding draw Present Touching
    pin-to-straight s =
        let here = (straight-in ch esc n (column_of x) is_net s in_column).here in
        link (subst (λ (c : ℕ). PinTouch t x (straight_piece t c)) here (pin-touches-straight x))
        (straight-present ch esc t ps n is_net s) itself

  -- a piece to which all pins of the net are joined
  pub record Hub (n : ℕ) : Type 0 where
    pub piece : Piece
    pub joined : (x : Pin) → net_of ch x ≡ n → Linked (pin x) (copper piece)

  pub hub : (n : ℕ) → IsNet ch n → Hub n
  hub n h =
      elim (dec_lt (first_column ch n) (last_column ch n)) [
        | yes s ↦ record { piece = trunk_piece ch ps n; joined = λ x e. pin-to-trunk x n h e (→spanning ch n h s) }
        | no s
            ↦ record { piece = straight_piece t (first_column ch n); joined = λ x e. pin-to-straight x n h e s }
      ]

  -- a piece is joined to a pin of the net that drew it
  pub reached : {n : ℕ} {p : Piece} → Drawn ch t ps n p → (x : Pin) × IsPin ch x × Linked (pin x) (copper p)
  unfolding branch_of net_of
  reached {n} (trunk s) =
      let h = (spanning→ ch n s).0 in
      let x = pin_of_lem (net-pin ch esc n h) in
      (x.place, subst (λ (k : ℕ). 0 < k) (sym x.net) h.positive, pin-to-trunk x.place n h x.net s)
  reached {n} (branch s q) =
      let h = (spanning→ ch n s).0 in
      let x = pin_of_lem q in (
        x.place,
        subst (λ (k : ℕ). 0 < k) (sym x.net) h.positive,
        subst (λ (c : ℕ). Linked (pin x.place) (copper (branch_of n c))) x.column
            (pin-to-branch x.place n h x.net s),
      )
  reached {n} (contact s q) =
      let h = (spanning→ ch n s).0 in
      let x = pin_of_lem q in (
        x.place,
        subst (λ (k : ℕ). 0 < k) (sym x.net) h.positive,
        subst (λ (c : ℕ). Linked (pin x.place) (copper (contact_piece ps n c))) x.column
            (pin-to-contact x.place n h x.net s),
      )
  reached {n} (straight {c = c} r) =
      let h = r.is_net in (
        top c,
        subst (λ (k : ℕ). 0 < k) (sym r.on_top) h.positive,
        subst (λ (k : ℕ). Linked (pin (top c)) (copper (straight_piece t k))) (sym r.here)
            (pin-to-straight (top c) n h r.on_top r.no_span),
      )
