-- The drawing of a filled channel is a good layout, with at most one trunk piece for each net.
use Prim.Native.Nat.{ℕ, zero, suc}
use Rattle.std.proofs.Common.{arith, ◌∙◌}
use Rattle.std.specs.Prelude.{◌≡◌, Bool, cond}
use Rattle.std.proofs.Math.Path.{refl, sym, subst}
use mathlib.Core.List.Memᴰ
use mathlib.Core.List.{List, Memᴰ}
use Rattle.std.proofs.Math.Logic.{⊎_elim}
use Rattle.std.proofs.Math.Bool.{true, false}
use Rattle.std.proofs.Math.Option.{some, none-ne-some}
use Rattle.std.proofs.Math.ListN.{get_elem?}
use Rattle.std.proofs.Math.Dec.{T}
use Rattle.lists.specs.Lists.{each}
use Rattle.lists.specs.Tests.{passes?}
use Rattle.lists.specs.Members.{each_member}
use Rattle.lists.specs.Ranges.{place-member}
use Rattle.lists.specs.Eaches.{one_place}
use Rattle.grid.specs.declared.Piece.{Piece}
use Rattle.grid.specs.Pieces.{kind_of, trunk_kind}
use Rattle.channel.specs.Channel.{Channel, is_parked, is_net, nets, has_span, pin_columns}
use Rattle.channel.specs.Answers.{Escapes}
use Rattle.channel.proofs.ParkedLaws.{parked-no-net}
use Rattle.channel.proofs.SpanLaws.{nets→, nets-rising, pin→net}
use Rattle.wiring.specs.Pins.{Pin, column_of, net_of, IsPin}
use Rattle.wiring.specs.PinLaws.{one-pin}
use Rattle.wiring.specs.Layouts.{pin, copper, Present, Joined, itself, AllOnGrid, Good, OneTrunkEach}
use Rattle.wiring.specs.Chains.{joined-trans, joined-sym}
use Rattle.leftedge.specs.Items.{Place, track_of}
use Rattle.leftedge.specs.Nets.{net_items}
use Rattle.leftedge.specs.Invariants.{FilledBy}
use Rattle.drawing.specs.Draw.{branch_in, draw_column, draw_span, draw_straight, draw_net, draw}
use Rattle.drawing.proofs.Owner.{drawn, drawn-net, net-drawn}
use Rattle.drawing.proofs.Points.{drawn-on-grid}
use Rattle.drawing.proofs.OwnerLaws.{on-tracks, Owns, owns-joined}
use Rattle.drawing.proofs.Reached.{pin-in, hub, reached}

module _ (ch : Channel) (esc : Escapes ch) (t : ℕ) (ps : List Place) (f : FilledBy (net_items ch) t ps) where
  grid : AllOnGrid ch (draw ch t ps)
  unfolding draw
  grid p m = let r = drawn ch esc t ps m in drawn-on-grid esc (on-tracks ch esc t ps f r.0) r.1

  -- pins that are joined are of one net, and pins of one net are joined
  joined→net : (x y : Pin) → Joined ch (draw ch t ps) (pin x) (pin y) → net_of ch x ≡ net_of ch y
  unfolding Owns
  joined→net x y j = sym (owns-joined ch esc t ps f (net_of ch x) j refl)

  net→joined : (x y : Pin) → IsPin ch x → IsPin ch y → net_of ch x ≡ net_of ch y
      → Joined ch (draw ch t ps) (pin x) (pin y)
  unfolding Present
  net→joined x y isX isY e = ⊎_elim by-hub alone (passes? (is_net ch (net_of ch x)))
    where
      by-hub : T (is_net ch (net_of ch x)) → Joined ch (draw ch t ps) (pin x) (pin y)
      by-hub net =
          let n = net_of ch x in
          let h = hub ch esc t ps f n (pin→net ch esc n (column_of x) (pin-in ch esc.even x n net refl)) in
          joined-trans (h.joined x refl) (joined-sym {x = pin y} isY (h.joined y (sym e)))

      -- a parked pin is joined to itself
      alone : (T (is_net ch (net_of ch x)) → ⊥) → Joined ch (draw ch t ps) (pin x) (pin y)
      alone other =
          subst (λ (z : Pin). Joined ch (draw ch t ps) (pin x) (pin z)) (one-pin ch esc.even x y isX isY e other)
          itself

  floating : (p : Piece) → Memᴰ p (draw ch t ps).pieces
      → (x : Pin) × IsPin ch x × Joined ch (draw ch t ps) (copper p) (pin x)
  unfolding Present
  floating p m =
      let r = reached ch esc t ps f (drawn ch esc t ps m).1 in
      (r.0, r.1, joined-sym {x = pin r.0} r.1 r.2)

  column-no-trunk : (k n c : ℕ) {p : Piece} → Memᴰ p (draw_column ch t k n c) → kind_of p ≡ trunk_kind → ⊥
  unfolding draw_column branch_in kind_of
  column-no-trunk k n c {p} m e =
      let same_kind : (q : Piece) → p ≡ q → kind_of q ≡ trunk_kind = λ q d.
      subst (λ (r : Piece). kind_of r ≡ trunk_kind) d e in
      ⊎_elim (λ d. let z = same_kind _ d in omega arith)
      (λ l. let z = same_kind _ (Memᴰ.eq_of_singleton l) in omega arith) (Memᴰ.cases_cons m)

  -- the only trunk of a net stands first of its pieces
  trunk-first : (n i : ℕ) (p : Piece) → get_elem? (draw_net ch t (track_of ps n) n) i ≡ some p
      → kind_of p ≡ trunk_kind → i ≡ 0
  unfolding draw_net draw_span draw_straight
  trunk-first n i p e k = go (has_span ch n) i e
    where
      go : (b : Bool) (j : ℕ) → get_elem? (cond b (draw_span ch t (track_of ps n) n) (draw_straight ch t n)) j ≡ some p
          → j ≡ 0
      go true zero q = refl
      go true (suc j) q =
          let r = each_member (draw_column ch t (track_of ps n) n) (pin_columns ch n)
          (place-member (each (draw_column ch t (track_of ps n) n) (pin_columns ch n)) j q) in
          absurd (column-no-trunk (track_of ps n) n r.0 r.2 k)
      go false zero q = refl
      go false (suc j) q = absurd (none-ne-some p q)

  -- a trunk that is joined to a pin of net n
  TrunkTo : ℕ → Piece → Type 0
  TrunkTo n p = (kind_of p ≡ trunk_kind) × ((x : Pin) × (net_of ch x ≡ n) × Joined ch (draw ch t ps) (copper p) (pin x))

  one-trunk : OneTrunkEach ch (draw ch t ps)
  unfolding draw Owns TrunkTo
  one-trunk n i j a b =
      one_place (λ m. draw_net ch t (track_of ps m) m) (TrunkTo n) n
      (λ m k l y z d₁ d₂ h₁ h₂. omega (arith, trunk-first m k y d₁ h₁.0, trunk-first m l z d₂ h₂.0))
      (nets ch) (nets-rising ch)
      (λ m y k d h. sym (owns-joined ch esc t ps f m h.1.2 (net-drawn ch esc t ps m (nets→ ch m k) d)) ∙ h.1.1)
      i j a.piece b.piece a.place b.place
      (a.trunk, (a.pin_of, a.net, a.joined)) (b.trunk, (b.pin_of, b.net, b.joined))

-- SCOPE, Req 04: no piece is joined to a parked pin, since each is drawn by a net, whose pins alone it is joined to
pub parked-bare : (ch : Channel) → Escapes ch → (t : ℕ) (ps : List Place) → FilledBy (net_items ch) t ps
    → (x : Pin) → T (is_parked ch (net_of ch x)) → (p : Piece) → Memᴰ p (draw ch t ps).pieces
    → Joined ch (draw ch t ps) (copper p) (pin x) → ⊥
unfolding Owns
parked-bare ch esc t ps f x parked p m j =
    let r = drawn ch esc t ps m in
    let same = owns-joined ch esc t ps f r.0 j r.1 in
    parked-no-net ch (net_of ch x) parked (subst (λ (n : ℕ). T (is_net ch n)) (sym same) (drawn-net r.1))

pub drawn-good : (ch : Channel) → Escapes ch → (t : ℕ) (ps : List Place) → FilledBy (net_items ch) t ps
    → Good ch (draw ch t ps) × OneTrunkEach ch (draw ch t ps)
drawn-good ch esc t ps f = (
  record {
    on_grid = grid ch esc t ps f;
    joins = λ x y isX isY.
        (joined→net ch esc t ps f x y, net→joined ch esc t ps f x y isX isY);
    floats = floating ch esc t ps f;
  },
  one-trunk ch esc t ps f,
)
