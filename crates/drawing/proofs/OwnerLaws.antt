-- Pieces that touch are drawn by one net, and a pin that touches a piece is of the net that drew it. So along a chain
-- of touches the net stays the same.
use Rattle.std.specs.Prelude.{ℕ, ◌≤◌, ◌≡◌, ◌⊎◌}
use Rattle.std.proofs.Common.{arith, sym, ◌∙◌, inl, inr}
use Rattle.std.proofs.Math.Path.{subst}
use mathlib.Core.List.{List, Memᴰ}
use Rattle.std.proofs.Math.Logic.{⊎_elim}
use Rattle.std.proofs.Math.Dec.{ltb→lt}
use Rattle.lists.specs.Lists.{at}
use Rattle.lists.specs.Tests.{equal?}
use Rattle.grid.specs.declared.Piece.{Piece}
use Rattle.grid.specs.Pieces.{kind_of, trunk_kind, branch_kind}
use Rattle.grid.specs.Touching.{Touch}
use Rattle.grid.proofs.TouchLaws.{met-branch, crossing-apart, touch-sym}
use Rattle.channel.specs.Channel.{Channel, spanning, first_column, last_column}
use Rattle.channel.specs.Constraints.{Above}
use Rattle.channel.specs.Answers.{Escapes}
use Rattle.channel.proofs.Laws.{above→drop}
use Rattle.channel.proofs.SpanLaws.{spanning→}
use Rattle.wiring.specs.Pins.{Pin, top, bot, column_of, row_of, net_of, PinTouch}
use Rattle.wiring.specs.Layouts.{Element, pin, copper, Present, Touching, Joined, itself, link}
use Rattle.leftedge.specs.Items.{Place, track_of}
use Rattle.leftedge.specs.Nets.{net_items}
use Rattle.leftedge.specs.Invariants.{FilledBy}
use Rattle.leftedge.proofs.NetLaws.{spanning→order}
use Rattle.drawing.specs.Draw.{draw}
use Rattle.drawing.proofs.Owner.{Drawn, drawn}
use Rattle.drawing.proofs.Points.{OnTrunk, InShaft, drawn-on-trunk, drawn-in-shaft}

-- of two pieces that touch none is a branch, or none is a trunk
touch-layer : (p q : Piece) → Touch p q → ((kind_of p ≡ branch_kind → ⊥) × (kind_of q ≡ branch_kind → ⊥)) ⊎
    ((kind_of p ≡ trunk_kind → ⊥) × (kind_of q ≡ trunk_kind → ⊥))
touch-layer p q h =
    ⊎_elim (λ b. inr ((λ k. absurd (omega arith)), λ k. crossing-apart q p k b (touch-sym h)))
    (λ n. ⊎_elim (λ b. inr ((λ k. crossing-apart p q k b h), λ k. absurd (omega arith))) (λ m. inl (n, m))
    (equal? (kind_of q) branch_kind)) (equal? (kind_of p) branch_kind)

module _ (ch : Channel) (esc : Escapes ch) (t : ℕ) (ps : List Place) (f : FilledBy (net_items ch) t ps) where
  in_order_lem : (n : ℕ) → Memᴰ n (spanning ch) → Memᴰ n (net_items ch).order
  in_order_lem n s = spanning→order ch esc.even n s

  pub on-tracks : (n : ℕ) → Memᴰ n (spanning ch) → (1 ≤ track_of ps n) × (track_of ps n ≤ t)
  on-tracks n s = f.tracked n (in_order_lem n s)

  -- no point lies on two trunks
  trunk-owner : (m n x y : ℕ) → OnTrunk ch ps m x y → OnTrunk ch ps n x y → m ≡ n
  unfolding net_items
  trunk-owner m n x y p q =
      ⊎_elim (λ e. e) (λ d. absurd (⊎_elim (λ h. let l = ltb→lt (last_column ch m) (first_column ch n) h in omega arith)
      (λ h. let l = ltb→lt (last_column ch n) (first_column ch m) h in omega arith)
      (f.side m n (in_order_lem m p.spans) (in_order_lem n q.spans) d (sym p.on_track ∙ q.on_track))))
      (equal? m n)

  -- in a column with a TOP pin of m and a BOT pin of n, the copper of m ends above that of n
  shaft-apart : (m n x y : ℕ) → (m ≡ n → ⊥) → at ch.top x ≡ m → InShaft ch ps m x y → InShaft ch ps n x y → ⊥
  unfolding net_items
  shaft-apart m n x y d on_top p q =
      ⊎_elim (λ e. d (sym on_top ∙ e)) (λ r. ⊎_elim (λ e. d (sym e ∙ on_bot)) (λ s. order s.0 r.0 s.1 r.1)
      p.downward) q.upward
    where
      on_bot : at ch.bot x ≡ n
      on_bot = ⊎_elim (λ e. absurd (d (sym on_top ∙ e))) (λ e. e) q.pin_in.pin

      order : Memᴰ m (spanning ch) → Memᴰ n (spanning ch) → track_of ps m ≤ y → y ≤ track_of ps n → ⊥
      order sm sn h k =
          let over : Above ch m n x = record {
            on_top = on_top;
            on_bot = on_bot;
            upper = (spanning→ ch m sm).0.is_net;
            lower = (spanning→ ch n sn).0.is_net;
            different = d;
          } in
          let l = f.lower m n x (in_order_lem m sm) (above→drop ch m n x over) in
          omega arith

  shaft-owner : (m n x y : ℕ) → InShaft ch ps m x y → InShaft ch ps n x y → m ≡ n
  shaft-owner m n x y p q =
      ⊎_elim (λ e. e) (λ d. absurd (⊎_elim (λ e. shaft-apart m n x y d e p q)
      (λ e. ⊎_elim (λ g. shaft-apart n m x y (λ z. d (sym z)) g q p) (λ g. d (sym e ∙ g)) q.pin_in.pin)
      p.pin_in.pin)) (equal? m n)

  -- pieces that touch are drawn by one net
  piece-owner : {m n : ℕ} {p q : Piece} → Drawn ch t ps m p → Drawn ch t ps n q → Touch p q → m ≡ n
  piece-owner {m} {n} {p} {q} a b h =
      ⊎_elim (λ l. trunk-owner m n h.column h.row (drawn-on-trunk a l.0 h.column h.row h.covers₁)
      (drawn-on-trunk b l.1 h.column h.row h.covers₂))
      (λ l. shaft-owner m n h.column h.row (drawn-in-shaft a l.0 h.column h.row h.covers₁)
      (drawn-in-shaft b l.1 h.column h.row h.covers₂)) (touch-layer p q h)

  -- copper reaches row 0 only under a BOT pin of its net, and row t+1 only over a TOP pin
  end-owner : (x : Pin) (n : ℕ) → InShaft ch ps n (column_of x) (row_of t x) → net_of ch x ≡ n
  unfolding column_of row_of net_of
  end-owner (top c) n p =
      ⊎_elim (λ e. e) (λ r. let k = on-tracks n r.0 in let h = r.1 in absurd (omega arith)) p.upward
  end-owner (bot c) n p =
      ⊎_elim (λ e. e) (λ r. let k = on-tracks n r.0 in let h = r.1 in absurd (omega arith)) p.downward

  pin-owner : (x : Pin) {n : ℕ} {p : Piece} → Drawn ch t ps n p → PinTouch t x p → net_of ch x ≡ n
  pin-owner x {n} a h =
      end-owner x n (drawn-in-shaft a (λ k. let b = met-branch _ h.meets in absurd (omega arith)) (column_of x)
      (row_of t x) h.covered)

  -- the net of an element: of a pin its own, of a piece the one that drew it
  unfoldable pub Owns : ℕ → Element → Type 0
  Owns n (pin x) = net_of ch x ≡ n
  Owns n (copper p) = Drawn ch t ps n p

  owns-next : (n : ℕ) (u v : Element) → Touching t u v → Present ch (draw ch t ps) v → Owns n u → Owns n v
  unfolding Touching Present Owns
  owns-next n (pin x) (pin y) h p o = absurd h
  owns-next n (pin x) (copper q) h p o =
      let r = drawn ch esc t ps p in
      subst (λ (k : ℕ). Drawn ch t ps k q) (sym (pin-owner x r.1 h) ∙ o) r.1
  owns-next n (copper p) (pin y) h r o = pin-owner y o h
  owns-next n (copper p) (copper q) h m o =
      let r = drawn ch esc t ps m in
      subst (λ (k : ℕ). Drawn ch t ps k q) (sym (piece-owner o r.1 h)) r.1

  pub owns-joined : (n : ℕ) {u v : Element} → Joined ch (draw ch t ps) u v → Owns n u → Owns n v
  unfolding draw
  owns-joined n itself o = o
  owns-joined n (link {x = x} {y = y} h p r) o = owns-joined n r (owns-next n x y h p o)
