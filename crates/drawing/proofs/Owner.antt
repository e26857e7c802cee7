-- The net that drew a piece, and what it drew: its trunk, in each of its pin columns a branch and a contact, or the one
-- branch of a straight net.
use Rattle.std.specs.Prelude.{ℕ, ◌+◌, ◌≤◌, ◌<◌, ◌≡◌, Bool, cond, T}
use Rattle.std.proofs.Math.Path.{refl, subst}
use Rattle.std.proofs.Common.{sym, ltb→lt, lt→ltb}
use mathlib.Core.List.Memᴰ
use mathlib.Core.List.{List, Memᴰ}
use Rattle.std.proofs.Math.Logic.{⊎_elim}
use Rattle.std.proofs.Math.Bool.{true, false}
use Rattle.lists.specs.Lists.{each, at}
use Rattle.lists.specs.Tests.{T→true, true→T, fails→false, false→fails}
use Rattle.lists.specs.Members.{each_member, in-each}
use Rattle.grid.specs.declared.Piece.{Piece}
use Rattle.grid.specs.declared.Piece.TheVariants.{Trunk, Branch, Contact}
use Rattle.grid.specs.Pieces.{column, track, row}
use Rattle.channel.specs.Channel.{Channel, width, is_net, nets, has_span, spanning, first_column, last_column, pin_columns}
use Rattle.channel.specs.Answers.{Escapes}
use Rattle.channel.specs.Nets.{PinIn, IsNet}
use Rattle.channel.proofs.Laws.{pin-column, in-pin-columns, pin-in-first, net→pin}
use Rattle.channel.proofs.SpanLaws.{nets→, →nets, spanning→, →spanning, straight-both}
use Rattle.leftedge.specs.Items.{Place, track_of}
use Rattle.drawing.specs.Draw.{branch_in, draw_column, draw_span, draw_straight, draw_net, draw}

abbrev pub trunk_piece : Channel → List Place → ℕ → Piece
trunk_piece ch ps n = Trunk (track (track_of ps n)) (column (first_column ch n)) (column (last_column ch n))

abbrev pub contact_piece : List Place → ℕ → ℕ → Piece
contact_piece ps n c = Contact (column c) (track (track_of ps n))

abbrev pub straight_piece : ℕ → ℕ → Piece
straight_piece t c = Branch (column c) (row 0) (row (t + 1))

-- both pins of column c are of net n, which is straight
pub record StraightIn (ch : Channel) (n c : ℕ) : Type 0 where
  pub is_net : IsNet ch n
  pub no_span : first_column ch n < last_column ch n → ⊥
  pub here : c ≡ first_column ch n
  pub first : 1 ≤ c
  pub last : c ≤ width ch
  pub on_top : at ch.top c ≡ n
  pub on_bot : at ch.bot c ≡ n

-- net n draws the piece
pub data Drawn (ch : Channel) (t : ℕ) (ps : List Place) (n : ℕ) : Piece → Type 0 where
  trunk : Memᴰ n (spanning ch) → Drawn ch t ps n (trunk_piece ch ps n)
  branch : {c : ℕ} → Memᴰ n (spanning ch) → PinIn ch n c → Drawn ch t ps n (branch_in ch t (track_of ps n) n c)
  contact : {c : ℕ} → Memᴰ n (spanning ch) → PinIn ch n c → Drawn ch t ps n (contact_piece ps n c)
  straight : {c : ℕ} → StraightIn ch n c → Drawn ch t ps n (straight_piece t c)

-- which is a net that is routed
pub drawn-net : {ch : Channel} {t : ℕ} {ps : List Place} {n : ℕ} {p : Piece} → Drawn ch t ps n p → T (is_net ch n)
drawn-net {ch} {n = n} (trunk s) = (spanning→ ch n s).0.is_net
drawn-net (branch s q) = q.net
drawn-net (contact s q) = q.net
drawn-net (straight r) = r.is_net.is_net

module _ (ch : Channel) (esc : Escapes ch) where
  pub net-pin : (n : ℕ) → IsNet ch n → PinIn ch n (first_column ch n)
  net-pin n h = let r = net→pin ch n esc.even h.is_net in pin-in-first ch n r.0 r.1

  -- a pin of a net without a span
  pub straight-in : (n c : ℕ) → IsNet ch n → (first_column ch n < last_column ch n → ⊥) → PinIn ch n c → StraightIn ch n c
  straight-in n c h s p =
      let r = straight-both ch esc n c p s in
      record { is_net = h; no_span = s; here = r.0; first = p.first; last = p.last; on_top = r.1; on_bot = r.2 }

  module _ (t : ℕ) (ps : List Place) where
    span-drawn : (n : ℕ) → Memᴰ n (spanning ch) → {p : Piece} → Memᴰ p (draw_span ch t (track_of ps n) n)
        → Drawn ch t ps n p
    unfolding draw_span draw_column
    span-drawn n s {p} m = ⊎_elim (λ e. subst (Drawn ch t ps n) (sym e) (trunk s)) in-column (Memᴰ.cases_cons m)
      where
        in-column : Memᴰ p (each (draw_column ch t (track_of ps n) n) (pin_columns ch n)) → Drawn ch t ps n p
        in-column k =
            let r = each_member (draw_column ch t (track_of ps n) n) (pin_columns ch n) k in
            let q = pin-column ch n r.0 r.1 in
            ⊎_elim (λ e. subst (Drawn ch t ps n) (sym e) (branch s q))
            (λ l. subst (Drawn ch t ps n) (sym (Memᴰ.eq_of_singleton l)) (contact s q))
            (Memᴰ.cases_cons r.2)

    pub net-drawn : (n : ℕ) → IsNet ch n → {p : Piece} → Memᴰ p (draw_net ch t (track_of ps n) n)
        → Drawn ch t ps n p
    unfolding draw_net draw_straight has_span
    net-drawn n h {p} m = go (has_span ch n) refl m
      where
        go : (b : Bool) → has_span ch n ≡ b → Memᴰ p (cond b (draw_span ch t (track_of ps n) n) (draw_straight ch t n))
            → Drawn ch t ps n p
        go true e k =
            span-drawn n (→spanning ch n h (ltb→lt (first_column ch n) (last_column ch n) (true→T (has_span ch n) e))) k
        go false e k =
            let s : (first_column ch n < last_column ch n → ⊥) = λ l.
            false→fails (has_span ch n) e (lt→ltb (first_column ch n) (last_column ch n) l) in
            subst (Drawn ch t ps n) (sym (Memᴰ.eq_of_singleton k))
            (straight (straight-in n (first_column ch n) h s (net-pin n h)))

    -- every piece is drawn by some net
    pub drawn : {p : Piece} → Memᴰ p (draw ch t ps).pieces → (n : ℕ) × Drawn ch t ps n p
    unfolding draw
    drawn m =
        let r = each_member (λ n. draw_net ch t (track_of ps n) n) (nets ch) m in
        (r.0, net-drawn r.0 (nets→ ch r.0 r.1) r.2)

    -- what a net draws is in the layout
    span-present : (n : ℕ) → Memᴰ n (spanning ch) → {p : Piece} → Memᴰ p (draw_span ch t (track_of ps n) n)
        → Memᴰ p (draw ch t ps).pieces
    unfolding draw draw_net
    span-present n s {p} m =
        let r = spanning→ ch n s in
        let spans = T→true (has_span ch n) r.1 in
        in-each (λ i. draw_net ch t (track_of ps i) i) (→nets ch n r.0) (rw spans m)

    pub trunk-present : (n : ℕ) → Memᴰ n (spanning ch) → Memᴰ (trunk_piece ch ps n) (draw ch t ps).pieces
    unfolding draw_span
    trunk-present n s = span-present n s (Memᴰ.head refl)

    column-present : (n c : ℕ) → Memᴰ n (spanning ch) → PinIn ch n c → {p : Piece}
        → Memᴰ p (draw_column ch t (track_of ps n) n c) → Memᴰ p (draw ch t ps).pieces
    unfolding draw_span
    column-present n c s q m =
        span-present n s (Memᴰ.tail (in-each (draw_column ch t (track_of ps n) n) (in-pin-columns ch n c q) m))

    pub branch-present : (n c : ℕ) → Memᴰ n (spanning ch) → PinIn ch n c
        → Memᴰ (branch_in ch t (track_of ps n) n c) (draw ch t ps).pieces
    unfolding draw_column
    branch-present n c s q = column-present n c s q (Memᴰ.head refl)

    pub contact-present : (n c : ℕ) → Memᴰ n (spanning ch) → PinIn ch n c
        → Memᴰ (contact_piece ps n c) (draw ch t ps).pieces
    unfolding draw_column
    contact-present n c s q = column-present n c s q (Memᴰ.tail (Memᴰ.head refl))

    pub straight-present : (n : ℕ) → IsNet ch n → (first_column ch n < last_column ch n → ⊥)
        → Memᴰ (straight_piece t (first_column ch n)) (draw ch t ps).pieces
    unfolding draw draw_net draw_straight has_span
    straight-present n h s =
        let none = fails→false (has_span ch n) (λ k. s (ltb→lt (first_column ch n) (last_column ch n) k)) in
        in-each (λ i. draw_net ch t (track_of ps i) i) (→nets ch n h) (rw none (Memᴰ.head refl))
