-- The points that the pieces of a net cover: those of its trunk, and those of its pin columns, above its track only
-- over a TOP pin and below it only under a BOT pin.
use Rattle.std.specs.Prelude.{ℕ, ◌+◌, ◌≤◌, ◌≡◌, refl, ◌⊎◌, Bool, cond, T, eqb}
use native.Mathlib.Omega.{arith}
use Rattle.std.proofs.Common.{sym, eqb→eq}
use Rattle.std.proofs.Math.Path.{subst}
use mathlib.Core.List.{List, Memᴰ}
use Rattle.std.proofs.Math.Logic.{inl, inr, ⊎_elim}
use Rattle.std.proofs.Math.Dec.{eqb_refl}
use Rattle.lists.specs.Lists.{at}
use Rattle.lists.specs.Tests.{T→true, fails→false, equal?}
use Rattle.grid.specs.declared.Piece.{Piece}
use Rattle.grid.specs.Pieces.{kind_of, trunk_kind, branch_kind, left, right, low, high, OnGrid}
use Rattle.grid.specs.Touching.{Covers}
use Rattle.channel.specs.Channel.{Channel, width, spanning, first_column, last_column}
use Rattle.channel.specs.Answers.{Escapes}
use Rattle.channel.specs.Nets.{PinIn}
use Rattle.channel.proofs.Laws.{pin-after-first, pin-before-last, pin-in-last}
use Rattle.channel.proofs.SpanLaws.{span-strict, spanning→}
use Rattle.leftedge.specs.Items.{Place, track_of}
use Rattle.drawing.specs.Draw.{branch_in}
use Rattle.drawing.proofs.Owner.{Drawn, trunk, branch, contact, straight, net-pin}

-- `cond` at a test of equality: k if a and b are equal, else l
abbrev pub Picked : ℕ → ℕ → ℕ → ℕ → Type 0
Picked a b k l = ((a ≡ b) × (cond (eqb a b) k l ≡ k)) ⊎ ((a ≡ b → ⊥) × (cond (eqb a b) k l ≡ l))

pub picked : (a b k l : ℕ) → Picked a b k l
picked a b k l =
    ⊎_elim (λ e. inl (
      e,
      subst (λ (c : Bool). cond c k l ≡ k)
          (sym (T→true (eqb a b) (subst (λ (n : ℕ). T (eqb a n)) e (eqb_refl a)))) refl,
    ))
    (λ d. inr (d, subst (λ (c : Bool). cond c k l ≡ l) (sym (fails→false (eqb a b) (λ t. d (eqb→eq a b t)))) refl))
    (equal? a b)

-- the point at column x and row y lies on the trunk of net n
pub record OnTrunk (ch : Channel) (ps : List Place) (n x y : ℕ) : Type 0 where
  pub spans : Memᴰ n (spanning ch)
  pub begins : first_column ch n ≤ x
  pub ends : x ≤ last_column ch n
  pub on_track : y ≡ track_of ps n

-- the point at column x and row y lies in a pin column of net n, on the side of a pin of it
pub record InShaft (ch : Channel) (ps : List Place) (n x y : ℕ) : Type 0 where
  pub pin_in : PinIn ch n x
  pub upward : (at ch.top x ≡ n) ⊎ (Memᴰ n (spanning ch) × (y ≤ track_of ps n))
  pub downward : (at ch.bot x ≡ n) ⊎ (Memᴰ n (spanning ch) × (track_of ps n ≤ y))

module _ {ch : Channel} {t : ℕ} {ps : List Place} where
  -- a trunk or a contact lies on its net's trunk
  pub drawn-on-trunk : {n : ℕ} {p : Piece} → Drawn ch t ps n p → (kind_of p ≡ branch_kind → ⊥) → (x y : ℕ) → Covers p x y
      → OnTrunk ch ps n x y
  unfolding kind_of left right low high branch_in
  drawn-on-trunk (trunk s) nb x y c =
      let a = c.from_low in
      let b = c.to_high in
      record { spans = s; begins = c.from_left; ends = c.to_right; on_track = omega arith }
  drawn-on-trunk (branch s q) nb x y c = absurd (nb refl)
  drawn-on-trunk {n} (contact {c = e} s q) nb x y c =
      let a = pin-after-first ch n e q in
      let b = pin-before-last ch n e q in
      let c₁ = c.from_left in
      let c₂ = c.to_right in
      let c₃ = c.from_low in
      let c₄ = c.to_high in
      record { spans = s; begins = omega arith; ends = omega arith; on_track = omega arith }
  drawn-on-trunk (straight r) nb x y c = absurd (nb refl)

  -- a branch or a contact lies in its net's pin column
  pub drawn-in-shaft : {n : ℕ} {p : Piece} → Drawn ch t ps n p → (kind_of p ≡ trunk_kind → ⊥) → (x y : ℕ) → Covers p x y
      → InShaft ch ps n x y
  unfolding kind_of left right low high branch_in
  drawn-in-shaft (trunk s) nt x y c = absurd (nt refl)
  drawn-in-shaft {n} (branch {c = e} s q) nt x y c =
      let c₁ = c.from_left in
      let c₂ = c.to_right in
      let c₃ = c.from_low in
      let c₄ = c.to_high in
      let here : e ≡ x = omega arith in
      let shaft : InShaft ch ps n e y = record {
        pin_in = q;
        upward = ⊎_elim (λ r. inl r.0) (λ r. let h = r.1 in inr (s, omega arith))
            (picked (at ch.top e) n (t + 1) (track_of ps n));
        downward = ⊎_elim (λ r. inl r.0) (λ r. let h = r.1 in inr (s, omega arith))
            (picked (at ch.bot e) n 0 (track_of ps n));
      } in
      subst (λ (k : ℕ). InShaft ch ps n k y) here shaft
  drawn-in-shaft {n} (contact {c = e} s q) nt x y c =
      let c₁ = c.from_left in
      let c₂ = c.to_right in
      let c₃ = c.from_low in
      let c₄ = c.to_high in
      let here : e ≡ x = omega arith in
      record {
        pin_in = subst (λ (k : ℕ). PinIn ch n k) here q;
        upward = inr (s, omega arith);
        downward = inr (s, omega arith);
      }
  drawn-in-shaft {n} (straight {c = e} r) nt x y c =
      let c₁ = c.from_left in
      let c₂ = c.to_right in
      let here : e ≡ x = omega arith in
      let shaft : InShaft ch ps n e y = record {
        pin_in =
            record { net = r.is_net.is_net; first = r.first; last = r.last; pin = inl r.on_top };
        upward = inl r.on_top;
        downward = inl r.on_bot;
      } in
      subst (λ (k : ℕ). InShaft ch ps n k y) here shaft

  -- pieces lie on the grid, if each net with a span has one of the tracks
  pub drawn-on-grid : Escapes ch → {n : ℕ} {p : Piece}
      → (Memᴰ n (spanning ch) → (1 ≤ track_of ps n) × (track_of ps n ≤ t)) → Drawn ch t ps n p
      → OnGrid (width ch) t p
  unfolding OnGrid branch_in
  drawn-on-grid esc {n} tracked (trunk s) =
      let k = tracked s in
      let r = spanning→ ch n s in
      let h = span-strict ch n r.1 in
      let a = net-pin ch esc n r.0 in
      let b = pin-in-last ch n (first_column ch n) a in
      (k.0, k.1, a.first, h, b.last)
  drawn-on-grid esc {n} tracked (branch {c = e} s q) =
      let k = tracked s in (
        q.first,
        q.last,
        ⊎_elim (λ a. ⊎_elim (λ b. omega arith) (λ b. omega arith) bottom)
            (λ a. ⊎_elim (λ b. omega arith) (λ b. absurd (⊎_elim a.0 b.0 q.pin)) bottom) above,
        ⊎_elim (λ a. omega arith) (λ a. omega arith) above,
      )
    where
      above : Picked (at ch.top e) n (t + 1) (track_of ps n)
      above = picked (at ch.top e) n (t + 1) (track_of ps n)

      bottom : Picked (at ch.bot e) n 0 (track_of ps n)
      bottom = picked (at ch.bot e) n 0 (track_of ps n)
  drawn-on-grid esc tracked (contact s q) = let k = tracked s in (q.first, q.last, k.0, k.1)
  drawn-on-grid esc tracked (straight r) = (r.first, r.last, omega arith, omega arith)
