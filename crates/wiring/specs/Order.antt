-- The order of trunks. In a good layout, where net a is above net b in a column, the trunk by which a leaves the column
-- is above that of b: otherwise branches of both cover one point of the column and touch. With one trunk piece per net
-- this runs down every path, and round no ring.
use Rattle.std.specs.Prelude.{ℕ, ◌≤◌, ◌<◌, ◌≡◌, refl}
use native.Mathlib.Omega.{arith}
use Rattle.std.proofs.Math.Decide.{dec_le}
use Rattle.std.proofs.Math.Path.{sym, subst}
use Rattle.std.proofs.Common.{◌∙◌, ap, inl, inr, ⊎_elim}
use mathlib.Core.List.{List, [], ◌∷◌}
use Rattle.std.proofs.Math.Option.{some}
use Rattle.std.proofs.Math.ListN.{get_elem?}
use Rattle.lists.specs.Lists.{head_or}
use Rattle.lists.specs.Ranges.{member-place}
use Rattle.grid.specs.declared.Piece.{Piece}
use Rattle.grid.specs.Pieces.{low, Layout}
use Rattle.grid.specs.Touching.{Touch}
use Rattle.grid.proofs.TouchLaws.{one-row, same-kind-meets}
use Rattle.channel.specs.Channel.{Channel, width}
use Rattle.channel.specs.Constraints.{Above, Step, Descends, last, next, Ring}
use Rattle.channel.specs.Answers.{Escapes}
use Rattle.channel.specs.Nets.{PinIn}
use Rattle.channel.proofs.Laws.{net-positive}
use Rattle.channel.proofs.SpanLaws.{upper-another, lower-another}
use Rattle.wiring.specs.Pins.{Pin, top, bot, column_of, row_of, net_of, IsPin}
use Rattle.wiring.specs.Layouts.{pin, Present, Touching, Good, TrunkOf, OneTrunkEach}
use Rattle.wiring.specs.Chains.{joined-trans, joined_snoc, joined-sym}
use Rattle.wiring.specs.Columns.{InColumn, Leaves, leaves}

-- a pin of net n in column c
pub record PinOf (ch : Channel) (n c : ℕ) : Type 0 where
  pub place : Pin
  pub column : column_of place ≡ c
  pub net : net_of ch place ≡ n

pub pin_of_lem : {ch : Channel} {n c : ℕ} → PinIn ch n c → PinOf ch n c
unfolding column_of net_of
pin_of_lem {c = c} p =
    ⊎_elim (λ e. record { place = top c; column = refl; net = e })
    (λ e. record { place = bot c; column = refl; net = e }) p.pin

module _ (ch : Channel) (esc : Escapes ch) (l : Layout) (g : Good ch l) where
  -- a pin whose net has a pin in another column leaves its own by a trunk
  pub leaves-column : (x : Pin) (n e : ℕ) → 0 < n → net_of ch x ≡ n → PinIn ch n e → (e ≡ column_of x → ⊥) → Leaves ch l x
  unfolding InColumn
  leaves-column x n e pos here p other =
      let y = pin_of_lem p in
      let isX : IsPin ch x = subst (λ (k : ℕ). 0 < k) (sym here) pos in
      let isY : IsPin ch y.place = subst (λ (k : ℕ). 0 < k) (sym y.net) pos in
      leaves ch l x g.on_grid ((g.joins x y.place isX isY).1 (here ∙ sym y.net))
      (λ i. other (sym y.column ∙ i))

  pub trunk-on-track : (x : Pin) (q : Leaves ch l x) → (1 ≤ low q.trunk) × (low q.trunk ≤ l.tracks)
  trunk-on-track x q =
      let k = q.is_trunk in
      let r = one-row (width ch) l.tracks q.trunk (g.on_grid q.trunk q.present)
      (λ e. absurd (omega arith)) in
      (r.1, r.2)

  -- net a above net b in column c: the trunk of a is the higher
  pub trunk-order : (a b c : ℕ) → Above ch a b c → (p : Leaves ch l (top c)) (q : Leaves ch l (bot c))
      → low q.trunk < low p.trunk
  unfolding column_of row_of net_of Present Touching
  trunk-order a b c ab p q =
      elim (dec_le (low p.trunk) (low q.trunk)) [ yes h ↦ absurd (short h) | no h ↦ omega arith ]
    where
      is_a : IsPin ch (top c)
      is_a = subst (λ (k : ℕ). 0 < k) (sym ab.on_top) (net-positive ch a ab.upper)

      is_b : IsPin ch (bot c)
      is_b = subst (λ (k : ℕ). 0 < k) (sym ab.on_bot) (net-positive ch b ab.lower)

      short : low p.trunk ≤ low q.trunk → ⊥
      short h =
          let k = low p.trunk in
          let inside = trunk-on-track (top c) p in
          let wa = p.wired k (inl (omega arith, omega arith)) in
          let wb = q.wired k (inr (omega arith, h)) in
          let meets : Touch wa.piece wb.piece =
          record {
            column = c;
            row = k;
            covers₁ = wa.covered;
            covers₂ = wb.covered;
            meets = same-kind-meets (wa.branch ∙ sym wb.branch);
          } in
          let j = joined-trans (joined_snoc wa.joined meets wb.present)
          (joined-sym {ch = ch} {l = l} {x = pin (bot c)} is_b wb.joined) in
          ab.different ((sym ab.on_top ∙ (g.joins (top c) (bot c) is_a is_b).0 j) ∙ ab.on_bot)

  -- net n has a trunk piece on track k
  pub record HasTrack (n k : ℕ) : Type 0 where
    pub place : ℕ
    pub owned : TrunkOf ch l n place
    pub on_track : low owned.piece ≡ k

  pub leaves→track : (x : Pin) (n : ℕ) → 0 < n → net_of ch x ≡ n → (q : Leaves ch l x) → HasTrack n (low q.trunk)
  unfolding Present
  leaves→track x n pos here q =
      let isX : IsPin ch x = subst (λ (k : ℕ). 0 < k) (sym here) pos in
      let r = member-place q.present in
      record {
        place = r.0;
        owned = record {
          piece = q.trunk;
          place = r.1;
          trunk = q.is_trunk;
          pin_of = x;
          is_pin = isX;
          net = here;
          joined = joined-sym {ch = ch} {l = l} {x = pin x} isX q.joined;
        };
        on_track = refl;
      }

  -- both nets of a step down have trunks, the upper one's higher
  pub record Lower (a b : ℕ) : Type 0 where
    pub upper_track : ℕ
    pub lower_track : ℕ
    pub upper : HasTrack a upper_track
    pub lower : HasTrack b lower_track
    pub falls : lower_track < upper_track

  pub above→lower : (a b c : ℕ) → Above ch a b c → Lower a b
  unfolding column_of net_of
  above→lower a b c h =
      let ua = upper-another ch esc h in
      let lb = lower-another ch esc h in
      let posA = net-positive ch a h.upper in
      let posB = net-positive ch b h.lower in
      let p = leaves-column (top c) a ua.0 posA h.on_top ua.1 ua.2 in
      let q = leaves-column (bot c) b lb.0 posB h.on_bot lb.1 lb.2 in
      record {
        upper_track = low p.trunk;
        lower_track = low q.trunk;
        upper = leaves→track (top c) a posA h.on_top p;
        lower = leaves→track (bot c) b posB h.on_bot q;
        falls = trunk-order a b c h p q;
      }

  module _ (one : OneTrunkEach ch l) where
    same-piece : {p q : Piece} {i j : ℕ} → get_elem? l.pieces i ≡ some p → get_elem? l.pieces j ≡ some q → i ≡ j
        → p ≡ q
    same-piece {p} {q} {i} {j} hp hq e = let s : some p ≡ some q = sym hp ∙ (ap (get_elem? l.pieces) e ∙ hq) in cc

    -- with one trunk piece per net a net has one track
    pub one-track : (n k m : ℕ) → HasTrack n k → HasTrack n m → k ≡ m
    one-track n k m p q =
        let e = same-piece p.owned.place q.owned.place (one n p.place q.place p.owned q.owned) in
        sym p.on_track ∙ (ap low e ∙ q.on_track)

    -- down a list of steps the tracks fall
    pub descends-lower : (end : ℕ) (s : Step) (rest : List Step) → Descends (Above ch) end (s ∷ rest)
        → Lower s.net end
    descends-lower end s [] (last h) = above→lower s.net end s.column h
    descends-lower end s (t ∷ rest) (next h d) =
        let here = above→lower s.net t.net s.column h in
        let there = descends-lower end t rest d in
        let same = one-track t.net here.lower_track there.upper_track here.lower there.upper in
        let f₁ = here.falls in
        let f₂ = there.falls in
        record {
          upper_track = here.upper_track;
          lower_track = there.lower_track;
          upper = here.upper;
          lower = there.lower;
          falls = omega arith;
        }

    -- so there is no ring
    pub no-ring : (steps : List Step) → Ring ch steps → ⊥
    unfolding head_or
    no-ring [] r = absurd (elim r.closed [ ])
    no-ring (s ∷ rest) r =
        let round = descends-lower s.net s rest r.closed in
        let same = one-track s.net round.upper_track round.lower_track round.upper round.lower in
        let f = round.falls in
        omega arith
