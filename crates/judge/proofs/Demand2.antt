-- Demand 2, proved: the judge finds the first fault at its lowest place, and none exactly in a good layout.
use Rattle.std.specs.Prelude.{ℕ, suc, ◌<◌, ◌≡◌, ◌↔◌}
use native.Mathlib.Omega.{arith}
use Rattle.std.proofs.Math.Decide.{dec_lt}
use Rattle.std.proofs.Math.Path.{sym}
use Rattle.std.proofs.Common.{◌∙◌, ap, subst, subst₂}
use mathlib.Core.List.{Memᴰ}
use Rattle.std.proofs.Math.Logic.{⊎_elim}
use Rattle.std.proofs.Math.Option.{Option, none, some}
use Rattle.lists.specs.Tests.{equal?}
use Rattle.lists.specs.Ranges.{member-place, place-member}
use Rattle.grid.specs.declared.Piece.{Piece}
use Rattle.grid.specs.Pieces.{Layout}
use Rattle.channel.specs.Channel.{Channel}
use Rattle.channel.specs.Answers.{Escapes}
use Rattle.wiring.specs.Pins.{Pin, net_of, IsPin, pin_at}
use Rattle.wiring.specs.Layouts.{Present, Good, AllOnGrid, pin, copper, Joined}
use Rattle.wiring.specs.Chains.{joined-trans, joined-sym}
use Rattle.judge.specs.declared.Fault.{Fault}
use Rattle.judge.specs.declared.Fault.TheVariants.{Short, Open, Floating}
use Rattle.judge.specs.Finding.{finding, first_of_net}
use Rattle.judge.specs.PinPlaces.{position_of, pin_at-position, pin-inside}
use Rattle.judge.specs.FindingLaws.{None, SameNet, first-of-net, lowest-unique, Says, found-says}
use Rattle.judge.specs.FaultLaws.{first-is-pin, joined-or-open, joined-or-floating, shorts-first, opens-first}
use Rattle.judge.specs.FaultLaws.{floating-first}
use Rattle.judge.specs.Promise.{ShortPin, OpenPin, FloatingPiece, JudgePromise, Demand2}

module _ (ch : Channel) (l : Layout) (esc : Escapes ch) (g : AllOnGrid ch l) where
  finding-says : (w : Option Fault) → (finding ch l ≡ w) ↔ Says (ShortPin ch l) (OpenPin ch l) (FloatingPiece ch l) w
  unfolding finding
  finding-says w =
      found-says (ShortPin ch l) (OpenPin ch l) (FloatingPiece ch l) (shorts-first ch l esc g) (opens-first ch l esc g)
      (floating-first ch l esc g) w

  -- a good layout has none of the faults
  good→none : Good ch l → None (ShortPin ch l) × None (OpenPin ch l) × None (FloatingPiece ch l)
  good→none good =
      let noShort : None (ShortPin ch l) = λ p s. s.other
      (sym ((good.joins (pin_at ch p) (pin_at ch s.earlier) s.is_pin s.earlier_is_pin).0 s.joined)) in
      let no_open : None (OpenPin ch l) = λ p o. o.apart
      ((good.joins (pin_at ch p) (pin_at ch o.first) o.is_pin
      (first-is-pin ch l esc g p o.first o.is_pin o.first_of_net)).1 (sym o.first_of_net.holds)) in
      let noFloating : None (FloatingPiece ch l) = λ i f. let r =
      good.floats f.piece (place-member l.pieces _ f.place) in f.loose r.0 r.1 r.2 in
      (noShort, no_open, noFloating)

  module _ (noShort : None (ShortPin ch l)) (no_open : None (OpenPin ch l))
      (noFloating : None (FloatingPiece ch l)) where
    -- of two joined pins of different nets the later one is short
    not-before : (p q : ℕ) → IsPin ch (pin_at ch p) → IsPin ch (pin_at ch q)
        → Joined ch l (pin (pin_at ch p)) (pin (pin_at ch q)) → (SameNet ch p q → ⊥) → q < p → ⊥
    not-before p q hp hq c other before =
        noShort p (record {
          earlier = q;
          before = before;
          on_board = (pin-inside ch esc p hp).1;
          is_pin = hp;
          earlier_is_pin = hq;
          other = other;
          joined = c;
        })

    joined→net : (p q : ℕ) → IsPin ch (pin_at ch p) → IsPin ch (pin_at ch q)
        → Joined ch l (pin (pin_at ch p)) (pin (pin_at ch q)) → net_of ch (pin_at ch p) ≡ net_of ch (pin_at ch q)
    unfolding Present
    joined→net p q hp hq c =
        ⊎_elim (λ e. e) (λ other. absurd (clash other)) (equal? (net_of ch (pin_at ch p)) (net_of ch (pin_at ch q)))
      where
        clash : (net_of ch (pin_at ch p) ≡ net_of ch (pin_at ch q) → ⊥) → ⊥
        clash other =
            let notLess = not-before q p hq hp (joined-sym {x = pin (pin_at ch p)} hp c) other in
            let notMore = not-before p q hp hq c (λ e. other (sym e)) in
            let same : p ≡ q = elim (dec_lt p q) [
              | yes h ↦ absurd (notLess h)
              | no h ↦
                  elim (dec_lt q p) [ yes k ↦ absurd (notMore k) | no k ↦ omega arith ]
            ] in
            other (ap (λ (n : ℕ). net_of ch (pin_at ch n)) same)

    -- two pins of one net are joined to one first pin
    net→joined : (p q : ℕ) → IsPin ch (pin_at ch p) → IsPin ch (pin_at ch q)
        → net_of ch (pin_at ch p) ≡ net_of ch (pin_at ch q) → Joined ch l (pin (pin_at ch p)) (pin (pin_at ch q))
    unfolding Present
    net→joined p q hp hq e =
        let first-p = first-of-net ch esc p hp in
        let first_q = first-of-net ch esc q hq in
        let same : first_of_net ch p ≡ first_of_net ch q =
        lowest-unique first-p (record { holds = first_q.holds ∙ sym e; lowest = λ r h. first_q.lowest r (h ∙ e) }) in
        joined-trans (subst (λ (n : ℕ). Joined ch l (pin (pin_at ch p)) (pin (pin_at ch n))) same (to-first p hp))
        (joined-sym {x = pin (pin_at ch q)} hq (to-first q hq))
      where
        to-first : (p : ℕ) → IsPin ch (pin_at ch p) → Joined ch l (pin (pin_at ch p)) (pin (pin_at ch (first_of_net ch p)))
        to-first p hp = ⊎_elim (λ c. c) (λ o. absurd (no_open p o)) (joined-or-open ch l esc g p hp)

    none→good : Good ch l
    none→good = record { on_grid = g; joins = joins'; floats = floats' }
      where
        joins' : (x y : Pin) → IsPin ch x → IsPin ch y → Joined ch l (pin x) (pin y) ↔ (net_of ch x ≡ net_of ch y)
        joins' x y hx hy =
            let p = position_of ch x in
            let q = position_of ch y in
            let ex = pin_at-position ch x hx in
            let ey = pin_at-position ch y hy in
            let hp = subst (IsPin ch) (sym ex) hx in
            let hq = subst (IsPin ch) (sym ey) hy in
            let at_places : Joined ch l (pin (pin_at ch p)) (pin (pin_at ch q))
            ↔ (net_of ch (pin_at ch p) ≡ net_of ch (pin_at ch q)) = (joined→net p q hp hq, net→joined p q hp hq) in
            subst₂ (λ (a b : Pin). Joined ch l (pin a) (pin b) ↔ (net_of ch a ≡ net_of ch b)) ex ey at_places

        floats' : (p : Piece) → Memᴰ p l.pieces → (x : Pin) × IsPin ch x × Joined ch l (copper p) (pin x)
        floats' p m =
            let r = member-place m in
            ⊎_elim (λ c. c) (λ f. absurd (noFloating (suc r.0) f)) (joined-or-floating ch l esc g r.0 r.1)

  judge-promise : JudgePromise ch l
  judge-promise =
      record {
        passes = (
          λ e. let r = (finding-says none).0 e in none→good r.0 r.1 r.2,
          λ good.
              (finding-says none).1 (good→none good),
        );
        short = λ p. finding-says (some (Short p));
        opened = λ p. finding-says (some (Open p));
        floating = λ i. finding-says (some (Floating i));
      }

pub demand2 : Demand2
demand2 ch l esc g = judge-promise ch l esc g
