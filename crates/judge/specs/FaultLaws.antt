-- The judge's three lists of places are those of the three faults.
use Prim.Native.Nat.{ℕ, zero, suc, ◌+◌, ◌<◌}
use Rattle.std.proofs.Common.{arith, sym, inl, inr, ltb→lt, lt→ltb, eqb→eq}
use Rattle.std.specs.Prelude.{◌≡◌, ◌&&◌, ◌⊎◌, length}
use Rattle.std.proofs.Math.Path.{subst}
use Rattle.std.proofs.Math.Bool.{Bool, not}
use Rattle.std.proofs.Math.Logic.{⊎_elim}
use Rattle.std.proofs.Math.Option.{some}
use Rattle.std.proofs.Math.ListN.{get_elem?}
use Rattle.std.proofs.Math.Dec.{T, ltb, eqb, eqb_refl}
use Rattle.lists.specs.Lists.{any_of, at, Lowest}
use Rattle.lists.specs.Tests.{and_left, and_right, and_both, passes?, not-passes, not-fails}
use Rattle.lists.specs.Members.{any→member, member→any}
use Rattle.lists.specs.Firsts.{Passing}
use Rattle.lists.specs.Places.{place-below}
use Rattle.lists.specs.Ranges.{filled-place}
use Rattle.grid.specs.declared.Piece.{Piece}
use Rattle.grid.specs.Pieces.{Layout}
use Rattle.channel.specs.Channel.{Channel, width, positions}
use Rattle.channel.specs.Answers.{Escapes}
use Rattle.wiring.specs.Pins.{Pin, IsPin, pin_at}
use Rattle.wiring.specs.Layouts.{AllOnGrid, pin, copper, Joined}
use Rattle.judge.specs.Finding.{marks, pins, first_of_net, shorts, opens, floating}
use Rattle.judge.specs.PinPlaces.{position_of, pin_at-position, pin-inside, pins-member, in-pins}
use Rattle.judge.specs.MarkLaws.{pins-joined, piece-joined}
use Rattle.judge.specs.FindingLaws.{FirstOf, lowest-unique, kept-first, pins-first, SameNet, net-test→, →net-test}
use Rattle.judge.specs.FindingLaws.{first-of-net}
use Rattle.judge.specs.Promise.{ShortPin, OpenPin, FloatingPiece}

module _ (ch : Channel) (l : Layout) (esc : Escapes ch) (g : AllOnGrid ch l) where
  abbrev mark_at : ℕ → ℕ
  mark_at p = at (marks ch l) p

  abbrev net_at : ℕ → ℕ
  net_at p = at (positions ch) p

  -- the test of two marks
  marks→joined : (p q : ℕ) → IsPin ch (pin_at ch p) → IsPin ch (pin_at ch q) → T (eqb (mark_at q) (mark_at p))
      → Joined ch l (pin (pin_at ch p)) (pin (pin_at ch q))
  marks→joined p q hp hq t = (pins-joined ch l esc g p q hp hq).0 (sym (eqb→eq (mark_at q) (mark_at p) t))

  joined→marks : (p q : ℕ) → IsPin ch (pin_at ch p) → IsPin ch (pin_at ch q)
      → Joined ch l (pin (pin_at ch p)) (pin (pin_at ch q)) → T (eqb (mark_at q) (mark_at p))
  joined→marks p q hp hq c =
      subst (λ (n : ℕ). T (eqb (mark_at q) n)) (sym ((pins-joined ch l esc g p q hp hq).1 c)) (eqb_refl (mark_at q))

  pub shorts-first : FirstOf (ShortPin ch l) (shorts ch (marks ch l))
  unfolding shorts
  shorts-first = pins-first ch esc (λ p. any_of (bad p) (pins ch)) (ShortPin ch l) there again
    where
      bad : ℕ → ℕ → Bool
      bad p q = ltb q p && (not (eqb (net_at q) (net_at p)) && eqb (mark_at q) (mark_at p))

      there : (p : ℕ) → IsPin ch (pin_at ch p) → T (any_of (bad p) (pins ch)) → ShortPin ch l p
      there p hp t =
          let r = any→member (bad p) (pins ch) t in
          let q = r.0 in
          let hq = pins-member ch r.1 in
          let differs = not (eqb (net_at q) (net_at p)) in
          let alike = eqb (mark_at q) (mark_at p) in
          let rest = and_right (ltb q p) (differs && alike) r.2 in
          record {
            earlier = q;
            before = ltb→lt q p (and_left (ltb q p) (differs && alike) r.2);
            on_board = (pin-inside ch esc p hp).1;
            is_pin = hp;
            earlier_is_pin = hq;
            other = λ e. not-fails (eqb (net_at q) (net_at p)) (and_left differs alike rest) (→net-test ch p q e);
            joined = marks→joined p q hp hq (and_right differs alike rest);
          }

      again : (p : ℕ) → ShortPin ch l p → IsPin ch (pin_at ch p) × T (any_of (bad p) (pins ch))
      again p s =
          let q = s.earlier in
          let differs = not (eqb (net_at q) (net_at p)) in
          let alike = eqb (mark_at q) (mark_at p) in
          let tests = and_both (ltb q p) (differs && alike) (lt→ltb q p s.before)
          (and_both differs alike (not-passes (eqb (net_at q) (net_at p)) (λ t. s.other (net-test→ ch p q t)))
          (joined→marks p q s.is_pin s.earlier_is_pin s.joined)) in
          (s.is_pin, member→any (bad p) (in-pins ch esc q s.earlier_is_pin) tests)

  -- the first pin of a pin's net is a pin
  pub first-is-pin : (p q : ℕ) → IsPin ch (pin_at ch p) → Lowest (SameNet ch p) q → IsPin ch (pin_at ch q)
  first-is-pin p q hp h = subst (λ (n : ℕ). 0 < n) (sym h.holds) hp

  -- a pin is joined to its net's first pin, or open
  pub joined-or-open : (p : ℕ) → IsPin ch (pin_at ch p)
      → Joined ch l (pin (pin_at ch p)) (pin (pin_at ch (first_of_net ch p))) ⊎ OpenPin ch l p
  joined-or-open p hp =
      let q = first_of_net ch p in
      let first = first-of-net ch esc p hp in
      let hq = first-is-pin p q hp first in
      ⊎_elim (λ t. inl (marks→joined p q hp hq t)) (λ out.
      inr (record {
        first = q;
        on_board = (pin-inside ch esc p hp).1;
        is_pin = hp;
        first_of_net = first;
        apart = λ c. out (joined→marks p q hp hq c);
      }))
      (passes? (eqb (mark_at q) (mark_at p)))

  pub opens-first : FirstOf (OpenPin ch l) (opens ch (marks ch l))
  unfolding opens
  opens-first = pins-first ch esc (λ p. not (eqb (mark_at (first_of_net ch p)) (mark_at p))) (OpenPin ch l) there again
    where
      there : (p : ℕ) → IsPin ch (pin_at ch p) → T (not (eqb (mark_at (first_of_net ch p)) (mark_at p))) → OpenPin ch l p
      there p hp t =
          let q = first_of_net ch p in
          let hq = first-is-pin p q hp (first-of-net ch esc p hp) in
          ⊎_elim (λ c. absurd (not-fails (eqb (mark_at q) (mark_at p)) t (joined→marks p q hp hq c))) (λ o. o)
          (joined-or-open p hp)

      again : (p : ℕ) → OpenPin ch l p → IsPin ch (pin_at ch p) × T (not (eqb (mark_at (first_of_net ch p)) (mark_at p)))
      again p o =
          let q = first_of_net ch p in
          let first = first-of-net ch esc p o.is_pin in
          let same = lowest-unique first o.first_of_net in (
            o.is_pin,
            not-passes (eqb (mark_at q) (mark_at p))
                (λ t. o.apart (subst (λ (n : ℕ). Joined ch l (pin (pin_at ch p)) (pin (pin_at ch n))) same
                (marks→joined p q o.is_pin (first-is-pin p q o.is_pin first) t))),
          )

  -- a pin has the mark of the piece in place i, from 1
  near : ℕ → ℕ → Bool
  near i q = eqb (mark_at q) (mark_at (width ch + width ch + i))

  near→joined : (i : ℕ) {q : Piece} → get_elem? l.pieces i ≡ some q → T (any_of (near (suc i)) (pins ch))
      → (x : Pin) × IsPin ch x × Joined ch l (copper q) (pin x)
  unfolding near
  near→joined i e t =
      let r = any→member (near (suc i)) (pins ch) t in
      let hp = pins-member ch r.1 in (
        pin_at ch r.0,
        hp,
        (piece-joined ch l esc g i r.0 e hp).0
            (sym (eqb→eq (mark_at r.0) (mark_at (width ch + width ch + suc i)) r.2)),
      )

  joined→near : (i : ℕ) {q : Piece} → get_elem? l.pieces i ≡ some q → (x : Pin) → IsPin ch x
      → Joined ch l (copper q) (pin x) → T (any_of (near (suc i)) (pins ch))
  unfolding near
  joined→near i {q} e x hx c =
      let p = position_of ch x in
      let here = pin_at-position ch x hx in
      let hp = subst (IsPin ch) (sym here) hx in
      let same = (piece-joined ch l esc g i p e hp).1
      (subst (λ (y : Pin). Joined ch l (copper q) (pin y)) (sym here) c) in
      member→any (near (suc i)) (in-pins ch esc p hp)
      (subst (λ (n : ℕ). T (eqb (mark_at p) n)) (sym same) (eqb_refl (mark_at p)))

  -- a piece is joined to some pin, or floats
  pub joined-or-floating : (i : ℕ) {q : Piece} → get_elem? l.pieces i ≡ some q
      → ((x : Pin) × IsPin ch x × Joined ch l (copper q) (pin x)) ⊎ FloatingPiece ch l (suc i)
  joined-or-floating i {q} e =
      ⊎_elim (λ t. inl (near→joined i e t)) (λ out. inr
      (record { counted = omega arith; piece = q; place = e; loose = λ x hx c. out (joined→near i e x hx c) }))
      (passes? (any_of (near (suc i)) (pins ch)))

  pub floating-first : FirstOf (FloatingPiece ch l) (floating ch l (marks ch l))
  unfolding floating near
  floating-first =
      kept-first (λ i. not (any_of (near i) (pins ch))) 1 (length l.pieces) (FloatingPiece ch l) there again
    where
      there : (i : ℕ) → Passing (λ i. not (any_of (near i) (pins ch))) 1 (length l.pieces) i → FloatingPiece ch l i
      there zero h = let low = h.low in absurd (omega arith)
      there (suc i) h =
          let high = h.high in
          let r = filled-place l.pieces i (omega arith) in
          record {
            counted = omega arith;
            piece = r.0;
            place = r.1;
            loose = λ x hx c. not-fails (any_of (near (suc i)) (pins ch)) h.passes (joined→near i r.1 x hx c);
          }

      again : (i : ℕ) → FloatingPiece ch l i → Passing (λ i. not (any_of (near i) (pins ch))) 1 (length l.pieces) i
      again zero f = let low = f.counted in absurd (omega arith)
      again (suc i) f =
          let below = place-below l.pieces i f.place in
          record {
            low = omega arith;
            high = omega arith;
            passes = not-passes (any_of (near (suc i)) (pins ch))
                (λ t. let r = near→joined i f.place t in f.loose r.0 r.1 r.2);
          }
