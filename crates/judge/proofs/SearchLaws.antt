-- The three searches of the judge, place by place from 0: what each has seen so far, and that it finds the first of
-- `shorts`, `opens` and `floating`.
use Prim.Native.Nat.{ℕ, zero, suc, ◌+◌, ◌<◌}
use native.Mathlib.Omega.{arith}
use Rattle.std.specs.Prelude.{◌≡◌, refl, Bool, ◌&&◌, ◌⊎◌, length, get_or, set, ltb, Some, None}
use Rattle.std.proofs.Math.Path.{sym, ap, subst}
use Rattle.std.proofs.Common.{◌∙◌, ⊎_elim, get_or-set_same, get_or-set_other, lt→ltb, eqb→eq}
use mathlib.Core.List.{List, Memᴰ}
use Rattle.std.proofs.Math.Bool.{not}
use Rattle.std.proofs.Math.Dec.{T, eqb, ltb→lt, eqb_refl}
use Rattle.lists.specs.Lists.{keep, any_of, up_to, head_or, at, Lowest}
use Rattle.lists.specs.Tests.{and_left, and_right, and_both, not-passes, not-fails, equal?}
use Rattle.lists.specs.Members.{any→member, member→any, keep-member, kept, up_to-member, in-up_to}
use Rattle.lists.specs.Places.{keep-keep}
use Rattle.lists.specs.Finds.{find-keep, scan-found, scan-none}
use Rattle.grid.specs.Pieces.{Layout}
use Rattle.channel.specs.Channel.{Channel, width, positions}
use Rattle.channel.specs.Answers.{Escapes}
use Rattle.wiring.specs.Pins.{net_of, IsPin, pin_at}
use Rattle.judge.specs.Finding.{pins, first_of_net, shorts, opens, floating}
use Rattle.judge.specs.PinPlaces.{position-net}
use Rattle.judge.specs.FindingLaws.{first-of-net}
use Rattle.judge.specs.Searches.{Owner, Owned}
use Rattle.judge.specs.FaultSteps.{first_of}

-- what holds before place i and there holds before the next
next_place : (P : ℕ → Type 0) (i : ℕ) → ((k : ℕ) → k < i → P k) → P i → (k : ℕ) → k < i + 1 → P k
next_place P i all here k l = ⊎_elim (λ e. subst P (sym e) here) (λ out. all k (omega arith)) (equal? k i)

-- the first of the places 1 to n that pass a test, which is P of the place from 0
module _ (f : ℕ → Bool) (n : ℕ) (P : ℕ → Type 0) (said : (i : ℕ) → i < n → T (f (suc i)) → P i) where
  first-found : (i : ℕ) → i < n → T (f (suc i)) → ((k : ℕ) → k < i → P k → ⊥) → Some (i + 1) ≡ first_of (keep f (up_to n))
  first-found i l t before =
      scan-found f n i l t (λ k b p. before k b (said k (omega arith) p)) ∙ find-keep f (up_to n)

  no-first : ((k : ℕ) → k < n → P k → ⊥) → None ≡ first_of (keep f (up_to n))
  no-first before = scan-none f n (λ k b p. before k b (said k b p)) ∙ find-keep f (up_to n)

module _ (ch : Channel) (ms : List ℕ) where
  -- the net and the mark at a position counted from 0
  abbrev net_at : ℕ → ℕ
  net_at q = get_or (positions ch) q 0

  abbrev mark_at : ℕ → ℕ
  mark_at q = get_or ms q 0

  abbrev places : ℕ
  places = width ch + width ch

  is_pin : ℕ → Bool
  is_pin p = ltb 0 (at (positions ch) p)

  -- a pin of the same mark and of another net stands before
  record ShortAt (i : ℕ) : Type 0 where
    earlier : ℕ
    before : earlier < i
    is_pin : 0 < net_at i
    earlier_is_pin : 0 < net_at earlier
    other : net_at earlier ≡ net_at i → ⊥
    same : mark_at earlier ≡ mark_at i

  short_test : ℕ → ℕ → Bool
  short_test p q = ltb q p && (not (eqb (at (positions ch) q) (at (positions ch) p)) && eqb (at ms q) (at ms p))

  shorts-kept : shorts ch ms ≡ keep (λ p. is_pin p && any_of (short_test p) (pins ch)) (up_to places)
  unfolding shorts pins is_pin short_test
  shorts-kept = keep-keep (λ p. any_of (short_test p) (pins ch)) is_pin (up_to places)

  short→ : (i : ℕ) → i < places → T (is_pin (suc i) && any_of (short_test (suc i)) (pins ch)) → ShortAt i
  unfolding is_pin short_test pins at
  short→ i l t = go r.0 r.1 r.2
    where
      r : (q : ℕ) × Memᴰ q (pins ch) × T (short_test (suc i) q)
      r = any→member (short_test (suc i)) (pins ch) (and_right (is_pin (suc i)) (any_of (short_test (suc i)) (pins ch)) t)

      go : (q : ℕ) → Memᴰ q (pins ch) → T (short_test (suc i) q) → ShortAt i
      go zero m k = let b = up_to-member places (keep-member is_pin (up_to places) m).0 in absurd (omega arith)
      go (suc q) m k =
          let differs = not (eqb (net_at q) (net_at i)) in
          let alike = eqb (mark_at q) (mark_at i) in
          let rest = and_right (ltb (suc q) (suc i)) (differs && alike) k in
          let below = ltb→lt (suc q) (suc i) (and_left (ltb (suc q) (suc i)) (differs && alike) k) in
          record {
            earlier = q;
            before = omega arith;
            is_pin = ltb→lt 0 (net_at i) (and_left (is_pin (suc i)) (any_of (short_test (suc i)) (pins ch)) t);
            earlier_is_pin = ltb→lt 0 (net_at q) (keep-member is_pin (up_to places) m).1;
            other =
                λ e. not-fails (eqb (net_at q) (net_at i)) (and_left differs alike rest)
                (subst (λ (n : ℕ). T (eqb (net_at q) n)) e (eqb_refl (net_at q)));
            same = eqb→eq (mark_at q) (mark_at i) (and_right differs alike rest);
          }

  →short : (i : ℕ) → i < places → ShortAt i → T (is_pin (suc i) && any_of (short_test (suc i)) (pins ch))
  unfolding is_pin short_test pins at
  →short i l s =
      let q = s.earlier in
      let b = s.before in
      let differs = not (eqb (net_at q) (net_at i)) in
      let alike = eqb (mark_at q) (mark_at i) in
      let test = and_both (ltb (suc q) (suc i)) (differs && alike) (lt→ltb (suc q) (suc i) (omega arith))
      (and_both differs alike (not-passes (eqb (net_at q) (net_at i)) (λ t. s.other (eqb→eq (net_at q) (net_at i) t)))
      (subst (λ (n : ℕ). T (eqb (mark_at q) n)) s.same (eqb_refl (mark_at q)))) in
      and_both (is_pin (suc i)) (any_of (short_test (suc i)) (pins ch)) (lt→ltb 0 (net_at i) s.is_pin)
      (member→any (short_test (suc i)) (kept is_pin (in-up_to places (suc q) (omega arith) (omega arith))
      (lt→ltb 0 (net_at q) s.earlier_is_pin)) test)

  pub owned-none : (owners : List ℕ) → ((m : ℕ) → get_or owners m 0 ≡ 0) → Owned ch ms owners 0
  owned-none owners h = record { settled = λ q l p. absurd (omega arith); owner = λ m out. absurd (out (h m)) }

  later-owner : (owners : List ℕ) (i m : ℕ) → Owner ch ms owners i m → Owner ch ms owners (i + 1) m
  later-owner owners i m o =
      let b = o.before in record {
        place = o.place;
        before = omega arith;
        is_pin = o.is_pin;
        mark = o.mark;
        net = o.net;
      }

  -- no pin at place i, or one whose net owns its mark
  pub owned-same : (owners : List ℕ) (i : ℕ) → Owned ch ms owners i → (0 < net_at i → get_or owners (mark_at i) 0 ≡ net_at i)
      → Owned ch ms owners (i + 1)
  owned-same owners i h here =
      record {
        settled = next_place (λ q. 0 < net_at q → get_or owners (mark_at q) 0 ≡ net_at q) i h.settled here;
        owner = λ m out. later-owner owners i m (h.owner m out);
      }

  -- the first pin of its mark
  pub owned-new : (owners : List ℕ) (i : ℕ) → Owned ch ms owners i → 0 < net_at i → mark_at i < length owners
      → get_or owners (mark_at i) 0 ≡ 0 → Owned ch ms (set owners (mark_at i) (net_at i)) (i + 1)
  owned-new owners i h pin room free =
      record {
        settled = next_place (λ q. 0 < net_at q → get_or new (mark_at q) 0 ≡ net_at q) i earlier (λ p. here);
        owner = λ m out. owner' m out (equal? m (mark_at i));
      }
    where
      new : List ℕ
      new = set owners (mark_at i) (net_at i)

      here : get_or new (mark_at i) 0 ≡ net_at i
      here = get_or-set_same owners (mark_at i) (net_at i) 0 room

      apart : (q : ℕ) → q < i → 0 < net_at q → mark_at q ≡ mark_at i → ⊥
      apart q l p e =
          let s = h.settled q l p in let z : net_at q ≡ 0 = sym s ∙ ap (λ (m : ℕ). get_or owners m 0) e ∙ free in
          omega arith

      earlier : (q : ℕ) → q < i → 0 < net_at q → get_or new (mark_at q) 0 ≡ net_at q
      earlier q l p = get_or-set_other owners (mark_at i) (mark_at q) (net_at i) 0 (apart q l p) ∙ h.settled q l p

      owner' : (m : ℕ) → (get_or new m 0 ≡ 0 → ⊥) → (m ≡ mark_at i) ⊎ (m ≡ mark_at i → ⊥) → Owner ch ms new (i + 1) m
      owner' m out =
          ⊎_elim (λ e. record {
            place = i;
            before = omega arith;
            is_pin = pin;
            mark = sym e;
            net = ap (λ (k : ℕ). get_or new k 0) e ∙ here;
          })
          (λ n. let same = get_or-set_other owners (mark_at i) m (net_at i) 0 n in
          let o = h.owner m (λ z. out (same ∙ z)) in let b = o.before in
          record { place = o.place; before = omega arith; is_pin = o.is_pin; mark = o.mark; net = same ∙ o.net })

  owned-apart : (owners : List ℕ) (i : ℕ) → Owned ch ms owners i → (k : ℕ) → k < i → ShortAt k → ⊥
  owned-apart owners i h k l s =
      let b = s.before in
      s.other (sym (h.settled s.earlier (omega arith) s.earlier_is_pin)
      ∙ ap (λ (m : ℕ). get_or owners m 0) s.same ∙ h.settled k l s.is_pin)

  -- the pin at place i is of another net than its mark's owner
  pub short-found : (owners : List ℕ) (i : ℕ) → Owned ch ms owners i → i < places → 0 < net_at i
      → (get_or owners (mark_at i) 0 ≡ 0 → ⊥) → (get_or owners (mark_at i) 0 ≡ net_at i → ⊥) → Some (i + 1) ≡ first_of (shorts ch ms)
  short-found owners i h l pin taken other =
      let o = h.owner (mark_at i) taken in
      let s : ShortAt i = record {
        earlier = o.place;
        before = o.before;
        is_pin = pin;
        earlier_is_pin = o.is_pin;
        other = λ e. other (o.net ∙ e);
        same = o.mark;
      } in
      rw shorts-kept (first-found (λ p. is_pin p && any_of (short_test p) (pins ch)) places ShortAt short→ i l
      (→short i l s) (owned-apart owners i h))

  pub no_short : (owners : List ℕ) → Owned ch ms owners places → None ≡ first_of (shorts ch ms)
  no_short owners h =
      rw shorts-kept (no-first (λ p. is_pin p && any_of (short_test p) (pins ch)) places ShortAt short→
      (owned-apart owners places h))

  -- the mark of the first pin of the net at place i
  abbrev first_mark : ℕ → ℕ
  first_mark i = at ms (first_of_net ch (suc i))

  record OpenAt (i : ℕ) : Type 0 where
    is_pin : 0 < net_at i
    apart : first_mark i ≡ mark_at i → ⊥

  open_test : ℕ → Bool
  open_test p = not (eqb (at ms (first_of_net ch p)) (at ms p))

  opens_kept : opens ch ms ≡ keep (λ p. is_pin p && open_test p) (up_to places)
  unfolding opens pins is_pin open_test
  opens_kept = keep-keep open_test is_pin (up_to places)

  open→ : (i : ℕ) → i < places → T (is_pin (suc i) && open_test (suc i)) → OpenAt i
  unfolding is_pin open_test at
  open→ i l t =
      record {
        is_pin = ltb→lt 0 (net_at i) (and_left (is_pin (suc i)) (open_test (suc i)) t);
        apart =
            λ e. not-fails (eqb (first_mark i) (mark_at i)) (and_right (is_pin (suc i)) (open_test (suc i)) t)
            (subst (λ (n : ℕ). T (eqb (first_mark i) n)) e (eqb_refl (first_mark i)));
      }

  →open : (i : ℕ) → OpenAt i → T (is_pin (suc i) && open_test (suc i))
  unfolding is_pin open_test at
  →open i o =
      and_both (is_pin (suc i)) (open_test (suc i)) (lt→ltb 0 (net_at i) o.is_pin)
      (not-passes (eqb (first_mark i) (mark_at i)) (λ t. o.apart (eqb→eq (first_mark i) (mark_at i) t)))

  -- `firsts` has the mark of the first pin of each net before place i, 0 where there is none, and no pin before is open
  pub record FirstsKnown (firsts : List ℕ) (i : ℕ) : Type 0 where
    pub settled : (q : ℕ) → q < i → 0 < net_at q → get_or firsts (net_at q) 0 ≡ mark_at q
    pub joined : (q : ℕ) → q < i → 0 < net_at q → first_mark q ≡ mark_at q
    pub known : (n : ℕ) → (get_or firsts n 0 ≡ 0 → ⊥) → (q : ℕ) × (q < i) × (net_at q ≡ n)

  pub firsts-none : (firsts : List ℕ) → ((n : ℕ) → get_or firsts n 0 ≡ 0) → FirstsKnown firsts 0
  firsts-none firsts h =
      record {
        settled = λ q l p. absurd (omega arith);
        joined = λ q l p. absurd (omega arith);
        known = λ n out. absurd (out (h n));
      }

  -- two places of one net have one first mark
  same_first : (q i : ℕ) → net_at q ≡ net_at i → first_mark q ≡ first_mark i
  unfolding first_of_net at
  same_first q i e = ap (λ (n : ℕ). at ms (head_or 0 (keep (λ p. eqb (at (positions ch) p) n) (pins ch)))) e

  firsts-apart : (firsts : List ℕ) (i : ℕ) → FirstsKnown firsts i → (k : ℕ) → k < i → OpenAt k → ⊥
  firsts-apart firsts i h k l o = o.apart (h.joined k l o.is_pin)

  -- a pin of a net that was met before
  known-first : (firsts : List ℕ) (i : ℕ) → FirstsKnown firsts i → 0 < net_at i → (get_or firsts (net_at i) 0 ≡ 0 → ⊥)
      → first_mark i ≡ get_or firsts (net_at i) 0
  known-first firsts i h pin met =
      let r = h.known (net_at i) met in
      let e = r.2 in
      sym (same_first r.0 i e) ∙ h.joined r.0 r.1 (omega arith) ∙ sym (h.settled r.0 r.1 (omega arith))
      ∙ ap (λ (n : ℕ). get_or firsts n 0) e

  pub firsts-skip : (firsts : List ℕ) (i : ℕ) → FirstsKnown firsts i → net_at i ≡ 0 → FirstsKnown firsts (i + 1)
  firsts-skip firsts i h none =
      record {
        settled =
            next_place (λ q. 0 < net_at q → get_or firsts (net_at q) 0 ≡ mark_at q) i h.settled
            (λ p. absurd (omega arith));
        joined = next_place (λ q. 0 < net_at q → first_mark q ≡ mark_at q) i h.joined (λ p. absurd (omega arith));
        known = λ n out. let r = h.known n out in let l = r.1 in (r.0, omega arith, r.2);
      }

  pub firsts_same : (firsts : List ℕ) (i : ℕ) → FirstsKnown firsts i → 0 < net_at i → (get_or firsts (net_at i) 0 ≡ 0 → ⊥)
      → get_or firsts (net_at i) 0 ≡ mark_at i → FirstsKnown firsts (i + 1)
  firsts_same firsts i h pin met same =
      record {
        settled = next_place (λ q. 0 < net_at q → get_or firsts (net_at q) 0 ≡ mark_at q) i h.settled (λ p. same);
        joined =
            next_place (λ q. 0 < net_at q → first_mark q ≡ mark_at q) i h.joined
            (λ p. known-first firsts i h pin met ∙ same);
        known = λ n out. let r = h.known n out in let l = r.1 in (r.0, omega arith, r.2);
      }

  pub open-found : (firsts : List ℕ) (i : ℕ) → FirstsKnown firsts i → i < places → 0 < net_at i
      → (get_or firsts (net_at i) 0 ≡ 0 → ⊥) → (get_or firsts (net_at i) 0 ≡ mark_at i → ⊥) → Some (i + 1) ≡ first_of (opens ch ms)
  open-found firsts i h l pin met other =
      let o : OpenAt i = record { is_pin = pin; apart = λ e. other (sym (known-first firsts i h pin met) ∙ e) } in
      rw opens_kept (first-found (λ p. is_pin p && open_test p) places OpenAt open→ i l (→open i o)
      (firsts-apart firsts i h))

  pub no-open : (firsts : List ℕ) → FirstsKnown firsts places → None ≡ first_of (opens ch ms)
  no-open firsts h =
      rw opens_kept (no-first (λ p. is_pin p && open_test p) places OpenAt open→ (firsts-apart firsts places h))

  module _ (esc : Escapes ch) (positive : (q : ℕ) → q < places → 0 < mark_at q) where
    -- the first pin of its net is its own first pin
    own_first : (i : ℕ) → i < places → 0 < net_at i → ((q : ℕ) → q < i → net_at q ≡ net_at i → ⊥) → first_mark i ≡ mark_at i
    unfolding at
    own_first i l pin none = ap (at ms) first
      where
        holder : IsPin ch (pin_at ch (suc i))
        holder = subst (λ (n : ℕ). 0 < n) (position-net ch (suc i)) pin

        low : Lowest (λ q. net_of ch (pin_at ch q) ≡ net_of ch (pin_at ch (suc i))) (first_of_net ch (suc i))
        low = first-of-net ch esc (suc i) holder

        not-before : (p : ℕ) → p ≡ first_of_net ch (suc i) → p < suc i → ⊥
        not-before zero e k =
            let z : at (positions ch) 0 ≡ net_at i = position-net ch 0 ∙ ap (λ (q : ℕ). net_of ch (pin_at ch q)) e
            ∙ low.holds ∙ sym (position-net ch (suc i)) in omega arith
        not-before (suc q) e k =
            none q (omega arith) (position-net ch (suc q) ∙ ap (λ (r : ℕ). net_of ch (pin_at ch r)) e ∙ low.holds
            ∙ sym (position-net ch (suc i)))

        first : first_of_net ch (suc i) ≡ suc i
        first = let below = low.lowest (suc i) refl in let out = not-before (first_of_net ch (suc i)) refl in omega arith

    pub firsts-new : (firsts : List ℕ) (i : ℕ) → FirstsKnown firsts i → i < places → 0 < net_at i
        → net_at i < length firsts → get_or firsts (net_at i) 0 ≡ 0 → FirstsKnown (set firsts (net_at i) (mark_at i)) (i + 1)
    firsts-new firsts i h l pin room free =
        record {
          settled = next_place (λ q. 0 < net_at q → get_or new (net_at q) 0 ≡ mark_at q) i earlier (λ p. here);
          joined =
              next_place (λ q. 0 < net_at q → first_mark q ≡ mark_at q) i h.joined
              (λ p. own_first i l pin (λ q k e. apart q k (omega arith) e));
          known = λ n out. known' n out (equal? n (net_at i));
        }
      where
        new : List ℕ
        new = set firsts (net_at i) (mark_at i)

        here : get_or new (net_at i) 0 ≡ mark_at i
        here = get_or-set_same firsts (net_at i) (mark_at i) 0 room

        apart : (q : ℕ) → q < i → 0 < net_at q → net_at q ≡ net_at i → ⊥
        apart q k p e =
            let s = h.settled q k p in let z : mark_at q ≡ 0 = sym s ∙ ap (λ (n : ℕ). get_or firsts n 0) e ∙ free in
            let m = positive q (omega arith) in omega arith

        earlier : (q : ℕ) → q < i → 0 < net_at q → get_or new (net_at q) 0 ≡ mark_at q
        earlier q k p = get_or-set_other firsts (net_at i) (net_at q) (mark_at i) 0 (apart q k p) ∙ h.settled q k p

        known' : (n : ℕ) → (get_or new n 0 ≡ 0 → ⊥) → (n ≡ net_at i) ⊎ (n ≡ net_at i → ⊥)
            → (q : ℕ) × (q < i + 1) × (net_at q ≡ n)
        known' n out =
            ⊎_elim (λ e. (i, omega arith, sym e)) (λ d. let r =
            h.known n (λ z. out (get_or-set_other firsts (net_at i) n (mark_at i) 0 d ∙ z)) in let k = r.1 in
            (r.0, omega arith, r.2))

  -- no pin has the mark of the piece at place j, from 0
  abbrev pub FloatingAt : ℕ → Type 0
  FloatingAt j = (q : ℕ) → q < places → 0 < net_at q → mark_at q ≡ mark_at (places + j) → ⊥

  module _ (l : Layout) where
    float_test : ℕ → Bool
    float_test i = not (any_of (λ q. eqb (at ms q) (at ms (places + i))) (pins ch))

    piece-mark : (j : ℕ) → at ms (places + suc j) ≡ mark_at (places + j)
    unfolding at
    piece-mark j = ap (at ms) (let e : places + suc j ≡ suc (places + j) = omega arith in e)

    float→ : (j : ℕ) → j < length l.pieces → T (float_test (suc j)) → FloatingAt j
    unfolding float_test pins is_pin at
    float→ j k t q b pin e =
        not-fails (any_of (λ p. eqb (at ms p) (at ms (places + suc j))) (pins ch)) t
        (member→any (λ p. eqb (at ms p) (at ms (places + suc j)))
        (kept is_pin (in-up_to places (suc q) (omega arith) (omega arith)) (lt→ltb 0 (net_at q) pin))
        (subst (λ (n : ℕ). T (eqb (mark_at q) n)) (e ∙ sym (piece-mark j)) (eqb_refl (mark_at q))))

    →float : (j : ℕ) → FloatingAt j → T (float_test (suc j))
    unfolding float_test pins is_pin at
    →float j f =
        not-passes (any_of (λ p. eqb (at ms p) (at ms (places + suc j))) (pins ch))
        (λ t. let r = any→member (λ p. eqb (at ms p) (at ms (places + suc j))) (pins ch) t in go r.0 r.1 r.2)
      where
        go : (p : ℕ) → Memᴰ p (pins ch) → T (eqb (at ms p) (at ms (places + suc j))) → ⊥
        go zero m t = let b = up_to-member places (keep-member is_pin (up_to places) m).0 in omega arith
        go (suc q) m t =
            let r = keep-member is_pin (up_to places) m in
            let b = up_to-member places r.0 in
            f q (omega arith) (ltb→lt 0 (net_at q) r.1) (eqb→eq (mark_at q) (at ms (places + suc j)) t ∙ piece-mark j)

    pub floating-found : (j : ℕ) → j < length l.pieces → FloatingAt j → ((k : ℕ) → k < j → FloatingAt k → ⊥)
        → Some (j + 1) ≡ first_of (floating ch l ms)
    unfolding floating float_test
    floating-found j k f before = first-found float_test (length l.pieces) FloatingAt float→ j k (→float j f) before

    pub no-floating : ((k : ℕ) → k < length l.pieces → FloatingAt k → ⊥) → None ≡ first_of (floating ch l ms)
    unfolding floating float_test
    no-floating before = no-first float_test (length l.pieces) FloatingAt float→ before

  -- a mark without an owner is no pin's, and one with an owner is
  pub unowned-floating : (owners : List ℕ) (j : ℕ) → Owned ch ms owners places → get_or owners (mark_at (places + j)) 0 ≡ 0
      → FloatingAt j
  unowned-floating owners j h free q l pin e =
      let s = h.settled q l pin in let z : net_at q ≡ 0 = sym s ∙ ap (λ (m : ℕ). get_or owners m 0) e ∙ free in
      omega arith

  pub owned-joined : (owners : List ℕ) (j : ℕ) → Owned ch ms owners places → (get_or owners (mark_at (places + j)) 0 ≡ 0 → ⊥)
      → FloatingAt j → ⊥
  owned-joined owners j h taken f =
      let o = h.owner (mark_at (places + j)) taken in f o.place o.before o.is_pin o.mark
