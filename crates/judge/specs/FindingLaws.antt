-- What each list of places begins with, and what the finding then is.
use Rattle.std.specs.Prelude.{ℕ, ◌+◌, ◌<◌, ◌≡◌, refl, Bool, ◌&&◌, ◌↔◌, T, ltb, eqb}
use Rattle.std.proofs.Common.{arith, sym, ◌∙◌, ap, ltb→lt, lt→ltb, eqb→eq}
use Rattle.std.proofs.Math.Path.{subst}
use mathlib.Core.List.{List, [], ◌∷◌}
use Rattle.std.proofs.Math.Option.{Option, none, some}
use Rattle.std.proofs.Math.Dec.{eqb_refl}
use Rattle.lists.specs.Lists.{keep, from, up_to, at, head_or, Lowest}
use Rattle.lists.specs.Tests.{and_left, and_right, and_both}
use Rattle.lists.specs.Firsts.{Passing, FirstKept, no_one, begins, first-kept}
use Rattle.lists.specs.Places.{keep-keep}
use Rattle.channel.specs.Channel.{Channel, width, positions}
use Rattle.channel.specs.Answers.{Escapes}
use Rattle.wiring.specs.Pins.{net_of, IsPin, pin_at}
use Rattle.judge.specs.declared.Fault.{Fault}
use Rattle.judge.specs.declared.Fault.TheVariants.{Short, Open, Floating}
use Rattle.judge.specs.Finding.{pins, first_of_net, fault_at_first}
use Rattle.judge.specs.PinPlaces.{pin-inside, position-net}

abbrev pub None : (ℕ → Type 0) → Type 0
None P = (k : ℕ) → P k → ⊥

-- the list is empty and P holds of no number, or it begins with the lowest
pub data FirstOf (P : ℕ → Type 0) : List ℕ → Type 0 where
  nowhere : None P → FirstOf P []
  starts : (p : ℕ) {ps : List ℕ} → Lowest P p → FirstOf P (p ∷ ps)

pub lowest-unique : {P : ℕ → Type 0} {p q : ℕ} → Lowest P p → Lowest P q → p ≡ q
lowest-unique {p = p} {q = q} h k = let a = h.lowest q k.holds in let b = k.lowest p h.holds in omega arith

pub kept-first : (f : ℕ → Bool) (a n : ℕ) (P : ℕ → Type 0) → ((k : ℕ) → Passing f a n k → P k)
    → ((k : ℕ) → P k → Passing f a n k) → FirstOf P (keep f (from a n))
kept-first f a n P to back = go (first-kept f a n)
  where
    go : {xs : List ℕ} → FirstKept f a n xs → FirstOf P xs
    go (no_one h) = nowhere (λ k p. h k (back k p))
    go (begins p h) = starts p (record { holds = to p h.holds; lowest = λ q k. h.lowest q (back q k) })

-- the same among the pins
pub pins-first : (ch : Channel) → Escapes ch → (f : ℕ → Bool) (P : ℕ → Type 0)
    → ((k : ℕ) → IsPin ch (pin_at ch k) → T (f k) → P k) → ((k : ℕ) → P k → IsPin ch (pin_at ch k) × T (f k))
    → FirstOf P (keep f (pins ch))
unfolding pins
pins-first ch esc f P to back =
    rw (keep-keep f is_pin (up_to (width ch + width ch)))
    (kept-first (λ p. is_pin p && f p) 1 (width ch + width ch) P there again)
  where
    is_pin : ℕ → Bool
    is_pin p = ltb 0 (at (positions ch) p)

    there : (k : ℕ) → Passing (λ p. is_pin p && f p) 1 (width ch + width ch) k → P k
    there k h =
        to k (subst (λ (n : ℕ). 0 < n) (position-net ch k)
        (ltb→lt 0 (at (positions ch) k) (and_left (is_pin k) (f k) h.passes)))
        (and_right (is_pin k) (f k) h.passes)

    again : (k : ℕ) → P k → Passing (λ p. is_pin p && f p) 1 (width ch + width ch) k
    again k h =
        let r = back k h in
        let inside = pin-inside ch esc k r.0 in
        record {
          low = inside.0;
          high = omega arith;
          passes =
              and_both (is_pin k) (f k) (lt→ltb 0 (at (positions ch) k)
              (subst (λ (n : ℕ). 0 < n) (sym (position-net ch k)) r.0)) r.1;
        }

abbrev pub SameNet : Channel → ℕ → ℕ → Type 0
SameNet ch p q = net_of ch (pin_at ch q) ≡ net_of ch (pin_at ch p)

-- the test of two positions' nets
pub net-test→ : (ch : Channel) (p q : ℕ) → T (eqb (at (positions ch) q) (at (positions ch) p)) → SameNet ch p q
net-test→ ch p q t = sym (position-net ch q) ∙ eqb→eq (at (positions ch) q) (at (positions ch) p) t ∙ position-net ch p

pub →net-test : (ch : Channel) (p q : ℕ) → SameNet ch p q → T (eqb (at (positions ch) q) (at (positions ch) p))
→net-test ch p q e =
    subst (λ (n : ℕ). T (eqb (at (positions ch) q) n)) (position-net ch q ∙ e ∙ sym (position-net ch p))
    (eqb_refl (at (positions ch) q))

-- `first_of_net` is the first pin of the net
pub first-of-net : (ch : Channel) → Escapes ch → (p : ℕ) → IsPin ch (pin_at ch p)
    → Lowest (SameNet ch p) (first_of_net ch p)
unfolding first_of_net head_or
first-of-net ch esc p hp =
    go (pins-first ch esc (λ q. eqb (at (positions ch) q) (at (positions ch) p)) (SameNet ch p)
    (λ q hq t. net-test→ ch p q t) (λ q e. (subst (λ (n : ℕ). 0 < n) (sym e) hp, →net-test ch p q e)))
  where
    go : {qs : List ℕ} → FirstOf (SameNet ch p) qs → Lowest (SameNet ch p) (head_or 0 qs)
    go (nowhere h) = absurd (h p refl)
    go (starts q h) = h

-- a list that is skipped, and one that is taken from
skipped : {P : ℕ → Type 0} {ps : List ℕ} (fault : ℕ → Fault) (next : Option Fault) → FirstOf P ps → None P
    → fault_at_first fault ps next ≡ next
unfolding fault_at_first
skipped fault next (nowhere h) out = refl
skipped fault next (starts p h) out = absurd (out p h.holds)

taken : {P : ℕ → Type 0} {ps : List ℕ} (fault : ℕ → Fault) (next : Option Fault) (p : ℕ) → FirstOf P ps → Lowest P p
    → fault_at_first fault ps next ≡ some (fault p)
unfolding fault_at_first
taken fault next p (nowhere h) k = absurd (h p k.holds)
taken fault next p (starts q h) k = ap (λ (n : ℕ). some (fault n)) (lowest-unique h k)

module _ (S O F : ℕ → Type 0) where
  -- what a finding says, where S, O, F are the places of the three faults
  abbrev pub Says : Option Fault → Type 0
  Says none = None S × None O × None F
  Says (some (Short p)) = Lowest S p
  Says (some (Open p)) = None S × Lowest O p
  Says (some (Floating i)) = None S × None O × Lowest F i

  module _ {ss os fs : List ℕ} (s : FirstOf S ss) (o : FirstOf O os) (f : FirstOf F fs) where
    -- the first fault is the only finding that says what is so
    pub found-says : (w : Option Fault) → (fault_at_first Short ss
        (fault_at_first Open os (fault_at_first Floating fs none)) ≡ w) ↔ Says w
    unfolding fault_at_first
    found-says w = (λ e. subst Says e (says s o f), told w)
      where
        says : {xs ys zs : List ℕ} → FirstOf S xs → FirstOf O ys → FirstOf F zs
            → Says (fault_at_first Short xs (fault_at_first Open ys (fault_at_first Floating zs none)))
        says (starts p h) y z = h
        says (nowhere a) (starts p h) z = (a, h)
        says (nowhere a) (nowhere b) (starts p h) = (a, b, h)
        says (nowhere a) (nowhere b) (nowhere d) = (a, b, d)

        opened : Option Fault
        opened = fault_at_first Open os (fault_at_first Floating fs none)

        loose : Option Fault
        loose = fault_at_first Floating fs none

        told : (w : Option Fault) → Says w → fault_at_first Short ss opened ≡ w
        told none h = skipped Short opened s h.0 ∙ skipped Open loose o h.1 ∙ skipped Floating none f h.2
        told (some (Short p)) h = taken Short opened p s h
        told (some (Open p)) h = skipped Short opened s h.0 ∙ taken Open loose p o h.1
        told (some (Floating i)) h =
            skipped Short opened s h.0 ∙ skipped Open loose o h.1 ∙ taken Floating none i f h.2
