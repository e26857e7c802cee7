-- Pins and their positions: each pin of a channel has one position, and the positions' row holds its net there.
use Rattle.std.specs.Prelude.{ℕ, ◌+◌, ◌-◌, ◌≤◌, ◌<◌, ◌≡◌, refl, Bool, true, false, cond, leb, ltb}
use Rattle.std.proofs.Common.{arith, sym, ◌∙◌, ap, subst, leb→le, le→leb, ltb→lt, lt→ltb}
use mathlib.Core.List.{Memᴰ}
use Rattle.lists.specs.Lists.{at, up_to}
use Rattle.lists.specs.Tests.{T→true, true→T, false→fails, fails→false}
use Rattle.lists.specs.Members.{keep-member, kept, in-up_to}
use Rattle.lists.specs.Places.{at_left, at_right}
use Rattle.lists.specs.Ends.{at-inside}
use Rattle.channel.specs.Channel.{Channel, width, positions}
use Rattle.channel.specs.Answers.{Escapes}
use Rattle.wiring.specs.Pins.{Pin, top, bot, net_of, IsPin, pin_at}
use Rattle.judge.specs.Finding.{pins}

-- the two rows of positions
pub pin_at-top : (ch : Channel) (p : ℕ) → p ≤ width ch → pin_at ch p ≡ top p
unfolding pin_at
pin_at-top ch p h =
    ap (λ (b : Bool). cond b (top p) (bot (p - width ch))) (T→true (leb p (width ch)) (le→leb p (width ch) h))

pub pin_at-bot : (ch : Channel) (c : ℕ) → 0 < c → pin_at ch (width ch + c) ≡ bot c
unfolding pin_at
pin_at-bot ch c h =
    ap (λ (b : Bool). cond b (top (width ch + c)) (bot ((width ch + c) - width ch)))
    (fails→false (leb (width ch + c) (width ch)) (λ t. let k = leb→le (width ch + c) (width ch) t in omega arith))
    ∙ ap bot (omega arith)

-- the position of a pin place
abbrev pub position_of : Channel → Pin → ℕ
position_of ch (top c) = c
position_of ch (bot c) = width ch + c

pub position-pin_at : (ch : Channel) (p : ℕ) → position_of ch (pin_at ch p) ≡ p
unfolding pin_at
position-pin_at ch p = go (leb p (width ch)) refl
  where
    go : (b : Bool) → leb p (width ch) ≡ b → position_of ch (cond b (top p) (bot (p - width ch))) ≡ p
    go true e = refl
    go false e = let above : p ≤ width ch → ⊥ = λ h. false→fails _ e (le→leb p (width ch) h) in omega arith

pub pin_at-position : (ch : Channel) (x : Pin) → IsPin ch x → pin_at ch (position_of ch x) ≡ x
unfolding net_of
pin_at-position ch (top c) h = pin_at-top ch c (at-inside ch.top c h).1
pin_at-position ch (bot c) h = pin_at-bot ch c (at-inside ch.bot c h).0

-- a pin's position is 1 to 2w
pub position-inside : (ch : Channel) → Escapes ch → (x : Pin) → IsPin ch x
    → (1 ≤ position_of ch x) × (position_of ch x ≤ width ch + width ch)
unfolding net_of
position-inside ch esc (top c) h = let r = at-inside ch.top c h in omega arith
position-inside ch esc (bot c) h = let r = at-inside ch.bot c h in let e = esc.even in omega arith

pub pin-inside : (ch : Channel) → Escapes ch → (p : ℕ) → IsPin ch (pin_at ch p) → (1 ≤ p) × (p ≤ width ch + width ch)
pin-inside ch esc p h = let r = position-inside ch esc (pin_at ch p) h in let e = position-pin_at ch p in omega arith

-- the row of positions holds the nets
pub position-net : (ch : Channel) (p : ℕ) → at (positions ch) p ≡ net_of ch (pin_at ch p)
unfolding net_of
position-net ch p = go (leb p (width ch)) refl
  where
    on-top : p ≤ width ch → at (positions ch) p ≡ net_of ch (pin_at ch p)
    on-top h = at_left ch.top ch.bot p h ∙ sym (ap (net_of ch) (pin_at-top ch p h))

    on-bot : (c : ℕ) → 0 < c → p ≡ width ch + c → at (positions ch) p ≡ net_of ch (pin_at ch p)
    on-bot c h e =
        subst (λ (q : ℕ). at (positions ch) q ≡ net_of ch (pin_at ch q)) (sym e)
        (at_right ch.top ch.bot c h ∙ sym (ap (net_of ch) (pin_at-bot ch c h)))

    go : (b : Bool) → leb p (width ch) ≡ b → at (positions ch) p ≡ net_of ch (pin_at ch p)
    go true e = on-top (leb→le p (width ch) (true→T _ e))
    go false e =
        let above : p ≤ width ch → ⊥ = λ h. false→fails _ e (le→leb p (width ch) h) in
        on-bot (p - width ch) (omega arith) (omega arith)

-- `pins` holds the positions of the pins
pub pins-member : (ch : Channel) {p : ℕ} → Memᴰ p (pins ch) → IsPin ch (pin_at ch p)
unfolding pins
pins-member ch {p} m =
    subst (λ (n : ℕ). 0 < n) (position-net ch p) (ltb→lt 0 (at (positions ch) p)
    (keep-member (λ (p : ℕ). ltb 0 (at (positions ch) p)) (up_to (width ch + width ch)) m).1)

pub in-pins : (ch : Channel) → Escapes ch → (p : ℕ) → IsPin ch (pin_at ch p) → Memᴰ p (pins ch)
unfolding pins
in-pins ch esc p h =
    let r = pin-inside ch esc p h in
    kept (λ (p : ℕ). ltb 0 (at (positions ch) p)) (in-up_to (width ch + width ch) p r.0 r.1)
    (lt→ltb 0 (at (positions ch) p) (subst (λ (n : ℕ). 0 < n) (sym (position-net ch p)) h))
