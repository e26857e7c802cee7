-- What the definitions of a channel say of its nets: where their pins stand, which of them have spans, and that a net
-- above or below another has one.
use Rattle.std.specs.Prelude.{ℕ, zero, suc, ◌+◌, ◌-◌, ◌≤◌, ◌<◌, ◌≡◌, refl, ◌&&◌, not, length, get_or, T, ltb, eqb}
use Rattle.std.proofs.Common.{arith, sym, ◌∙◌, ap, subst, inl, inr, ⊎_elim, length-append, get_or-append-add, ltb→lt, lt→ltb, eqb→eq}
use Rattle.std.proofs.Math.Decide.{dec_lt}
use mathlib.Core.List.{List, [], ◌∷◌, map, Memᴰ}
use Rattle.std.proofs.Math.ListN.{get_or-append}
use Rattle.lists.specs.Lists.{keep, up_to, head_or, last_or, at}
use Rattle.lists.specs.Tests.{eq→T, and_left, and_right, and_both, or_cases, or_left, or_right, not-passes, not-fails}
use Rattle.lists.specs.Members.{keep-member, kept, up_to-member, in-up_to}
use Rattle.lists.specs.Ends.{head-member, last-member, Rising, from-rising, keep-rising, head-least, last-greatest}
use Rattle.lists.specs.Ends.{ends-within, at_suc, at-inside, member-at}
use Rattle.channel.specs.Channel.{Channel, width, positions, pin_count, is_net, stands, has_pin}
use Rattle.channel.specs.Channel.{pin_columns, first_column, last_column}
use Rattle.channel.specs.Constraints.{Above, above, Drop, drops}
use Rattle.channel.specs.Nets.{PinIn}

-- `is_net` says that the number is not 0 and has more than one pin
pub net-positive : (ch : Channel) (n : ℕ) → T (is_net ch n) → 0 < n
unfolding is_net
net-positive ch n h = ltb→lt 0 n (and_left (ltb 0 n) (ltb 1 (pin_count ch n)) h)

pub net-counted : (ch : Channel) (n : ℕ) → T (is_net ch n) → 1 < pin_count ch n
unfolding is_net
net-counted ch n h = ltb→lt 1 (pin_count ch n) (and_right (ltb 0 n) (ltb 1 (pin_count ch n)) h)

pub counted-net : (ch : Channel) (n : ℕ) → 0 < n → 1 < pin_count ch n → T (is_net ch n)
unfolding is_net
counted-net ch n h k =
    and_both (ltb 0 n) (ltb 1 (pin_count ch n)) (lt→ltb 0 n h) (lt→ltb 1 (pin_count ch n) k)

-- `above` is `Above`
pub above→ : (ch : Channel) (a b c : ℕ) → T (above ch a b c) → Above ch a b c
unfolding above
above→ ch a b c h =
    let rest₁ = and_right (eqb (at ch.top c) a)
    (eqb (at ch.bot c) b && (is_net ch a && (is_net ch b && not (eqb a b)))) h in
    let rest₂ = and_right (eqb (at ch.bot c) b) (is_net ch a && (is_net ch b && not (eqb a b))) rest₁ in
    let rest₃ = and_right (is_net ch a) (is_net ch b && not (eqb a b)) rest₂ in
    record {
      on_top = eqb→eq (at ch.top c) a (and_left (eqb (at ch.top c) a) _ h);
      on_bot = eqb→eq (at ch.bot c) b (and_left (eqb (at ch.bot c) b) _ rest₁);
      upper = and_left (is_net ch a) _ rest₂;
      lower = and_left (is_net ch b) _ rest₃;
      different = λ e. not-fails (eqb a b) (and_right (is_net ch b) (not (eqb a b)) rest₃) (eq→T a b e);
    }

pub →above : (ch : Channel) (a b c : ℕ) → Above ch a b c → T (above ch a b c)
unfolding above
→above ch a b c h =
    and_both (eqb (at ch.top c) a) (eqb (at ch.bot c) b && (is_net ch a && (is_net ch b && not (eqb a b))))
    (eq→T _ _ h.on_top)
    (and_both (eqb (at ch.bot c) b) (is_net ch a && (is_net ch b && not (eqb a b))) (eq→T _ _ h.on_bot)
    (and_both (is_net ch a) (is_net ch b && not (eqb a b)) h.upper
    (and_both (is_net ch b) (not (eqb a b)) h.lower (not-passes (eqb a b) (λ t. h.different (eqb→eq a b t))))))

-- the drops of a net are the steps down from it
pub drop→above : (ch : Channel) (n : ℕ) (d : Drop) → Memᴰ d (drops ch n) → Above ch n d.lower d.column
unfolding drops
drop→above ch n d m =
    let r = mathlib.Core.List.Memᴰ.of_map (λ c. record { column = c; lower = at ch.bot c })
    (keep (λ c. above ch n (at ch.bot c) c) (up_to (width ch))) m in
    let k = keep-member (λ c. above ch n (at ch.bot c) c) (up_to (width ch)) r.1 in
    subst (λ (e : Drop). Above ch n e.lower e.column) r.2 (above→ ch n (at ch.bot r.0) r.0 k.1)

pub above→drop : (ch : Channel) (a b c : ℕ) → Above ch a b c → Memᴰ (record { column = c; lower = b }) (drops ch a)
unfolding drops
above→drop ch a b c h =
    let inside = at-inside ch.top c (subst (λ (k : ℕ). 0 < k) (sym h.on_top) (net-positive ch a h.upper)) in
    let passes : T (above ch a (at ch.bot c) c) =
    subst (λ (k : ℕ). T (above ch a k c)) (sym h.on_bot) (→above ch a b c h) in
    subst (λ (k : ℕ). Memᴰ {A = Drop} (record { column = c; lower = k })
    (map (λ e. record { column = e; lower = at ch.bot e })
    (keep (λ e. above ch a (at ch.bot e) e) (up_to (width ch))))) h.on_bot
    (mathlib.Core.List.Memᴰ.map (λ e. record { column = e; lower = at ch.bot e })
    (kept (λ e. above ch a (at ch.bot e) e) (in-up_to (width ch) c inside.0 inside.1) passes))

pub pin-column : (ch : Channel) (n c : ℕ) → Memᴰ c (pin_columns ch n) → PinIn ch n c
unfolding pin_columns
pin-column ch n c m =
    let k = keep-member (has_pin ch n) (up_to (width ch)) m in
    let r = up_to-member (width ch) k.0 in
    record {
      net = and_left (is_net ch n) (stands ch n c) k.1;
      first = r.0;
      last = r.1;
      pin = ⊎_elim (λ t. inl (eqb→eq (at ch.top c) n t)) (λ t. inr (eqb→eq (at ch.bot c) n t))
          (or_cases (eqb (at ch.top c) n) (eqb (at ch.bot c) n) (and_right (is_net ch n) (stands ch n c) k.1));
    }

pub in-pin-columns : (ch : Channel) (n c : ℕ) → PinIn ch n c → Memᴰ c (pin_columns ch n)
unfolding pin_columns
in-pin-columns ch n c p =
    kept (has_pin ch n) (in-up_to (width ch) c p.first p.last)
    (and_both (is_net ch n) (stands ch n c) p.net
    (⊎_elim (λ e. or_left (eqb (at ch.top c) n) (eqb (at ch.bot c) n) (eq→T _ _ e))
    (λ e. or_right (eqb (at ch.top c) n) (eqb (at ch.bot c) n) (eq→T _ _ e)) p.pin))

-- the pin columns of a net lie between its first and its last, which are pin columns themselves
pub columns-rising : (ch : Channel) (n : ℕ) → Rising (pin_columns ch n)
unfolding pin_columns
columns-rising ch n =
    keep-rising (has_pin ch n) (up_to (width ch)) (from-rising 1 (width ch))

pub pin-after-first : (ch : Channel) (n c : ℕ) → PinIn ch n c → first_column ch n ≤ c
unfolding first_column
pin-after-first ch n c p = head-least (pin_columns ch n) 0 (columns-rising ch n) (in-pin-columns ch n c p)

pub pin-before-last : (ch : Channel) (n c : ℕ) → PinIn ch n c → c ≤ last_column ch n
unfolding last_column
pin-before-last ch n c p = last-greatest (pin_columns ch n) 0 (columns-rising ch n) (in-pin-columns ch n c p)

pub pin-in-first : (ch : Channel) (n c : ℕ) → PinIn ch n c → PinIn ch n (first_column ch n)
unfolding first_column
pin-in-first ch n c p = pin-column ch n (head_or 0 (pin_columns ch n)) (head-member 0 (in-pin-columns ch n c p))

pub pin-in-last : (ch : Channel) (n c : ℕ) → PinIn ch n c → PinIn ch n (last_column ch n)
unfolding last_column
pin-in-last ch n c p = pin-column ch n (last_or 0 (pin_columns ch n)) (last-member 0 (in-pin-columns ch n c p))

-- of any number: one that is no net's has column 0 for both
pub columns-inside : (ch : Channel) (n : ℕ) → (first_column ch n ≤ width ch) × (last_column ch n ≤ width ch)
unfolding first_column last_column
columns-inside ch n = ends-within (width ch) (pin_columns ch n) (λ c m. (pin-column ch n c m).last)

-- a number stands at pin position i, counted from 0
pub record PinAmong (ch : Channel) (n i : ℕ) : Type 0 where
  pub in_row : i < length (positions ch)
  pub holds : get_or (positions ch) i 0 ≡ n

pub top-holds : (ch : Channel) (n c : ℕ) → 1 ≤ c → c ≤ width ch → at ch.top c ≡ n → PinAmong ch n (c - 1)
top-holds ch n zero h₁ h₂ e = absurd (omega arith)
top-holds ch n (suc i) h₁ h₂ e =
    let same : suc i - 1 ≡ i = omega arith in
    rw same (record {
      in_row = rw (length-append ch.top ch.bot) (omega arith);
      holds = get_or-append ch.top ch.bot 0 i (omega arith) ∙ (sym (at_suc ch.top i) ∙ e);
    })

pub bot-holds : (ch : Channel) (n c : ℕ) → length ch.bot ≡ width ch → 1 ≤ c → c ≤ width ch → at ch.bot c ≡ n
    → PinAmong ch n (width ch + (c - 1))
bot-holds ch n zero even h₁ h₂ e = absurd (omega arith)
bot-holds ch n (suc i) even h₁ h₂ e =
    let same : suc i - 1 ≡ i = omega arith in
    rw same (record {
      in_row = rw (length-append ch.top ch.bot) (omega arith);
      holds = get_or-append-add ch.top ch.bot i 0 ∙ (sym (at_suc ch.bot i) ∙ e);
    })

-- a pin position is a column of TOP or of BOT
pub data Standing (ch : Channel) (n i : ℕ) : Type 0 where
  on-top : (c : ℕ) → 1 ≤ c → c ≤ width ch → i + 1 ≡ c → at ch.top c ≡ n → Standing ch n i
  on-bot : (c : ℕ) → 1 ≤ c → c ≤ width ch → i + 1 ≡ width ch + c → at ch.bot c ≡ n → Standing ch n i

pub standing : (ch : Channel) (n i : ℕ) → length ch.bot ≡ width ch → PinAmong ch n i → Standing ch n i
standing ch n i even p = elim (dec_lt i (width ch)) [ yes h ↦ left h | no h ↦ right (omega arith) ]
  where
    inside : i < width ch + length ch.bot
    inside = subst (λ (k : ℕ). i < k) (length-append ch.top ch.bot) p.in_row

    left : i < width ch → Standing ch n i
    left h =
        on-top (suc i) (omega arith) h (omega arith) (at_suc ch.top i
        ∙ (sym (get_or-append ch.top ch.bot 0 i h) ∙ p.holds))

    right : width ch ≤ i → Standing ch n i
    right h =
        let apart : width ch + (i - width ch) ≡ i = omega arith in
        on-bot (suc (i - width ch)) (omega arith) (omega (arith, inside)) (omega arith)
        (at_suc ch.bot (i - width ch) ∙ (sym (get_or-append-add ch.top ch.bot (i - width ch) 0)
        ∙ (ap (λ (k : ℕ). get_or (positions ch) k 0) apart ∙ p.holds)))

standing→in : (ch : Channel) (n i : ℕ) → T (is_net ch n) → Standing ch n i → (c : ℕ) × PinIn ch n c
standing→in ch n i net (on-top c h₁ h₂ q e) = (c, record { net = net; first = h₁; last = h₂; pin = inl e })
standing→in ch n i net (on-bot c h₁ h₂ q e) = (c, record { net = net; first = h₁; last = h₂; pin = inr e })

-- a net has a pin in some column
pub net→pin : (ch : Channel) (n : ℕ) → length ch.bot ≡ width ch → T (is_net ch n) → (c : ℕ) × PinIn ch n c
unfolding pin_count
net→pin ch n even net = go (keep (eqb n) (positions ch)) refl
  where
    go : (ys : List ℕ) → keep (eqb n) (positions ch) ≡ ys → (c : ℕ) × PinIn ch n c
    go [] q =
        absurd (let z : 1 < 0 = subst (λ (l : List ℕ). 1 < length l) q (net-counted ch n net) in omega arith)
    go (y ∷ ys) q =
        let m : Memᴰ y (keep (eqb n) (positions ch)) =
        subst (λ (l : List ℕ). Memᴰ y l) (sym q) (mathlib.Core.List.Memᴰ.head refl) in
        let found = keep-member (eqb n) (positions ch) m in
        let r = member-at found.0 in
        standing→in ch n r.0 net (standing ch n r.0 even
        (record { in_row = r.1; holds = r.2 ∙ sym (eqb→eq n y found.1) }))
