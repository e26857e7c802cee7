-- Which nets have spans. A net has more than one pin, so one that shares a column with another has a pin in another
-- column.
use Rattle.std.specs.Prelude.{ℕ, ◌+◌, ◌-◌, ◌≤◌, ◌<◌, ◌≡◌, ◌⊎◌, length, T}
use Rattle.std.proofs.Common.{arith, sym, ◌∙◌, subst, inl, inr, ⊎_elim, ltb→lt, lt→ltb}
use Rattle.std.proofs.Math.Decide.{dec_lt}
use mathlib.Core.List.Memᴰ
use mathlib.Core.List.{Memᴰ}
use Rattle.lists.specs.Lists.{up_to, at, Distinct}
use Rattle.lists.specs.Tests.{equal?}
use Rattle.lists.specs.Members.{keep-member, kept, up_to-member, in-up_to}
use Rattle.lists.specs.Ends.{elsewhere, at-inside, Rising, from-rising, keep-rising, rising-distinct}
use Rattle.lists.specs.Pigeonhole.{length-keep}
use Rattle.lists.specs.Eaches.{few-kept}
use Rattle.channel.specs.Channel.{Channel, width, positions, highest_net, pin_count, is_net, first_column}
use Rattle.channel.specs.Channel.{last_column, nets, has_span, spanning}
use Rattle.channel.specs.Density.{Span, spans_of}
use Rattle.channel.specs.Constraints.{Above}
use Rattle.channel.specs.Answers.{Escapes}
use Rattle.channel.specs.Nets.{PinIn, IsNet}
use Rattle.channel.proofs.Laws.{net-positive, net-counted, PinAmong, Standing, on-top, on-bot, standing}
use Rattle.channel.proofs.Laws.{top-holds, bot-holds, pin-after-first, pin-before-last}

pub nets→ : (ch : Channel) (n : ℕ) → Memᴰ n (nets ch) → IsNet ch n
unfolding nets
nets→ ch n m =
    let k = keep-member (is_net ch) (up_to highest_net) m in
    let r = up_to-member highest_net k.0 in
    record { is_net = k.1; positive = r.0; low = r.1 }

pub →nets : (ch : Channel) (n : ℕ) → IsNet ch n → Memᴰ n (nets ch)
unfolding nets
→nets ch n h = kept (is_net ch) (in-up_to highest_net n h.positive h.low) h.is_net

pub nets-rising : (ch : Channel) → Rising (nets ch)
unfolding nets
nets-rising ch = keep-rising (is_net ch) (up_to highest_net) (from-rising 1 highest_net)

-- the first column of a span is before its last
pub span-strict : (ch : Channel) (n : ℕ) → T (has_span ch n) → first_column ch n < last_column ch n
unfolding has_span
span-strict ch n t = ltb→lt (first_column ch n) (last_column ch n) t

-- the nets with spans
pub spanning→ : (ch : Channel) (n : ℕ) → Memᴰ n (spanning ch)
    → IsNet ch n × T (has_span ch n) × (first_column ch n ≤ last_column ch n)
unfolding spanning
spanning→ ch n m =
    let k = keep-member (has_span ch) (nets ch) m in
    let s = span-strict ch n k.1 in
    (nets→ ch n k.0, k.1, omega arith)

pub →spanning : (ch : Channel) (n : ℕ) → IsNet ch n → first_column ch n < last_column ch n → Memᴰ n (spanning ch)
unfolding spanning has_span
→spanning ch n h s = kept (has_span ch) (→nets ch n h) (lt→ltb (first_column ch n) (last_column ch n) s)

pub spanning-rising : (ch : Channel) → Rising (spanning ch)
unfolding spanning
spanning-rising ch = keep-rising (has_span ch) (nets ch) (nets-rising ch)

-- they are different, have numbers of 1 to 511, and so are no more than 511
pub spanning-small : (ch : Channel) → Distinct (spanning ch) × ((n : ℕ) → Memᴰ n (spanning ch) → n < 512)
    × (length (spanning ch) ≤ highest_net)
unfolding spanning nets
spanning-small ch =
    let few = length-keep (has_span ch) (nets ch) in
    let all = few-kept (is_net ch) highest_net in (
      rising-distinct (spanning ch) (spanning-rising ch),
      λ n m. let l = (spanning→ ch n m).0.low in omega arith,
      omega arith,
    )

-- a span begins before it ends: a straight net has none
pub spans-rise : (ch : Channel) (s : Span) → Memᴰ s (spans_of ch) → s.first < s.last
unfolding spans_of
spans-rise ch s m =
    let r = Memᴰ.of_map (λ n. record { first = first_column ch n; last = last_column ch n }) (spanning ch) m in
    subst (λ (e : Span). e.first < e.last) r.2 (span-strict ch r.0 (spanning→ ch r.0 r.1).1)

module _ (ch : Channel) (esc : Escapes ch) where
  -- a net's number is at most 511
  pub pin→net : (n c : ℕ) → PinIn ch n c → IsNet ch n
  pin→net n c p =
      record {
        is_net = p.net;
        positive = net-positive ch n p.net;
        low =
            ⊎_elim (λ e. let b = (esc.low c).0 in omega arith) (λ e. let b = (esc.low c).1 in omega arith) p.pin;
      }

  -- the net has a pin in another column
  abbrev pub InAnother : ℕ → ℕ → Type 0
  InAnother n c = (e : ℕ) × PinIn ch n e × (e ≡ c → ⊥)

  second : (n i : ℕ) → T (is_net ch n) → PinAmong ch n i → (j : ℕ) × (j ≡ i → ⊥) × Standing ch n j
  unfolding pin_count
  second n i net p =
      let many = net-counted ch n net in
      let r = elsewhere n (positions ch) i p.in_row p.holds (λ e. omega arith) in
      (r.place, r.other, standing ch n r.place esc.even (record { in_row = r.in_row; holds = r.same }))

  -- a net with a TOP pin in a column has a pin in another column, or the BOT pin of that column; and so from BOT
  pub beside-top : (n c : ℕ) → T (is_net ch n) → 1 ≤ c → c ≤ width ch → at ch.top c ≡ n
      → InAnother n c ⊎ (at ch.bot c ≡ n)
  beside-top n c net h₁ h₂ e = let r = second n (c - 1) net (top-holds ch n c h₁ h₂ e) in go r.0 r.1 r.2
    where
      go : (j : ℕ) → (j ≡ c - 1 → ⊥) → Standing ch n j → InAnother n c ⊎ (at ch.bot c ≡ n)
      go j o (on-top d k₁ k₂ q t) = inl (d, record { net = net; first = k₁; last = k₂; pin = inl t }, omega arith)
      go j o (on-bot d k₁ k₂ q t) =
          ⊎_elim (λ s. inr (subst (λ (k : ℕ). at ch.bot k ≡ n) s t))
          (λ s. inl (d, record { net = net; first = k₁; last = k₂; pin = inr t }, s)) (equal? d c)

  pub beside-bot : (n c : ℕ) → T (is_net ch n) → 1 ≤ c → c ≤ width ch → at ch.bot c ≡ n
      → InAnother n c ⊎ (at ch.top c ≡ n)
  beside-bot n c net h₁ h₂ e =
      let r = second n (width ch + (c - 1)) net (bot-holds ch n c esc.even h₁ h₂ e) in go r.0 r.1 r.2
    where
      go : (j : ℕ) → (j ≡ width ch + (c - 1) → ⊥) → Standing ch n j → InAnother n c ⊎ (at ch.top c ≡ n)
      go j o (on-bot d k₁ k₂ q t) = inl (d, record { net = net; first = k₁; last = k₂; pin = inr t }, omega arith)
      go j o (on-top d k₁ k₂ q t) =
          ⊎_elim (λ s. inr (subst (λ (k : ℕ). at ch.top k ≡ n) s t))
          (λ s. inl (d, record { net = net; first = k₁; last = k₂; pin = inl t }, s)) (equal? d c)

  another→span : (n c : ℕ) → PinIn ch n c → InAnother n c → Memᴰ n (spanning ch)
  another→span n c p a =
      let f₁ = pin-after-first ch n c p in
      let l₁ = pin-before-last ch n c p in
      let f₂ = pin-after-first ch n a.0 a.1 in
      let l₂ = pin-before-last ch n a.0 a.1 in
      let apart = a.2 in
      →spanning ch n (pin→net n c p) (omega (arith, apart))

  -- the column in which one net is above another
  pub above-column : {a b c : ℕ} → Above ch a b c → (1 ≤ c) × (c ≤ width ch)
  above-column {a} {b} {c} h =
      at-inside ch.top c (subst (λ (k : ℕ). 0 < k) (sym h.on_top) (net-positive ch a h.upper))

  pub upper-pin : {a b c : ℕ} → Above ch a b c → PinIn ch a c
  upper-pin h =
      let r = above-column h in record { net = h.upper; first = r.0; last = r.1; pin = inl h.on_top }

  pub lower-pin : {a b c : ℕ} → Above ch a b c → PinIn ch b c
  lower-pin h =
      let r = above-column h in record { net = h.lower; first = r.0; last = r.1; pin = inr h.on_bot }

  -- both of them have spans
  pub upper-another : {a b c : ℕ} → Above ch a b c → InAnother a c
  upper-another {a} {b} {c} h =
      let r = above-column h in
      ⊎_elim (λ k. k) (λ e. absurd (h.different (sym e ∙ h.on_bot)))
      (beside-top a c h.upper r.0 r.1 h.on_top)

  pub lower-another : {a b c : ℕ} → Above ch a b c → InAnother b c
  lower-another {a} {b} {c} h =
      let r = above-column h in
      ⊎_elim (λ k. k) (λ e. absurd (h.different (sym h.on_top ∙ e)))
      (beside-bot b c h.lower r.0 r.1 h.on_bot)

  pub upper-spans : {a b c : ℕ} → Above ch a b c → Memᴰ a (spanning ch)
  upper-spans {a} {b} {c} h = another→span a c (upper-pin h) (upper-another h)

  pub lower-spans : {a b c : ℕ} → Above ch a b c → Memᴰ b (spanning ch)
  lower-spans {a} {b} {c} h = another→span b c (lower-pin h) (lower-another h)

  -- a net that is straight has both pins of its one column
  pub straight-both : (n c : ℕ) → PinIn ch n c → (first_column ch n < last_column ch n → ⊥)
      → (c ≡ first_column ch n) × (at ch.top c ≡ n) × (at ch.bot c ≡ n)
  straight-both n c p s =
      let f = pin-after-first ch n c p in
      let l = pin-before-last ch n c p in
      let alone : InAnother n c → ⊥ = λ a. s (span-strict ch n (spanning→ ch n (another→span n c p a)).1) in
      let here : c ≡ first_column ch n = let z : last_column ch n ≤ first_column ch n =
      elim (dec_lt (first_column ch n) (last_column ch n)) [ yes k ↦ absurd (s k) | no k ↦ omega arith ] in omega arith in
      ⊎_elim (λ e. (here, e, ⊎_elim (λ a. absurd (alone a)) (λ b. b) (beside-top n c p.net p.first p.last e)))
      (λ e. (here, ⊎_elim (λ a. absurd (alone a)) (λ b. b) (beside-bot n c p.net p.first p.last e), e))
      p.pin
