-- What is parked and what is not: a number that stands in the rows is a net's or parked, 0 is neither, and what is no
-- net's has no columns. And rows that show nets only, where every number but 0 names a net.
use Rattle.std.specs.Prelude.{ℕ, ◌≤◌, ◌<◌, ◌≡◌, refl, [], ◌↔◌, length, T, ltb, eqb}
use Rattle.std.proofs.Common.{arith, sym, ◌∙◌, subst, inl, inr, ⊎_elim, lt→ltb, eqb→eq}
use Rattle.std.proofs.Math.Decide.{dec_le}
use Rattle.std.proofs.Math.Path.{ap}
use mathlib.Core.List.Memᴰ
use Rattle.lists.specs.Lists.{up_to, head_or, last_or, at}
use Rattle.lists.specs.Tests.{eq→T, passes?, and_left, and_right, and_both, or_cases}
use Rattle.lists.specs.Ends.{at-inside, get_or-member, member-counted, just-once}
use Rattle.lists.specs.Ranges.{fails→none-kept}
use Rattle.channel.specs.Channel.{Channel, width, positions, pin_count, is_parked, is_net}
use Rattle.channel.specs.Channel.{stands, has_pin, pin_columns, first_column, last_column}
use Rattle.channel.specs.Constraints.{Unconstrained}
use Rattle.channel.specs.Parked.{NetsOnly, ParkedBeside}
use Rattle.channel.proofs.Laws.{net-positive, net-counted, counted-net, PinAmong, top-holds, bot-holds}

-- a parked number is no net's, and a number that stands in the rows is a net's or parked
pub parked-no-net : (ch : Channel) (n : ℕ) → T (is_parked ch n) → T (is_net ch n) → ⊥
unfolding is_parked
parked-no-net ch n p t =
    let one = eqb→eq (pin_count ch n) 1 (and_right (ltb 0 n) (eqb (pin_count ch n) 1) p) in
    let many = net-counted ch n t in
    omega arith

pub pin-parked : (ch : Channel) (n i : ℕ) → 0 < n → PinAmong ch n i → (T (is_net ch n) → ⊥) → T (is_parked ch n)
unfolding is_parked pin_count
pin-parked ch n i h p other =
    let some = member-counted (Memᴰ.cast (sym p.holds) (get_or-member (positions ch) i p.in_row)) in
    let few : pin_count ch n ≤ 1 = elim (dec_le (pin_count ch n) 1) [
      | yes k ↦ k
      | no k ↦ absurd (other (counted-net ch n h (omega arith)))
    ] in
    and_both (ltb 0 n) (eqb (pin_count ch n) 1) (lt→ltb 0 n h) (eq→T (pin_count ch n) 1 (omega arith))

-- it stands in one place
pub one_place : (ch : Channel) (n i j : ℕ) → T (is_parked ch n) → PinAmong ch n i → PinAmong ch n j → i ≡ j
unfolding is_parked pin_count
one_place ch n i j parked p q =
    just-once n (positions ch) i j p.in_row q.in_row p.holds q.holds
    (eqb→eq (pin_count ch n) 1 (and_right (ltb 0 n) (eqb (pin_count ch n) 1) parked))

module _ (ch : Channel) where
  -- SCOPE, Req 04: "Where the owner's promise looks for a column with pins of two different nets, parked pins are not
  -- counted"
  pub uncounted : length ch.bot ≡ width ch → Unconstrained ch ↔ ParkedBeside ch
  uncounted even = (beside, free)
    where
      beside : Unconstrained ch → ParkedBeside ch
      beside unconstrained c upper lower apart =
          let a = at ch.top c in
          let b = at ch.bot c in
          let r = at-inside ch.top c upper in
          let top-pin = top-holds ch a c r.0 r.1 refl in
          let bot-pin = bot-holds ch b c even r.0 r.1 refl in
          ⊎_elim
          (λ s. ⊎_elim (λ t. absurd (unconstrained a b c (record {
            on_top = refl;
            on_bot = refl;
            upper = s;
            lower = t;
            different = apart;
          }))) (λ t. inr (pin-parked ch b _ lower bot-pin t)) (passes? (is_net ch b)))
          (λ s. inl (pin-parked ch a _ upper top-pin s)) (passes? (is_net ch a))

      free : ParkedBeside ch → Unconstrained ch
      free parked a b c h =
          let upper = subst (λ (n : ℕ). 0 < n) (sym h.on_top) (net-positive ch a h.upper) in
          let lower = subst (λ (n : ℕ). 0 < n) (sym h.on_bot) (net-positive ch b h.lower) in
          ⊎_elim (λ t. parked-no-net ch a (subst (λ (n : ℕ). T (is_parked ch n)) h.on_top t) h.upper)
          (λ t. parked-no-net ch b (subst (λ (n : ℕ). T (is_parked ch n)) h.on_bot t) h.lower)
          (parked c upper lower (λ e. h.different (sym h.on_top ∙ (e ∙ h.on_bot))))

-- 0 is no net's number, and what is no net's has no columns
pub zero-no-net : (ch : Channel) → T (is_net ch 0) → ⊥
zero-no-net ch t = let h = net-positive ch 0 t in omega arith

module _ (ch : Channel) (n : ℕ) (other : T (is_net ch n) → ⊥) where
  no-columns : pin_columns ch n ≡ []
  unfolding pin_columns
  no-columns =
      fails→none-kept (has_pin ch n) (up_to (width ch)) (λ c m t. other (and_left (is_net ch n) (stands ch n c) t))

  pub no-first : first_column ch n ≡ 0
  unfolding first_column head_or
  no-first = ap (head_or 0) no-columns

  pub no_last : last_column ch n ≡ 0
  unfolding last_column last_or
  no_last = ap (last_or 0) no-columns

-- a number of rows that show nets only
module _ {ch : Channel} (only : NetsOnly ch) where
  pub top-net : (c n : ℕ) → at ch.top c ≡ n → 0 < n → T (is_net ch n)
  top-net c n e h = subst (λ (k : ℕ). T (is_net ch k)) e (only.on_top c (subst (λ (k : ℕ). 0 < k) (sym e) h))

  pub bot-net : (c n : ℕ) → at ch.bot c ≡ n → 0 < n → T (is_net ch n)
  bot-net c n e h = subst (λ (k : ℕ). T (is_net ch k)) e (only.on_bot c (subst (λ (k : ℕ). 0 < k) (sym e) h))

  pub net-stands : (n c : ℕ) → 0 < n → T (stands ch n c) → T (is_net ch n)
  net-stands n c h t =
      ⊎_elim (λ k. top-net c n (eqb→eq (at ch.top c) n k) h) (λ k. bot-net c n (eqb→eq (at ch.bot c) n k) h)
      (or_cases (eqb (at ch.top c) n) (eqb (at ch.bot c) n) t)
