-- Whether some pin is parked, by counts: a number of the rows but 0 that is counted just once is. Rows without parked
-- pins show nets only.
use Prim.Native.Nat.{ℕ, zero, suc, ◌≤◌, ◌<◌}
use Rattle.std.proofs.Common.{arith, sym, ◌∙◌, ap, subst, eqb→eq}
use Rattle.std.specs.Prelude.{◌≡◌, refl, true, false, ◌||◌, length, get_or, set}
use mathlib.Core.List.Memᴰ
use mathlib.Core.List.{List, [], ◌∷◌, Memᴰ}
use Rattle.std.proofs.Math.Logic.{⊎_elim}
use Rattle.std.proofs.Math.Seq.{get_or-set_other}
use Rattle.std.proofs.Math.Dec.{T}
use borrow.Author.Tests.{lt-ltb}
use Rattle.lists.specs.Lists.{any_of}
use Rattle.lists.specs.Tests.{same_test, eq→T, T→true, fails→false, false→fails, passes?, or_cases, or_left}
use Rattle.lists.specs.Tests.{or_right}
use Rattle.lists.specs.Members.{any→member, member→any}
use Rattle.lists.specs.Ends.{at-inside, get_or-member, member-at}
use Rattle.channel.specs.Channel.{Channel, highest_net, positions, is_parked, is_net}
use Rattle.channel.specs.Answers.{Escapes}
use Rattle.channel.specs.Rows.{once}
use Rattle.channel.specs.Parked.{has_parked, NetsOnly}
use Rattle.channel.proofs.Laws.{PinAmong, top-holds, bot-holds}
use Rattle.channel.proofs.ParkedLaws.{pin-parked}
use Rattle.channel.specs.RowLaws.{pins-counted}
use Rattle.channel.proofs.EscapeLaws.{top-low, bot-low}
use Rattle.channel.proofs.RemoveLaws.{top_within, bot-within, counted, low-member}

-- a turn finds a number that is counted once, or no turn does
module _ (counts row : List ℕ) where
  pub once-at : (i : ℕ) → i < length row → get_or counts (get_or row i 0) 0 ≡ 1 → true ≡ any_of (once counts) row
  once-at i h e =
      sym (T→true _ (member→any (once counts) (get_or-member row i h) (eq→T (get_or counts (get_or row i 0) 0) 1 e)))

  pub none-once : (i : ℕ) → length row ≤ i → ((k : ℕ) → k < i → get_or counts (get_or row k 0) 0 ≡ 1 → ⊥)
      → false ≡ any_of (once counts) row
  none-once i h none =
      sym (fails→false _ (λ t. let r = any→member (once counts) row t in let p = member-at r.1 in
      let n = eqb→eq (get_or counts r.0 0) 1 r.2 in
      none p.0 (omega (arith, p.1)) (ap (λ (k : ℕ). get_or counts k 0) p.2 ∙ n)))

zero-cleared : (counts : List ℕ) → get_or (set counts 0 0) 0 0 ≡ 0
zero-cleared [] = refl
zero-cleared (x ∷ xs) = refl

module _ (ch : Channel) (esc : Escapes ch) where
  -- the counts, with none for 0, which is no pin's
  abbrev pub pins : List ℕ
  pins = set (counted ch esc) 0 0

  once-parked : (n : ℕ) → n ≤ highest_net → once pins n ≡ is_parked ch n
  unfolding is_parked
  once-parked zero low = rw (zero-cleared (counted ch esc))
  once-parked (suc n) low =
      rw (
        get_or-set_other (counted ch esc) 0 (suc n) 0 0 (λ e. omega arith),
        lt-ltb 0 (suc n) (omega arith),
        pins-counted ch (top_within ch esc) (bot-within ch esc) (suc n) (omega arith),
      )

  pub parked-told : any_of (once pins) ch.top || any_of (once pins) ch.bot ≡ has_parked ch
  unfolding has_parked
  parked-told =
      same_test _ _
      (λ t. ⊎_elim
      (λ k. let r = any→member (once pins) ch.top k in
      member→any (is_parked ch) (Memᴰ.append_left ch.bot r.1) (subst T (alike-top r.1) r.2))
      (λ k. let r = any→member (once pins) ch.bot k in
      member→any (is_parked ch) (Memᴰ.append_right ch.top r.1) (subst T (alike-bot r.1) r.2))
      (or_cases (any_of (once pins) ch.top) (any_of (once pins) ch.bot) t))
      (λ t. let r = any→member (is_parked ch) (positions ch) t in ⊎_elim
      (λ m. or_left (any_of (once pins) ch.top) _ (member→any (once pins) m (subst T (sym (alike-top m)) r.2)))
      (λ m. or_right (any_of (once pins) ch.top) _ (member→any (once pins) m (subst T (sym (alike-bot m)) r.2)))
      (Memᴰ.append_cases ch.top r.1))
    where
      alike-top : {n : ℕ} → Memᴰ n ch.top → once pins n ≡ is_parked ch n
      alike-top {n} m = once-parked n (low-member ch esc ch.top (λ k. top-low ch k esc) m)

      alike-bot : {n : ℕ} → Memᴰ n ch.bot → once pins n ≡ is_parked ch n
      alike-bot {n} m = once-parked n (low-member ch esc ch.bot (λ k. bot-low ch k esc) m)

  pub none-parked : has_parked ch ≡ false → NetsOnly ch
  unfolding has_parked
  none-parked none =
      record {
        escapes = esc;
        on_top = λ c h. let r = at-inside ch.top c h in net h (top-holds ch _ c r.0 r.1 refl);
        on_bot = λ c h. let r = at-inside ch.bot c h in let e = esc.even in
            net h (bot-holds ch _ c esc.even r.0 (omega arith) refl);
      }
    where
      net : {n i : ℕ} → 0 < n → PinAmong ch n i → T (is_net ch n)
      net {n} {i} h p =
          ⊎_elim (λ t. t)
          (λ f. absurd (false→fails (has_parked ch) none (member→any (is_parked ch)
          (Memᴰ.cast (sym p.holds) (get_or-member (positions ch) i p.in_row)) (pin-parked ch n i h p f))))
          (passes? (is_net ch n))
