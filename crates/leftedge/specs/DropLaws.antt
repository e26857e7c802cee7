-- Columns kept by net: the lowest in which it is directly above a net that is wanted below it. They are kept from the
-- last column down, so that the column stored last for a net is its lowest.
use Prim.Native.Nat.{ℕ, suc, ◌+◌, ◌-◌, ◌≤◌, ◌<◌}
use Rattle.std.proofs.Common.{add-one, ◌∙◌, eqb→eq}
use native.Mathlib.Omega.{arith}
use Rattle.std.specs.Prelude.{◌≡◌, refl, Bool, true, false, cond, ◌&&◌, not, set, replicate, T, eqb}
use Rattle.std.proofs.Math.Path.{sym, ap}
use mathlib.Core.List.{List, ◌∷◌}
use Rattle.std.proofs.Math.ListN.{get_or}
use Rattle.lists.specs.Lists.{keep, from, head_or, at}
use Rattle.lists.specs.Tests.{true→T, same_test, eq→T, fails→false, false→fails, and_left, and_right, and_both}
use Rattle.lists.specs.Arrays.{numbered-replicate, numbered-same, set-numbered}
use Rattle.items.specs.Steps.{is_step}
use Rattle.channel.specs.Channel.{Channel, width}
use Rattle.channel.specs.Constraints.{Above, above}
use Rattle.channel.proofs.Laws.{above→, →above}
use Rattle.channel.specs.Spans.{each512}
use Rattle.channel.proofs.StepsLaws.{step-above, above_step}
use Rattle.channel.specs.Parked.{NetsOnly}
use Rattle.leftedge.specs.Ring.{over_wanted, lowest_over}

-- the lowest column past i in which net n is above a net that is wanted below it
unfoldable pub lowest_past : Channel → (ℕ → ℕ → Bool) → ℕ → ℕ → ℕ
lowest_past ch wanted i n = head_or 0 (keep (over_wanted ch wanted n) (from (suc i) (width ch - i)))

-- the code's test of a column with TOP pin a and BOT pin b
abbrev pub steps_wanted : (ℕ → ℕ → Bool) → ℕ → ℕ → Bool
steps_wanted wanted a b = ((not (eqb a 0) && not (eqb b 0)) && not (eqb a b)) && wanted a b

module _ (ch : Channel) (wanted : ℕ → ℕ → Bool) where
  -- a net stands in a column directly above one that is wanted
  over→ : (n c : ℕ) → T (over_wanted ch wanted n c)
      → Above ch n (at ch.bot c) c × T (wanted n (at ch.bot c))
  unfolding over_wanted
  over→ n c t =
      let up = above ch n (at ch.bot c) c in
      let it = wanted n (at ch.bot c) in
      (above→ ch n (at ch.bot c) c (and_left up it t), and_right up it t)

  →over : (n b c : ℕ) → Above ch n b c → T (wanted n b) → T (over_wanted ch wanted n c)
  unfolding over_wanted
  →over n b c h t =
      rw h.on_bot (and_both (above ch n b c) (wanted n b) (→above ch n b c h) t)

  -- the pins of column i + 1 tell of which net it is such a column
  over→steps : (i n : ℕ) → T (over_wanted ch wanted n (suc i))
      → T (steps_wanted wanted (get_or ch.top i 0) (get_or ch.bot i 0)) × (n ≡ get_or ch.top i 0)
  unfolding at is_step
  over→steps i n t =
      let r = over→ n (suc i) t in
      let up : get_or ch.top i 0 ≡ n = r.0.on_top in
      let step = above_step ch n (get_or ch.bot i 0) (suc i) r.0 in
      (and_both (is_step ch.top ch.bot (suc i)) _ step (rw up r.1), sym up)

  steps→over : NetsOnly ch → (i n : ℕ) → T (steps_wanted wanted (get_or ch.top i 0) (get_or ch.bot i 0))
      → n ≡ get_or ch.top i 0 → T (over_wanted ch wanted n (suc i))
  unfolding at is_step
  steps→over only i n t e =
      let step = and_left (is_step ch.top ch.bot (suc i)) (wanted (get_or ch.top i 0) _) t in
      rw e (→over _ _ (suc i) (step-above only (suc i) step) (and_right (is_step ch.top ch.bot (suc i)) _ t))

  -- one column further down: it is the lowest of a net that it is such a column of
  past-step : (i n : ℕ) → i < width ch → lowest_past ch wanted i n ≡ cond (over_wanted ch wanted n (suc i)) (suc i)
      (lowest_past ch wanted (suc i) n)
  unfolding lowest_past keep from head_or
  past-step i n h =
      let one : width ch - i ≡ suc (width ch - suc i) = omega arith in
      rw one (go (over_wanted ch wanted n (suc i)))
    where
      rest : List ℕ
      rest = keep (over_wanted ch wanted n) (from (suc (suc i)) (width ch - suc i))

      go : (t : Bool) → head_or 0 (cond t (suc i ∷ rest) rest) ≡ cond t (suc i) (head_or 0 rest)
      go true = refl
      go false = refl

  stored : NetsOnly ch → (i : ℕ) → i < width ch → get_or ch.top i 0 < 512
      → steps_wanted wanted (get_or ch.top i 0) (get_or ch.bot i 0) ≡ true
      → set (each512 (lowest_past ch wanted (suc i))) (get_or ch.top i 0) (suc i) ≡ each512 (lowest_past ch wanted i)
  stored only i h low t =
      set-numbered (lowest_past ch wanted (suc i)) 512 (get_or ch.top i 0) (suc i) low
      ∙ numbered-same _ (lowest_past ch wanted i) 512 (λ n k.
      ap (λ (x : Bool). cond x (suc i) (lowest_past ch wanted (suc i) n)) (sym (test n)) ∙ sym (past-step i n h))
    where
      test : (n : ℕ) → over_wanted ch wanted n (suc i) ≡ eqb n (get_or ch.top i 0)
      test n =
          same_test _ _ (λ u. eq→T n _ (over→steps i n u).1)
          (λ e. steps→over only i n (true→T _ t) (eqb→eq n _ e))

  passed : (i : ℕ) → i < width ch → steps_wanted wanted (get_or ch.top i 0) (get_or ch.bot i 0) ≡ false
      → each512 (lowest_past ch wanted (suc i)) ≡ each512 (lowest_past ch wanted i)
  passed i h t =
      numbered-same (lowest_past ch wanted (suc i)) (lowest_past ch wanted i) 512
      (λ n k. ap (λ (x : Bool). cond x (suc i) (lowest_past ch wanted (suc i) n)) (sym (test n))
      ∙ sym (past-step i n h))
    where
      test : (n : ℕ) → over_wanted ch wanted n (suc i) ≡ false
      test n = fails→false _ (λ u. false→fails _ t (over→steps i n u).0)

  -- past the last column there is none
  pub past-none : replicate 512 0 ≡ each512 (lowest_past ch wanted (width ch))
  past-none = numbered-replicate 512 0 ∙ numbered-same (λ n. 0) (lowest_past ch wanted (width ch)) 512 (λ n h. ends n)
    where
      ends : (n : ℕ) → 0 ≡ lowest_past ch wanted (width ch) n
      ends n = unfold lowest_past keep from head_or in (let e : width ch - width ch ≡ 0 = omega arith in rw e refl)

  -- past no column there are all
  pub past_all : each512 (lowest_past ch wanted 0) ≡ each512 (lowest_over ch wanted)
  unfolding lowest_past lowest_over
  past_all =
      numbered-same (lowest_past ch wanted 0) (lowest_over ch wanted) 512
      (λ n h. ap (λ (k : ℕ). head_or 0 (keep (over_wanted ch wanted n) (from 1 k))) (omega arith))

  -- the column before i, as j, passes the test: it is stored for its TOP net
  pub past_more : NetsOnly ch → (i j : ℕ) → i ≡ j + 1 → i ≤ width ch → get_or ch.top j 0 < 512
      → steps_wanted wanted (get_or ch.top j 0) (get_or ch.bot j 0) ≡ true
      → set (each512 (lowest_past ch wanted i)) (get_or ch.top j 0) (j + 1) ≡ each512 (lowest_past ch wanted j)
  past_more only i j e h low t = rw (e, add-one) (stored only j (omega arith) low t)

  -- it does not: it is left
  pub past_same : (i j : ℕ) → i ≡ j + 1 → i ≤ width ch
      → steps_wanted wanted (get_or ch.top j 0) (get_or ch.bot j 0) ≡ false
      → each512 (lowest_past ch wanted i) ≡ each512 (lowest_past ch wanted j)
  past_same i j e h t = rw (e, add-one) (passed j (omega arith) t)
