-- Refusal 18. The numbers of a joined list over 511 are the raised ones over 511, and there are none exactly if the
-- highest numbers of both lists have a sum of at most 511. The code looks for the lowest number of the second list that
-- is over what is left to 511; raised, it is the place.
use Rattle.std.specs.Prelude.{ℕ, ◌+◌, ◌-◌, ◌≤◌, ◌<◌, ◌≡◌, refl, ◌⊎◌, Bool, true, false, cond, ◌&&◌, ltb}
use native.Mathlib.Omega.{arith}
use Rattle.std.proofs.Math.Decide.{dec_le}
use Rattle.std.proofs.Math.Path.{sym}
use mathlib.Core.List.Memᴰ
use mathlib.Core.List.{List, [], ◌∷◌, Memᴰ}
use Rattle.std.proofs.Math.Logic.{inl, inr, ⊎_elim}
use Rattle.std.proofs.Math.Option.{none, some}
use Rattle.std.proofs.Math.Dec.{ltb→lt}
use Rattle.std.proofs.Common.{lt→ltb}
use Rattle.lists.specs.Lists.{least, Lowest}
use Rattle.lists.specs.Tests.{true→T, false→fails, and_left, and_right, and_both}
use Rattle.lists.specs.Members.{keep-member, kept}
use Rattle.lists.specs.Ranges.{no-member→empty, none-kept→fails}
use Rattle.lists.specs.Greatest.{greatest-least}
use Rattle.lists.specs.Orders.{least-among, least-lower}
use Rattle.channel.specs.Channel.{Channel, positions, highest_net}
use Rattle.panel.specs.Joined.{highest, raised, joined}
use Rattle.panel.specs.Answers.{high_numbers}
use Rattle.panel.specs.Promise.{RaisedOver}
use Rattle.panel.specs.Code.{lowest_over, lowest_of}
use Rattle.panel.specs.RaiseLaws.{RaisedTo, none, some, raised-to, raised-some}
use Rattle.panel.proofs.JoinLaws.{member≤highest, highest-is}
use Rattle.panel.proofs.PanelLaws.{raised-low}
use Rattle.panel.proofs.GroupLaws.{highest-both}

-- what the loop finds: none is lower, and it is what it began with or a number of the row over the limit
pub record LowestFound (limit : ℕ) (row : List ℕ) (start r : ℕ) : Type 0 where
  pub most : r ≤ start
  pub lowest : (n : ℕ) → Memᴰ n row → limit < n → r ≤ n
  pub found : (r ≡ start) ⊎ (Memᴰ r row × (limit < r))

pub lowest-found : (limit : ℕ) (row : List ℕ) (start : ℕ) → LowestFound limit row start (lowest_over limit row start)
unfolding lowest_over
lowest-found limit [] start =
    record { most = omega arith; lowest = λ n m h. absurd (Memᴰ.not-nil m); found = inl refl }
lowest-found limit (x ∷ row) start = go (ltb limit x && ltb x start) refl (λ s. lowest-found limit row s)
  where
    test : Bool
    test = ltb limit x && ltb x start

    go : (b : Bool) → test ≡ b → ((s : ℕ) → LowestFound limit row s (lowest_over limit row s))
        → LowestFound limit (x ∷ row) start (lowest_over limit row (cond b x start))
    go true e rest =
        let t = true→T test e in
        let over = ltb→lt limit x (and_left (ltb limit x) (ltb x start) t) in
        let under = ltb→lt x start (and_right (ltb limit x) (ltb x start) t) in
        let r = rest x in
        let m = r.most in
        record {
          most = omega arith;
          lowest = λ n k h. ⊎_elim (λ q. omega arith) (λ i. r.lowest n i h) (Memᴰ.cases_cons k);
          found = inr (⊎_elim (λ q. (Memᴰ.head q, omega arith)) (λ i. (Memᴰ.tail i.0, i.1)) r.found);
        }
    go false e rest =
        let r = rest start in
        let m = r.most in
        record {
          most = m;
          lowest = λ n k h. ⊎_elim (λ q. passed n q h) (λ i. r.lowest n i h) (Memᴰ.cases_cons k);
          found = ⊎_elim inl (λ i. inr (Memᴰ.tail i.0, i.1)) r.found;
        }
      where
        passed : (n : ℕ) → n ≡ x → limit < n → lowest_over limit row start ≤ n
        passed n q h =
            let m = (rest start).most in
            elim (dec_le start x) [
              | yes l ↦ omega arith
              | no l ↦
                  absurd (false→fails test e (and_both (ltb limit x) (ltb x start) (lt→ltb limit x (omega arith))
                  (lt→ltb x start (omega arith))))
            ]

-- what the code finds in the second list
abbrev pub found_over : Channel → Channel → ℕ
found_over ch dh = lowest_of (highest_net - highest ch) dh

module _ (ch dh : Channel) (low : highest ch ≤ highest_net) (low₂ : highest dh ≤ highest_net) where
  abbrev both : Channel
  both = joined ch dh

  abbrev up : ℕ → ℕ
  up = raised (highest ch)

  -- what stands in the joined rows is a number of the first list, or a raised one of the second
  stands-in : {n : ℕ} → Memᴰ n (positions both)
      → Memᴰ n (positions ch) ⊎ ((m : ℕ) × Memᴰ m (positions dh) × (n ≡ up m))
  unfolding joined
  stands-in m =
      ⊎_elim (λ x. ⊎_elim (λ y. inl (Memᴰ.append_left ch.bot y))
      (λ y. let r = Memᴰ.of_map up dh.top y in inr (r.0, Memᴰ.append_left dh.bot r.1, sym r.2))
      (Memᴰ.append_cases ch.top x))
      (λ x. ⊎_elim (λ y. inl (Memᴰ.append_right ch.top y))
      (λ y. let r = Memᴰ.of_map up dh.bot y in inr (r.0, Memᴰ.append_right dh.top r.1, sym r.2))
      (Memᴰ.append_cases ch.bot x))
      (Memᴰ.append_cases both.top m)

  raised-stands : {m : ℕ} → Memᴰ m (positions dh) → Memᴰ (up m) (positions both)
  unfolding joined
  raised-stands m =
      ⊎_elim (λ x. Memᴰ.append_left both.bot (Memᴰ.append_right ch.top (Memᴰ.map up x)))
      (λ x. Memᴰ.append_right both.top (Memᴰ.append_right ch.bot (Memᴰ.map up x)))
      (Memᴰ.append_cases dh.top m)

  pub high→over : {n : ℕ} → Memᴰ n (high_numbers ch dh) → RaisedOver ch dh n
  unfolding high_numbers
  high→over {n} m =
      let k = keep-member (ltb highest_net) (positions both) m in
      let over = ltb→lt highest_net n k.1 in
      ⊎_elim (λ x. let l = member≤highest ch x in absurd (omega arith))
      (λ r. record { number = r.0; stands = r.1; is_raised = r.2; exceeds = over }) (stands-in k.0)

  pub over→high : {n : ℕ} → RaisedOver ch dh n → Memᴰ n (high_numbers ch dh)
  unfolding high_numbers
  over→high {n} o =
      kept (ltb highest_net) (Memᴰ.cast o.is_raised (raised-stands o.stands)) (lt→ltb highest_net n o.exceeds)

  pub over-small : {n : ℕ} → RaisedOver ch dh n → n ≤ highest_net + highest_net
  over-small {n} o = go (up o.number) (raised-to (highest ch) o.number) o.is_raised
    where
      go : (r : ℕ) → RaisedTo (highest ch) o.number r → n ≡ r → n ≤ highest_net + highest_net
      go r (none e) q = omega arith
      go r (some p) q = let l = member≤highest dh o.stands in omega arith

  -- the lowest of them
  pub lowest-over : {n : ℕ} → Memᴰ n (high_numbers ch dh) → Lowest (RaisedOver ch dh) (least (high_numbers ch dh))
  lowest-over m =
      record {
        holds = high→over (least-among m);
        lowest = λ q o. least-lower (high_numbers ch dh) (over→high o);
      }

  -- none is over 511 exactly if the highest raised one is not
  pub none_over : highest ch + highest dh ≤ highest_net → high_numbers ch dh ≡ []
  none_over fits =
      no-member→empty (high_numbers ch dh) (λ n m. let o = high→over m in
      let l = raised-low (highest ch) (highest dh) o.number (member≤highest dh o.stands) fits in
      let e = o.is_raised in let x = o.exceeds in omega arith)

  pub low_sum : high_numbers ch dh ≡ [] → highest ch + highest dh ≤ highest_net
  unfolding high_numbers
  low_sum empty =
      let e = highest-both ch dh in
      let l = greatest-least (positions both) highest_net (λ n m. elim (dec_le n highest_net) [
        | yes h ↦ h
        | no h ↦ absurd (none-kept→fails (ltb highest_net) empty m (lt→ltb highest_net n (omega arith)))
      ]) in
      let h = highest-is both in
      omega arith

  abbrev limit : ℕ
  limit = highest_net - highest ch

  abbrev found : ℕ
  found = found_over ch dh

  tops : LowestFound limit dh.top (highest_net + 1) (lowest_over limit dh.top (highest_net + 1))
  tops = lowest-found limit dh.top (highest_net + 1)

  bots : LowestFound limit dh.bot (lowest_over limit dh.top (highest_net + 1)) found
  bots = lowest-found limit dh.bot (lowest_over limit dh.top (highest_net + 1))

  found-lowest : (n : ℕ) → Memᴰ n (positions dh) → limit < n → found ≤ n
  found-lowest n m over =
      ⊎_elim (λ x. let a = tops.lowest n x over in let b = bots.most in omega arith) (λ x. bots.lowest n x over)
      (Memᴰ.append_cases dh.top m)

  found-stands : found ≤ highest_net → Memᴰ found (positions dh) × (limit < found)
  found-stands small =
      ⊎_elim (λ e. ⊎_elim (λ f. absurd (omega arith))
      (λ x. (Memᴰ.append_left dh.bot (Memᴰ.cast e x.0), let l = x.1 in omega arith)) tops.found)
      (λ x. (Memᴰ.append_right dh.top x.0, x.1)) bots.found

  -- a raised number is over 511 exactly if the number is over the limit
  over-limit : {n : ℕ} (o : RaisedOver ch dh n) → (limit < o.number) × (n ≡ highest ch + o.number)
  over-limit {n} o = go (up o.number) (raised-to (highest ch) o.number) o.is_raised
    where
      go : (r : ℕ) → RaisedTo (highest ch) o.number r → n ≡ r → (limit < o.number) × (n ≡ highest ch + o.number)
      go r (none e) q = let x = o.exceeds in absurd (omega arith)
      go r (some p) q = let x = o.exceeds in (omega arith, q)

  pub found-place : found_over ch dh ≤ highest_net → Memᴰ (highest ch + found_over ch dh) (high_numbers ch dh)
      × (least (high_numbers ch dh) ≡ highest ch + found_over ch dh)
  found-place small =
      let s = found-stands small in
      let over = s.1 in
      let up-found : up found ≡ highest ch + found = raised-some (highest ch) found (omega arith) in
      let here : RaisedOver ch dh (highest ch + found) = record {
        number = found;
        stands = s.0;
        is_raised = sym up-found;
        exceeds = omega arith;
      } in
      let m = over→high here in
      let l = lowest-over m in
      let below = l.lowest (highest ch + found) here in
      let o = over-limit l.holds in
      let e = o.1 in
      let above = found-lowest l.holds.number l.holds.stands o.0 in
      (m, omega arith)

  pub found_none : highest_net < found_over ch dh → high_numbers ch dh ≡ []
  found_none large =
      no-member→empty (high_numbers ch dh) (λ n m. let o = high→over m in
      let l = found-lowest o.number o.stands (over-limit o).0 in
      let h = member≤highest dh o.stands in omega arith)
