-- The test of an entry and what it says: a table of 1 to 64 entries passes exactly if none is bad. And what a scan from
-- the front of a table finds.
use Prim.Native.Nat.{ℕ, zero, suc, ◌+◌, ◌-◌, ◌≤◌, ◌<◌}
use Rattle.std.proofs.Common.{arith, inl, inr, lt→ltb}
use Rattle.std.proofs.Math.Decide.{dec_le}
use Rattle.std.specs.Prelude.{◌≡◌, List, ◌↔◌, ◌⊎◌, Bool, ◌&&◌, length, get_or, ltb, find, Some, None}
use Rattle.std.proofs.Math.Path.{ap}
use Rattle.std.proofs.Math.Logic.{⊎_elim}
use Rattle.std.proofs.Math.Dec.{T, ltb→lt}
use Rattle.lists.specs.Lists.{up_to, within, at}
use Rattle.lists.specs.Tests.{and_left, and_right, and_both, not-passes, not-fails, passes?, within→, →within}
use Rattle.lists.specs.Firsts.{Passing}
use Rattle.lists.specs.Finds.{scan-found, scan-none}
use Rattle.lists.specs.Ends.{at_suc, at-inside, member-at, get_or-member, neighbours→rising, rising→neighbours}
use Rattle.blanks.specs.Laminate.{bad_entry}
use Rattle.blanks.specs.Promise.{Passes, BadEntry}

-- the entry at place i, from 1, is as it has to be
abbrev in_order : List ℕ → ℕ → Bool
in_order table i = within 1 (at table i) 512 && ltb (at table (i - 1)) (at table i)

module _ (table : List ℕ) where
  -- and what that says, by its place from 0
  pub record Sound (i : ℕ) : Type 0 where
    pub above : at table i < at table (suc i)
    pub few : at table (suc i) ≤ 512

  pub sound→ : (i : ℕ) → Sound i → T (bad_entry table (suc i)) → ⊥
  unfolding bad_entry
  sound→ i s t =
      let above = s.above in
      let same : at table (suc i - 1) ≡ at table i = ap (at table) (omega arith) in
      not-fails (in_order table (suc i)) t (and_both (within 1 (at table (suc i)) 512) _
      (→within 1 (at table (suc i)) 512 (omega arith) s.few)
      (lt→ltb (at table (suc i - 1)) (at table (suc i)) (omega arith)))

  pub →sound : (i : ℕ) → (T (bad_entry table (suc i)) → ⊥) → Sound i
  unfolding bad_entry
  →sound i h = ⊎_elim meant (λ f. absurd (h (not-passes (in_order table (suc i)) f))) (passes? (in_order table (suc i)))
    where
      meant : T (in_order table (suc i)) → Sound i
      meant t =
          let x = at table (suc i) in
          let same : at table (suc i - 1) ≡ at table i = ap (at table) (omega arith) in
          let range = within→ 1 x 512 (and_left (within 1 x 512) (ltb (at table (suc i - 1)) x) t) in
          let rise = ltb→lt (at table (suc i - 1)) x (and_right (within 1 x 512) (ltb (at table (suc i - 1)) x) t) in
          record { above = omega arith; few = range.1 }

  -- a table passes exactly if it has 1 to 64 entries and each is as it has to be
  pub sound→passes : (1 ≤ length table) × (length table ≤ 64) → ((i : ℕ) → i < length table → Sound i) → Passes table
  sound→passes count sound =
      record {
        count = count;
        in_range = λ b m.
            let at_i = member-at m in
            let s = sound at_i.0 at_i.1 in
            let here = at_suc table at_i.0 in
            let same = at_i.2 in
            let above = s.above in
            let few = s.few in
            (omega arith, omega arith);
        rising = neighbours→rising table (λ i l.
            let s = (sound (suc i) l).above in
            let here = at_suc table (suc i) in
            let before = at_suc table i in
            omega arith);
      }

  pub passes→sound : Passes table → (i : ℕ) → i < length table → Sound i
  unfolding at
  passes→sound p zero l =
      let range = p.in_range (get_or table 0 0) (get_or-member table 0 l) in
      record { above = omega arith; few = range.1 }
  passes→sound p (suc i) l =
      record {
        above = rising→neighbours table p.rising i l;
        few = (p.in_range (get_or table (suc i) 0) (get_or-member table (suc i) l)).1;
      }

  -- the test of an entry is what `BadEntry` says
  test→bad : (i : ℕ) → Passing (bad_entry table) 1 (length table) i → BadEntry table i
  test→bad zero h = let low = h.low in absurd (omega arith)
  test→bad (suc i) h =
      let high = h.high in
      record {
        in_table = (omega arith, omega arith);
        bad = elim (dec_le 1 x) [ yes low ↦ inr (in-range low) | no low ↦ inl (omega arith) ];
      }
    where
      x : ℕ
      x = at table (suc i)

      same : at table (suc i - 1) ≡ at table i
      same = ap (at table) (omega arith)

      not-above : 1 ≤ x → x ≤ at table i → (1 < suc i) × (x ≤ at table (suc i - 1))
      not-above low k = let inside = at-inside table i (omega arith) in (omega arith, omega (arith, same))

      in-range : 1 ≤ x → (512 < x) ⊎ ((1 < suc i) × (x ≤ at table (suc i - 1)))
      in-range low =
          elim (dec_le x 512) [
            | no over ↦ inl (omega arith)
            | yes few ↦ elim (dec_le x (at table i)) [
              | yes k ↦ inr (not-above low k)
              | no k ↦ absurd (sound→ i (record { above = omega arith; few = few }) h.passes)
            ]
          ]

  bad→test : (i : ℕ) → BadEntry table i → Passing (bad_entry table) 1 (length table) i
  bad→test zero b = let inside = b.in_table in absurd (omega arith)
  bad→test (suc i) b =
      let inside = b.in_table in
      record {
        low = omega arith;
        high = omega arith;
        passes = ⊎_elim (λ t. t) (λ f. absurd (out (→sound i f))) (passes? (bad_entry table (suc i)));
      }
    where
      out : Sound i → ⊥
      out s =
          let above = s.above in
          let few = s.few in
          let same : at table (suc i - 1) ≡ at table i = ap (at table) (omega arith) in
          ⊎_elim (λ none. omega arith) (λ rest. ⊎_elim (λ over. omega arith) (λ k. let l = k.1 in omega arith) rest)
          b.bad

  pub test-exactly : (i : ℕ) → Passing (bad_entry table) 1 (length table) i ↔ BadEntry table i
  test-exactly i = (test→bad i, bad→test i)

-- the scan of a table from its front: it stops at the first bad entry, or there is none
module _ (table : List ℕ) where
  abbrev pub SoundBefore : ℕ → Type 0
  SoundBefore i = (k : ℕ) → k < i → Sound table k

  pub bad-found : (i : ℕ) → i < length table → SoundBefore i → (Sound table i → ⊥)
      → Some (i + 1) ≡ find (bad_entry table) (up_to (length table))
  bad-found i l before bad =
      scan-found (bad_entry table) (length table) i l
      (⊎_elim (λ t. t) (λ f. absurd (bad (→sound table i f))) (passes? (bad_entry table (suc i))))
      (λ k m. sound→ table k (before k m))

  pub none-bad : SoundBefore (length table) → None ≡ find (bad_entry table) (up_to (length table))
  none-bad all = scan-none (bad_entry table) (length table) (λ k m. sound→ table k (all k m))
