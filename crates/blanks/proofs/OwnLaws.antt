-- The four ways in which the choice among a customer's own blanks ends, each by what it means. What is answered in each
-- is what the definitions say, and meets the promise, since no two of them go together.
use Rattle.std.specs.Prelude.{ℕ, ◌≤◌, ◌<◌, ◌≡◌, refl, List, length, leb, ltb, nat_le, find, ok_or, Option, Some, None, Result, Ok, Err}
use Rattle.std.proofs.Common.{arith, ◌∙◌, inl, inr, ⊎_elim, lt→ltb, le-ltb, leb→le, le→leb}
use Rattle.std.proofs.Math.Decide.{dec_le}
use Rattle.std.proofs.Math.Path.{sym, ap, subst}
use Rattle.std.proofs.Math.Option.{some}
use Rattle.std.proofs.Math.Dec.{ltb→lt}
use Rattle.lists.specs.Lists.{head_or, last_or, up_to}
use Rattle.lists.specs.Finds.{found-member, none-passes}
use Rattle.lists.specs.Ends.{get_or-member, last-member, last-greatest}
use Rattle.refusal.specs.declared.Refusal.{Refusal}
use Rattle.refusal.specs.declared.Refusal.TheVariants.{NoBlank, BadTable, NoStock}
use Rattle.refusal.specs.Refusals.{refuse_if, ◌or_else◌, told}
use Rattle.refusal.specs.ChainLaws.{none-refuse-if, some-refuse-if, none-or-else-later, some-or-else}
use Rattle.refusal.specs.ChainLaws.{answered-none, answered-some}
use Rattle.blanks.specs.Stock.{smallest_for, no_blank, blank_told}
use Rattle.blanks.specs.Laminate.{bad_entry, bad_table, no_stock, own_refusal, own_answer}
use Rattle.blanks.specs.Promise.{Passes, BadAt, no-count, Chosen, NoneHolds, OwnPromise}
use Rattle.blanks.specs.Code.{value_told, OwnDone}
use Rattle.blanks.specs.ChosenLaws.{smallest-holds, found-smallest}
use Rattle.blanks.specs.TableLaws.{refused-bad, not-bad, good-bad, bad-once, found-bad, found_none}

module _ (table : List ℕ) where
  module _ (t : ℕ) where
    -- an entry that is chosen is just one, and the one that the definition names
    chosen-once : {b c : ℕ} → Chosen table t b → Chosen table t c → b ≡ c
    chosen-once h k =
        let l = h.smallest _ k.in_table k.holds in let m = k.smallest _ h.in_table h.holds in omega arith

    chosen_is : Passes table → {b : ℕ} → Chosen table t b → smallest_for table t ≡ b
    chosen_is passes {b} h = chosen-once (smallest-holds table t b h.in_table h.holds passes.rising) h

    -- over 512 tracks; a bad table; no entry that holds them; and an entry chosen
    pub data Outcome : Result ℕ Refusal → Type 0 where
      over : 512 < t → Outcome (Err (NoBlank t))
      bad : {p : ℕ} → t ≤ 512 → BadAt table p → Outcome (Err (BadTable p))
      none-holds : t ≤ 512 → Passes table → NoneHolds table t → Outcome (Err (NoStock t))
      held : {b : ℕ} → Passes table → Chosen table t b → Outcome (Ok b)

    few-tracks : Passes table → {b : ℕ} → Chosen table t b → t ≤ 512
    few-tracks passes h = let range = passes.in_range _ h.in_table in let holds = h.holds in omega arith

    past-over : t ≤ 512 → own_refusal table t ≡ (bad_table table or_else no_stock table t)
    unfolding own_refusal no_blank refuse_if
    past-over h = none-or-else-later _ _ (rw (le-ltb 512 t h))

    pub past-table : t ≤ 512 → Passes table → own_refusal table t ≡ no_stock table t
    past-table h passes = past-over h ∙ none-or-else-later _ _ (not-bad table passes)

    refused : {r : Refusal} → own_refusal table t ≡ some r → Err r ≡ own_answer table t
    unfolding own_answer
    refused {r} e = sym (answered-some Err (own_refusal table t) _ r e)

    answer : {a : Result ℕ Refusal} → Outcome a → a ≡ own_answer table t
    unfolding own_answer own_refusal no_blank no_stock
    answer (over h) = refused (some-or-else _ _ (NoBlank t) (some-refuse-if (ltb 512 t) (NoBlank t) (lt→ltb 512 t h)))
    answer (bad h b) = refused (past-over h ∙ some-or-else _ _ _ (refused-bad table b))
    answer (none-holds h passes below) =
        let some-entry = passes.count.0 in
        let last = below (last_or 0 table) (last-member 0 (get_or-member table 0 some-entry)) in
        refused (past-table h passes
        ∙ some-refuse-if (ltb (last_or 0 table) t) (NoStock t) (lt→ltb (last_or 0 table) t last))
    answer (held passes chosen) =
        let most = last-greatest table 0 passes.rising chosen.in_table in
        let holds = chosen.holds in
        let silent = none-refuse-if (ltb (last_or 0 table) t) (NoStock t)
        (λ w. let l = ltb→lt (last_or 0 table) t w in omega arith) in
        sym (answered-none Err (own_refusal table t) _ (past-table (few-tracks passes chosen) passes ∙ silent)
        ∙ ap Ok (chosen_is passes chosen))

    none-chosen : NoneHolds table t → {b : ℕ} → Chosen table t b → ⊥
    none-chosen below chosen = let l = below _ chosen.in_table in let holds = chosen.holds in omega arith

    promise : {a : Result ℕ Refusal} → Outcome a → OwnPromise table t (blank_told a).number (value_told a)
    unfolding told head_or
    promise (over h) =
        record {
          over-exactly = (λ e. h, λ k. refl);
          bad-exactly = (λ e. absurd (omega arith), λ k. absurd (let few = k.0 in omega arith));
          bad-place = λ p. (λ e. absurd (let n = e.0 in omega arith), λ k. absurd (let few = k.0 in omega arith));
          none-exactly = (λ e. absurd (omega arith), λ k. absurd (let few = k.0 in omega arith));
          tracks-named = λ e. refl;
          chosen-exactly = λ b. (
            λ e. absurd (let n = e.0 in omega arith),
            λ k. absurd (let few = few-tracks k.0 k.1 in omega arith),
          );
        }
    promise (bad h b) =
        record {
          over-exactly = (λ e. absurd (omega arith), λ k. absurd (omega arith));
          bad-exactly = (λ e. (h, λ passes. good-bad table passes b), λ k. refl);
          bad-place = λ p. (λ e. (h, subst (BadAt table) e.1 b), λ k. (refl, bad-once table b k.1));
          none-exactly = (λ e. absurd (omega arith), λ k. absurd (good-bad table k.1 b));
          tracks-named = λ e. absurd (⊎_elim (λ n. omega arith) (λ n. omega arith) e);
          chosen-exactly = λ c. (λ e. absurd (let n = e.0 in omega arith), λ k. absurd (good-bad table k.0 b));
        }
    promise (none-holds h passes below) =
        record {
          over-exactly = (λ e. absurd (omega arith), λ k. absurd (omega arith));
          bad-exactly = (λ e. absurd (omega arith), λ k. absurd (k.1 passes));
          bad-place = λ p. (λ e. absurd (let n = e.0 in omega arith), λ k. absurd (good-bad table passes k.1));
          none-exactly = (λ e. (h, passes, below), λ k. refl);
          tracks-named = λ e. refl;
          chosen-exactly = λ b. (
            λ e. absurd (let n = e.0 in omega arith),
            λ k. absurd (none-chosen below k.1),
          );
        }
    promise (held passes chosen) =
        let few = few-tracks passes chosen in
        record {
          over-exactly = (λ e. absurd (omega arith), λ k. absurd (omega arith));
          bad-exactly = (λ e. absurd (omega arith), λ k. absurd (k.1 passes));
          bad-place = λ p. (λ e. absurd (let n = e.0 in omega arith), λ k. absurd (good-bad table passes k.1));
          none-exactly = (λ e. absurd (omega arith), λ k. absurd (none-chosen k.2 chosen));
          tracks-named = λ e. absurd (⊎_elim (λ n. omega arith) (λ n. omega arith) e);
          chosen-exactly = λ b. (
            λ e. (passes, subst (Chosen table t) e.1 chosen),
            λ k. (refl, chosen-once chosen k.1),
          );
        }

    pub done : {a : Result ℕ Refusal} → Outcome a → OwnDone table t a
    done o = record { answer = answer o; promise = promise o }

  -- what the search for an entry that holds the tracks has found
  pub found-held : {t b : ℕ} → Passes table → find (nat_le t) table ≡ Some b → Chosen table t b
  found-held {t} passes e =
      let m = found-member (leb t) e in
      subst (Chosen table t) (found-smallest table t e) (smallest-holds table t _ m.0 (leb→le t _ m.1) passes.rising)

  pub found-short : {t : ℕ} → find (nat_le t) table ≡ None → NoneHolds table t
  found-short {t} e b m = elim (dec_le t b) [ yes h ↦ absurd (none-passes (leb t) e m (le→leb t b h)) | no h ↦ omega arith ]

  -- so what it is turned into is done
  pub searched-done : (t : ℕ) → t ≤ 512 → Passes table → OwnDone table t (ok_or (find (nat_le t) table) (NoStock t))
  searched-done t few passes = go (find (nat_le t) table) refl
    where
      go : (found : Option ℕ) → find (nat_le t) table ≡ found → OwnDone table t (ok_or found (NoStock t))
      go None e = done t (none-holds few passes (found-short e))
      go (Some b) e = done t (held passes (found-held passes e))

  -- every table and every t has one of the four ways
  pub outcome : (t : ℕ) → (a : Result ℕ Refusal) × Outcome t a
  outcome t = elim (dec_le t 512) [ yes few ↦ counted few | no h ↦ (Err (NoBlank t), over (omega arith)) ]
    where
      last : ℕ
      last = last_or 0 table

      -- past refusal 15
      passed : t ≤ 512 → Passes table → (a : Result ℕ Refusal) × Outcome t a
      passed few passes =
          let m = last-member 0 (get_or-member table 0 passes.count.0) in
          elim (dec_le t last) [
            | yes h ↦ (Ok (smallest_for table t), held passes (smallest-holds table t last m h passes.rising))
            | no h ↦ (
              Err (NoStock t),
              none-holds few passes
                  (λ b k. let l = last-greatest table 0 passes.rising k in omega arith),
            )
          ]

      searched : t ≤ 512 → (1 ≤ length table) × (length table ≤ 64) → (found : Option ℕ)
          → find (bad_entry table) (up_to (length table)) ≡ found → (a : Result ℕ Refusal) × Outcome t a
      searched few count None e = passed few (found_none table count e)
      searched few count (Some p) e = (Err (BadTable p), bad few (found-bad table count e))

      counted : t ≤ 512 → (a : Result ℕ Refusal) × Outcome t a
      counted few =
          elim (dec_le 1 (length table)) [
            | no h ↦ (Err (BadTable 0), bad few (no-count (inl (omega arith)) refl))
            | yes h ↦ elim (dec_le (length table) 64) [
              | no k ↦ (Err (BadTable 0), bad few (no-count (inr (omega arith)) refl))
              | yes k ↦ searched few (h, k) (find (bad_entry table) (up_to (length table))) refl
            ]
          ]
