-- Refusal 15 names the one place of a bad table, and is silent exactly of a table that passes.
use Rattle.std.specs.Prelude.{ℕ, suc, ◌≤◌, ◌<◌, ◌≡◌, List, ◌⊎◌, not, length, find, Some, None, T}
use Rattle.std.proofs.Common.{arith, sym, ◌∙◌, ⊎_elim}
use Rattle.std.proofs.Math.Path.{ap}
use Rattle.std.proofs.Math.Option.{none, some, some-ne-none, some-injective}
use Rattle.lists.specs.Lists.{keep, up_to, within}
use Rattle.lists.specs.Tests.{not-passes, not-fails, within→, →within}
use Rattle.lists.specs.Firsts.{lowest-same}
use Rattle.lists.specs.Finds.{lowest-found, found-lowest, none-found}
use Rattle.refusal.specs.declared.Refusal.TheVariants.{BadTable}
use Rattle.refusal.specs.Refusals.{place_of, refuse_at_first}
use Rattle.refusal.specs.ChainLaws.{none-refuse-if, some-refuse-if, none-or-else-later, some-or-else}
use Rattle.refusal.specs.ChainLaws.{refuse-found, refuse-not-found}
use Rattle.blanks.specs.Laminate.{bad_entry, bad_table}
use Rattle.blanks.specs.Promise.{Passes, BadAt, no-count, first-bad}
use Rattle.blanks.specs.LaminateLaws.{→sound, passes→sound, sound→passes, test-exactly, none-bad}

module _ (table : List ℕ) where
  -- a count that is not 1 to 64
  uncounted : (length table ≡ 0) ⊎ (64 < length table) → T (not (within 1 (length table) 64))
  uncounted h =
      not-passes (within 1 (length table) 64) (λ w. let r = within→ 1 (length table) 64 w in
      ⊎_elim (λ e. omega arith) (λ l. omega arith) h)

  past-count : (1 ≤ length table) × (length table ≤ 64)
      → bad_table table ≡ refuse_at_first BadTable (keep (bad_entry table) (up_to (length table)))
  unfolding bad_table
  past-count h =
      none-or-else-later _ _ (none-refuse-if (not (within 1 (length table) 64)) (BadTable 0) (λ w.
      not-fails (within 1 (length table) 64) w (→within 1 (length table) 64 h.0 h.1)))

  -- the refusal names the place of a bad table, and is silent of one that passes
  pub refused-bad : {p : ℕ} → BadAt table p → bad_table table ≡ some (BadTable p)
  unfolding bad_table
  refused-bad (no-count h e) =
      some-or-else _ _ (BadTable _)
      (rw e (some-refuse-if (not (within 1 (length table) 64)) (BadTable 0) (uncounted h)))
  refused-bad (first-bad count lowest) =
      past-count count ∙ refuse-found BadTable (bad_entry table) (up_to (length table))
      (sym (lowest-found (bad_entry table) (length table) ((lowest-same (test-exactly table) _).1 lowest)))

  pub not-bad : Passes table → bad_table table ≡ none
  not-bad passes =
      past-count passes.count
      ∙ refuse-not-found BadTable (bad_entry table) (up_to (length table)) (sym (none-bad table (passes→sound table passes)))

  -- so no place is bad in a table that passes, and no two are named in another
  pub good-bad : Passes table → {p : ℕ} → BadAt table p → ⊥
  good-bad passes b = some-ne-none _ (sym (refused-bad b) ∙ not-bad passes)

  pub bad-once : {p q : ℕ} → BadAt table p → BadAt table q → p ≡ q
  bad-once b c = ap place_of (some-injective _ _ (sym (refused-bad b) ∙ refused-bad c))

  -- what the search for a bad entry has found
  module _ (count : (1 ≤ length table) × (length table ≤ 64)) where
    pub found-bad : {p : ℕ} → find (bad_entry table) (up_to (length table)) ≡ Some p → BadAt table p
    found-bad e =
        first-bad count ((lowest-same (test-exactly table) _).0 (found-lowest (bad_entry table) (length table) e))

    pub found_none : find (bad_entry table) (up_to (length table)) ≡ None → Passes table
    found_none e =
        sound→passes table count (λ i l. →sound table i (λ w. none-found (bad_entry table) (length table) e (suc i)
        (record { low = omega arith; high = omega arith; passes = w })))
