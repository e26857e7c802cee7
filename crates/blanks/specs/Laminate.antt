-- SCOPE, Req 03: a customer's own laminate, "a table of track counts": which tables are bad, and the choice among the
-- entries of one that is not. The stock's table is one of them.
use Rattle.std.specs.Prelude.{ℕ, ◌-◌, List, Bool, ◌&&◌, not, length, ltb, Result}
use Rattle.std.proofs.Math.Option.{Option}
use Rattle.lists.specs.Lists.{keep, up_to, last_or, within, at}
use Rattle.refusal.specs.declared.Refusal.{Refusal}
use Rattle.refusal.specs.declared.Refusal.TheVariants.{BadTable, NoStock}
use Rattle.refusal.specs.Refusals.{refuse_if, refuse_at_first, ◌or_else◌, ok_unless}
use Rattle.blanks.specs.Stock.{smallest_for, no_blank}

-- "each 1 to 512, strictly rising": the entry at place i, from 1, is not 1 to 512 or not above the one before it; what
-- is read before the first is 0
unfoldable pub bad_entry : List ℕ → ℕ → Bool
bad_entry table i = not (within 1 (at table i) 512 && ltb (at table (i - 1)) (at table i))

-- 15: "the place being the first bad entry, from 1, or 0 if there are none or more than 64"
unfoldable pub bad_table : List ℕ → Option Refusal
bad_table table =
    refuse_if (not (within 1 (length table) 64)) (BadTable 0)
    or_else refuse_at_first BadTable (keep (bad_entry table) (up_to (length table)))

-- 16: "when the last entry is below t, the place being t"
unfoldable pub no_stock : List ℕ → ℕ → Option Refusal
no_stock table t = refuse_if (ltb (last_or 0 table) t) (NoStock t)

-- "15, bad table, after 14"; "16, no stock, after 15"
unfoldable pub own_refusal : List ℕ → ℕ → Option Refusal
own_refusal table t = no_blank t or_else bad_table table or_else no_stock table t

-- "The smallest entry that holds the layout is chosen"
unfoldable pub own_answer : List ℕ → ℕ → Result ℕ Refusal
own_answer table t = ok_unless (own_refusal table t) (smallest_for table t)
