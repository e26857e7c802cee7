-- The stock is a table that passes, and the choice among its blanks is one case of the choice among a customer's own.
use Rattle.std.specs.Prelude.{ℕ, ◌≤◌, ◌≡◌, refl, length, get_or, ltb, nat_le, find, ok_or, Option, Some, None, Ok, Err}
use Rattle.std.proofs.Common.{arith, sym, ◌∙◌, ap, ltb→lt, lt→ltb}
use Rattle.std.proofs.Math.Decide.{dec_le}
use Rattle.lists.specs.Lists.{keep, from, head_or, last_or, at}
use Rattle.lists.specs.Ends.{get_or-member}
use Rattle.refusal.specs.declared.Refusal.TheVariants.{NoBlank, NoStock}
use Rattle.refusal.specs.Refusals.{answered}
use Rattle.refusal.specs.ChainLaws.{none-refuse-if, some-refuse-if, some-or-else}
use Rattle.blanks.specs.Stock.{stock, smallest_for, no_blank, blank_answer}
use Rattle.blanks.specs.Laminate.{bad_entry, no_stock, own_refusal, own_answer}
use Rattle.blanks.specs.Promise.{Passes, Chosen}
use Rattle.blanks.specs.ChosenLaws.{smallest-holds}
use Rattle.blanks.specs.TableLaws.{found_none}
use Rattle.blanks.proofs.OwnLaws.{past-table, found-held, found-short, done, over, held}

stock-length : length stock ≡ 12
unfolding stock
stock-length = refl

-- computed over the whole table
pub stock-passes : Passes stock
unfolding stock bad_entry keep from head_or at
stock-passes = found_none stock (omega (arith, stock-length), omega (arith, stock-length)) refl

stock-last : last_or 0 stock ≡ 512
unfolding stock last_or
stock-last = refl

largest : get_or stock 11 0 ≡ 512
unfolding stock
largest = refl

pub stock-chosen : (t : ℕ) → t ≤ 512 → Chosen stock t (smallest_for stock t)
stock-chosen t h =
    smallest-holds stock t (get_or stock 11 0) (get_or-member stock 11 (omega (arith, stock-length)))
    (omega (arith, largest)) stock-passes.rising

one-refusal : (t : ℕ) → own_refusal stock t ≡ no_blank t
unfolding no_stock no_blank own_refusal
one-refusal t =
    elim (dec_le t 512) [
      | yes h ↦
          past-table stock t h stock-passes
          ∙ (none-refuse-if (ltb (last_or 0 stock) t) (NoStock t) (λ w.
          let l = ltb→lt (last_or 0 stock) t w in omega (arith, stock-last))
          ∙ sym (none-refuse-if (ltb 512 t) (NoBlank t) (λ w. let l = ltb→lt 512 t w in omega arith)))
      | no h ↦
          let refused = some-refuse-if (ltb 512 t) (NoBlank t) (lt→ltb 512 t (omega arith)) in
          some-or-else _ _ (NoBlank t) refused ∙ sym refused
    ]

-- "The listing keeps our table": what is answered of it is what is answered of a customer's own
pub one-case : (t : ℕ) → own_answer stock t ≡ blank_answer t
unfolding own_answer blank_answer
one-case t = ap (λ a. answered Err a (Ok (smallest_for stock t))) (one-refusal t)

-- what the search through the stock has found is what is to be answered
pub stock-answer : (t : ℕ) → ok_or (find (nat_le t) stock) (NoBlank t) ≡ blank_answer t
stock-answer t = go (find (nat_le t) stock) refl
  where
    go : (found : Option ℕ) → find (nat_le t) stock ≡ found → ok_or found (NoBlank t) ≡ blank_answer t
    go (Some b) e = (done stock t (held stock-passes (found-held stock stock-passes e))).answer ∙ one-case t
    go None e =
        let below = found-short stock e (get_or stock 11 0) (get_or-member stock 11 (omega (arith, stock-length))) in
        (done stock t (over (omega (arith, largest)))).answer ∙ one-case t
