-- SCOPE, Req 03: what is answered for a customer's own table, by one computed check.
use Rattle.refusal.specs.Refusals as refusals
use Rattle.std.specs.Prelude.{ℕ, ◌≡◌, refl, List, [], ◌∷◌, true}
use Rattle.lists.specs.Lists.{keep, from, up_to, head_or, last_or, at}
use Rattle.refusal.specs.Refusals.{refuse_if, refuse_at_first, ◌or_else◌, answered}
use Rattle.blanks.specs.Stock.{stock, smallest_for, no_blank, blank_told}
use Rattle.blanks.specs.Laminate.{bad_entry, bad_table, no_stock, own_refusal, own_answer}
use Rattle.examples.specs.Starred.{same, all}

-- the number of the refusal and its place, or 0 and the entry chosen
abbrev chosen : List ℕ → ℕ → List ℕ
chosen table t = let told = blank_told (own_answer table t) in told.number ∷ told.values

-- a table of three entries
abbrev three : List ℕ
three = 8 ∷ 12 ∷ 16 ∷ []

pub own-blanks :
    all
    -- no tracks take the first entry; an entry holds as many tracks as it says, and no more
    (same (chosen three 0) (0 ∷ 8 ∷ [])
    ∷ same (chosen three 9) (0 ∷ 12 ∷ [])
    ∷ same (chosen three 12) (0 ∷ 12 ∷ [])
    ∷ same (chosen three 13) (0 ∷ 16 ∷ [])
    ∷ same (chosen three 17) (16 ∷ 17 ∷ [])
    -- entries are 1 to 512
    ∷ same (chosen (1 ∷ 512 ∷ []) 2) (0 ∷ 512 ∷ [])
    ∷ same (chosen (0 ∷ 8 ∷ []) 5) (15 ∷ 1 ∷ [])
    ∷ same (chosen (8 ∷ 513 ∷ []) 5) (15 ∷ 2 ∷ [])
    -- and rise: neither equal neighbours nor a falling entry, and the first bad one is named
    ∷ same (chosen (8 ∷ 12 ∷ 12 ∷ 16 ∷ []) 5) (15 ∷ 3 ∷ [])
    ∷ same (chosen (8 ∷ 16 ∷ 12 ∷ []) 5) (15 ∷ 3 ∷ [])
    ∷ same (chosen (16 ∷ 8 ∷ 0 ∷ 513 ∷ []) 5) (15 ∷ 2 ∷ [])
    -- there are 1 to 64
    ∷ same (chosen [] 5) (15 ∷ 0 ∷ [])
    ∷ same (chosen (up_to 64) 64) (0 ∷ 64 ∷ [])
    ∷ same (chosen (up_to 65) 5) (15 ∷ 0 ∷ [])
    -- 14 before 15, and 15 before 16
    ∷ same (chosen [] 513) (14 ∷ 513 ∷ [])
    ∷ same (chosen (8 ∷ 8 ∷ []) 600) (14 ∷ 600 ∷ [])
    ∷ same (chosen (8 ∷ 8 ∷ []) 100) (15 ∷ 2 ∷ [])
    -- the stock as a table
    ∷ same (chosen stock 25) (0 ∷ 32 ∷ [])
    ∷ same (chosen stock 512) (0 ∷ 512 ∷ [])
    ∷ same (chosen stock 513) (14 ∷ 513 ∷ [])
    ∷ [])
    ≡ true
unfolding
    keep from head_or last_or at refuse_if refuse_at_first ◌or_else◌ answered
    stock smallest_for no_blank refusals.told bad_entry bad_table no_stock own_refusal own_answer
own-blanks = refl
