-- The rule of the blanks, over any rising table: where some entry holds t, the first that does is the smallest that
-- does; and it is the one that a search from the front comes to.
use Rattle.std.specs.Prelude.{ℕ, zero, suc, ◌≤◌, ◌<◌, ◌≡◌, length, get_or, leb, nat_le, find, Some}
use Rattle.std.proofs.Common.{arith, leb→le, le→leb, le-leb}
use mathlib.Core.List.{List, [], ◌∷◌, Memᴰ}
use Rattle.std.proofs.lemmas.Bool.{lt-leb}
use Rattle.lists.specs.Finds.{found-head}
use Rattle.lists.specs.Lists.{keep, head_or}
use Rattle.lists.specs.Members.{keep-member, kept}
use Rattle.lists.specs.Ends.{Rising, head-member, head-least, keep-rising}
use Rattle.blanks.specs.Stock.{smallest_for}
use Rattle.blanks.specs.Promise.{Chosen}

pub smallest-holds : (table : List ℕ) (t b : ℕ) → Memᴰ b table → t ≤ b → Rising table
    → Chosen table t (smallest_for table t)
unfolding smallest_for
smallest-holds table t b m h r =
    let those = kept (leb t) m (le→leb t b h) in
    let first = keep-member (leb t) table (head-member 0 those) in
    record {
      in_table = first.0;
      holds = leb→le t (head_or 0 (keep (leb t) table)) first.1;
      smallest = λ c k l. head-least (keep (leb t) table) 0 (keep-rising (leb t) table r)
          (kept (leb t) k (le→leb t c l));
    }

-- what a search from the front finds
pub found-smallest : (table : List ℕ) (t : ℕ) {b : ℕ} → find (nat_le t) table ≡ Some b → smallest_for table t ≡ b
unfolding smallest_for
found-smallest table t = found-head (leb t) 0 table

-- the entry that a search comes to, of which none before it holds t
pub first-that-holds : (table : List ℕ) (t i : ℕ) → i < length table → ((k : ℕ) → k < i → get_or table k 0 < t)
    → t ≤ get_or table i 0 → smallest_for table t ≡ get_or table i 0
unfolding smallest_for keep head_or
first-that-holds [] t i h below holds = absurd (omega arith)
first-that-holds (x ∷ xs) t zero h below holds = rw (le-leb t x holds)
first-that-holds (x ∷ xs) t (suc i) h below holds =
    rw (lt-leb t x (below 0 (omega arith)))
    (first-that-holds xs t i (omega arith) (λ k l. below (suc k) (omega arith)) holds)
