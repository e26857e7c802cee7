-- The items over a column, from how many start and how many end in each: those that hold it go on from the column
-- before or start there, and of those that hold it the ones that do not end there go on to the next.
use Prim.Native.Nat.{ℕ, zero, suc, max, ◌+◌, ◌-◌, ◌≤◌, ◌<◌}
use native.Mathlib.Omega.{arith}
use Rattle.std.proofs.Math.Decide.{dec_le, dec_lt}
use Rattle.std.specs.Prelude.{◌≡◌, refl, Bool, true, false, cond, ◌&&◌, get_or, replicate, eqb}
use Rattle.std.proofs.Math.Path.{sym, ap}
use mathlib.Core.List.Memᴰ
use mathlib.Core.List.{List, [], ◌∷◌, map, Memᴰ}
use Rattle.std.proofs.Common.{⊎_elim, le-leb, lt-ltb, le-ltb, eq-eqb, ne_eqb}
use Rattle.std.proofs.Math.ListN.{length}
use Rattle.std.proofs.Math.Dec.{leb, ltb, leb→le}
use Rattle.std.proofs.lemmas.Bool.{lt-leb}
use Rattle.lists.specs.Lists.{keep, up_to, greatest, within, Distinct}
use Rattle.lists.specs.Tests.{one-if, equal?, and_left}
use Rattle.lists.specs.Members.{keep-member, kept, up_to-member}
use Rattle.lists.specs.Pigeonhole.{length-keep, keep-distinct, pigeonhole}
use Rattle.lists.specs.Greatest.{greatest-map-upper, greatest-map-least}
use Rattle.lists.specs.Ends.{get_or-member}
use Rattle.lists.specs.Ranges.{fails→none-kept}
use Rattle.lists.specs.Tallies.{keep_same}
use Rattle.lists.specs.Counts.{times, none-counted, tally, tally-length, tally-times}
use Rattle.lists.specs.Arrays.{from-snoc}
use Rattle.lists.specs.Updates.{map_same, greatest-map-last}
use Rattle.items.specs.Order.{by_number}
use Rattle.items.specs.Density.{holding, densest, carried, holding_by, Sweepable, Spanned}

-- accessors that agree on the items give the same density
module _ (first last first' last' : ℕ → ℕ) (ns : List ℕ)
    (same : (n : ℕ) → Memᴰ n ns → (first n ≡ first' n) × (last n ≡ last' n)) where
  pub holding-same : (c : ℕ) → holding first last ns c ≡ holding first' last' ns c
  unfolding holding
  holding-same c =
      ap length (keep_same (λ n. within (first n) c (last n)) (λ n. within (first' n) c (last' n)) ns
      (λ n m. rw ((same n m).0, (same n m).1)))

  pub densest-same : (w : ℕ) → densest first last ns w ≡ densest first' last' ns w
  unfolding densest
  densest-same w = ap greatest (map_same _ _ (up_to w) (λ c m. holding-same c))

-- and so do lists of the same items, in whatever order
pub densest-within : (first last : ℕ → ℕ) (ms ns : List ℕ) → Distinct ms
    → ((n : ℕ) → Memᴰ n ms → Memᴰ n ns) → (w : ℕ) → densest first last ms w ≤ densest first last ns w
unfolding densest holding
densest-within first last ms ns d h w =
    greatest-map-least _ (up_to w) _ (λ c m. let here = greatest-map-upper
    (λ e. length (keep (λ n. within (first n) e (last n)) ns)) m in
    let fit = pigeonhole (keep (λ n. within (first n) c (last n)) ms) (keep (λ n. within (first n) c (last n)) ns)
    (keep-distinct _ ms d) (λ n k. let r = keep-member _ ms k in kept _ (h n r.0) r.1) in omega arith)

-- where those that pass a test are those that pass another and those whose key is c, and none is both, they add up
keep-sum : (f g : ℕ → Bool) (key : ℕ → ℕ) (c : ℕ) (ns : List ℕ)
    → ((n : ℕ) → Memᴰ n ns → one-if (f n) ≡ one-if (g n) + one-if (eqb c (key n)))
    → length (keep f ns) ≡ length (keep g ns) + times c (map key ns)
unfolding keep
keep-sum f g key c [] e = refl
keep-sum f g key c (n ∷ ns) e =
    let here = e n (Memᴰ.head refl) in
    let rest = keep-sum f g key c ns (λ m i. e m (Memᴰ.tail i)) in
    let keys = one (eqb c (key n)) (key n) (keep (eqb c) (map key ns)) in
    omega (arith, one (f n) n (keep f ns), one (g n) n (keep g ns))
  where
    one : (b : Bool) (m : ℕ) (ms : List ℕ) → length (cond b (m ∷ ms) ms) ≡ one-if b + length ms
    one true m ms = omega arith
    one false m ms = omega arith

-- a span over the next column goes on from this one, or starts there
enters : (f l c : ℕ) → f ≤ l → one-if (within f (suc c) l) ≡ one-if (leb f c && ltb c l) + one-if (eqb (suc c) f)
enters f l c h =
    elim (dec_le f c) [
      | yes k ↦ rw (le-leb f c k, le-leb f (suc c) (omega arith), ne_eqb (suc c) f (omega arith)) (omega arith)
      | no k ↦ ⊎_elim
          (λ e. let later : c < f = omega arith in let starts : f ≤ suc c = omega arith in
          rw (lt-leb f c later, le-leb f (suc c) starts, le-leb (suc c) l (omega arith), eq-eqb (suc c) f e))
          (λ e. rw (lt-leb f c (omega arith), lt-leb f (suc c) (omega (arith, e)), ne_eqb (suc c) f e))
          (equal? (suc c) f)
    ]

-- a span over this column goes on to the next, or ends here
leaves : (f l c : ℕ) → f ≤ l → one-if (within f c l) ≡ one-if (leb f c && ltb c l) + one-if (eqb c l)
leaves f l c h =
    elim (dec_lt c l) [
      | yes k ↦ rw (le-leb c l (omega arith), lt-ltb c l k, ne_eqb c l (omega arith)) (omega arith)
      | no k ↦ ⊎_elim
          (λ e. rw (le-leb f c (omega arith), le-leb c l (omega arith), le-ltb c l (omega arith), eq-eqb c l e))
          (λ e. rw (le-leb f c (omega arith), lt-leb c l (omega (arith, e)), le-ltb c l (omega arith), ne_eqb c l e))
          (equal? c l)
    ]

-- how many hold column c and the next
unfoldable pub passing : (ℕ → ℕ) → (ℕ → ℕ) → List ℕ → ℕ → ℕ
passing first last ns c = length (keep (λ n. leb (first n) c && ltb c (last n)) ns)

module _ (first last : ℕ → ℕ) (ns : List ℕ) (spans : (n : ℕ) → Memᴰ n ns → first n ≤ last n) (c : ℕ) where
  pub holding-enters : holding first last ns (suc c) ≡ passing first last ns c + times (suc c) (map first ns)
  unfolding holding passing
  holding-enters = keep-sum _ _ first (suc c) ns (λ n m. enters (first n) (last n) c (spans n m))

  pub holding-leaves : holding first last ns c ≡ passing first last ns c + times c (map last ns)
  unfolding holding passing
  holding-leaves = keep-sum _ _ last c ns (λ n m. leaves (first n) (last n) c (spans n m))

-- where nothing was counted before, a tally is how often each number stands
tally-all : (key : ℕ → ℕ) (ns counts : List ℕ) → counts ≡ replicate (length counts) 0
    → ((n : ℕ) → Memᴰ n ns → key n < length counts)
    → (c : ℕ) → get_or (tally (map key ns) counts) c 0 ≡ times c (map key ns)
tally-all key ns counts e low c =
    let all = tally-times (map key ns) counts c
    (λ k h. let m = Memᴰ.of_map key ns (get_or-member (map key ns) k h) in omega (arith, m.2, low m.0 m.1)) in
    let none = none-counted e c in omega arith

-- the items that start and those that end in each column, counted, tell how many hold it
module _ {items first last starts ends begun ended : List ℕ} (s : Spanned items first last starts ends)
    (all-begun : begun ≡ tally (map (by_number first) items) starts)
    (all-ended : ended ≡ tally (map (by_number last) items) ends) where
  enter : (c : ℕ) → holding (by_number first) (by_number last) items (suc c)
      ≡ passing (by_number first) (by_number last) items c + get_or begun (suc c) 0
  enter c =
      rw (all-begun, tally-all (by_number first) items starts s.none-starts (λ n m. omega (arith, s.span n m)))
      (holding-enters (by_number first) (by_number last) items (λ n m. (s.span n m).1) c)

  leave : (c : ℕ) → holding (by_number first) (by_number last) items c
      ≡ passing (by_number first) (by_number last) items c + get_or ended c 0
  leave c =
      rw (all-ended, tally-all (by_number last) items ends s.none-ends (λ n m. omega (arith, s.even, s.span n m)))
      (holding-leaves (by_number first) (by_number last) items (λ n m. (s.span n m).1) c)

  carried-passing : (c : ℕ) → carried begun ended c ≡ passing (by_number first) (by_number last) items c
  unfolding carried passing
  carried-passing zero =
      sym (ap length (fails→none-kept (λ n. leb (by_number first n) 0 && ltb 0 (by_number last n)) items
      (λ n m t. omega (arith, s.span n m, leb→le (by_number first n) 0 (and_left (leb (by_number first n) 0) _ t)))))
  carried-passing (suc c) = omega (arith, carried-passing c, enter c, leave (suc c))

  swept : (c : ℕ) → 1 ≤ c → holding_by begun ended c ≡ holding (by_number first) (by_number last) items c
  unfolding holding_by
  swept zero h = absurd (omega arith)
  swept (suc c) h = let before : suc c - 1 ≡ c = omega arith in rw before (omega (arith, carried-passing c, enter c))

  long : length begun ≡ length starts
  long = rw all-begun (tally-length (map (by_number first) items) starts)

  pub sweepable : Sweepable begun ended
  unfolding holding
  sweepable = record {
    even = omega (arith, s.even, long, rw (← all-ended) at (tally-length (map (by_number last) items) ends));
    ended = λ c. omega (arith, swept (suc c) (omega arith), leave (suc c));
    few = λ c. let most = length-keep (λ n. within (by_number first n) (suc c) (by_number last n)) items in
        omega (arith, s.few, swept (suc c) (omega arith));
  }

  pub swept-densest : greatest (map (holding_by begun ended) (up_to (length begun - 1)))
      ≡ densest (by_number first) (by_number last) items (length starts - 1)
  unfolding densest
  swept-densest = rw long (ap greatest (map_same _ _ (up_to (length starts - 1)) (λ c m. swept c (up_to-member _ m).0)))

-- the sweep, one column further
pub swept-next : (starts ends : List ℕ) (c : ℕ) → 0 < c
    → (carried starts ends (c + 1 - 1) ≡ holding_by starts ends c - get_or ends c 0)
    × (greatest (map (holding_by starts ends) (up_to (c + 1 - 1)))
    ≡ max (greatest (map (holding_by starts ends) (up_to (c - 1)))) (holding_by starts ends c))
unfolding carried holding_by
swept-next starts ends zero h = absurd (omega arith)
swept-next starts ends (suc c) h =
    let here : suc c + 1 - 1 ≡ suc c = omega arith in
    let before : suc c - 1 ≡ c = omega arith in
    let last : 1 + c ≡ suc c = omega arith in
    let most = rw before at (greatest-map-last (holding_by starts ends) (up_to c) (suc c)) in
    rw (here, before) (refl, rw (from-snoc, last) most)

-- those over column c can be counted, and no more end there
pub swept-counted : {starts ends : List ℕ} (c on : ℕ) → Sweepable starts ends → 0 < c → on ≡ carried starts ends (c - 1)
    → (get_or ends c 0 ≤ on + get_or starts c 0) × (on + get_or starts c 0 < 4294967296)
unfolding holding_by
swept-counted zero on s h e = absurd (omega arith)
swept-counted {starts} {ends} (suc c) on s h e =
    let before : suc c - 1 ≡ c = omega arith in
    let here = rw before at e in
    omega (arith, rw before at (s.ended c), rw before at (s.few c))

-- the sweep has come to column c, with `on` items carried past the column before and `most` the greatest number so far
pub record Swept (starts ends : List ℕ) (c on most : ℕ) : Type 0 where
  pub positive : 0 < c
  pub inside : c - 1 ≤ length starts - 1
  pub carries : on ≡ carried starts ends (c - 1)
  pub greatest-so-far : most ≡ greatest (map (holding_by starts ends) (up_to (c - 1)))

pub swept_none : (starts ends : List ℕ) → Swept starts ends 1 0 0
unfolding carried greatest Rattle.lists.specs.Lists.from
swept_none starts ends =
    record { positive = omega arith; inside = omega arith; carries = refl; greatest-so-far = refl }

module _ {starts ends : List ℕ} {c on most : ℕ} (s : Swept starts ends c on most) (low : c < length starts) where
  pub swept-more : most < on + get_or starts c 0
      → Swept starts ends (c + 1) (on + get_or starts c 0 - get_or ends c 0) (on + get_or starts c 0)
  unfolding holding_by
  swept-more h =
      let next = swept-next starts ends c s.positive in
      record {
        positive = omega arith;
        inside = omega arith;
        carries = omega arith;
        greatest-so-far = omega arith;
      }

  pub swept_same : on + get_or starts c 0 ≤ most
      → Swept starts ends (c + 1) (on + get_or starts c 0 - get_or ends c 0) most
  unfolding holding_by
  swept_same h =
      let next = swept-next starts ends c s.positive in
      record {
        positive = omega arith;
        inside = omega arith;
        carries = omega arith;
        greatest-so-far = omega arith;
      }

-- past the last column it has the greatest number of all
pub swept_all : {starts ends : List ℕ} {c on most : ℕ} → Swept starts ends c on most → length starts ≤ c
    → most ≡ greatest (map (holding_by starts ends) (up_to (length starts - 1)))
swept_all {starts} {c = c} s h =
    let i = s.inside in
    let all : c - 1 ≡ length starts - 1 = omega arith in
    rw all at s.greatest-so-far
