-- The first and the last of those of a range that pass a test: members, and the least and the greatest of them. And a
-- second occurrence where a number does not stand just once, and none where it does.
use Rattle.std.specs.Prelude.{ℕ, zero, suc, ◌+◌, ◌-◌, ◌≤◌, ◌<◌, ◌≡◌, Bool, true, false, cond, length, get_or, T, eqb}
use Rattle.std.proofs.Common.{arith, add-one, sym, ◌∙◌, ap, subst, ⊎_elim, eqb→eq}
use Rattle.std.proofs.Math.Path.{refl}
use mathlib.Core.List.{List, [], ◌∷◌, map, Memᴰ}
use Rattle.std.proofs.Math.Dec.{eqb_refl}
use Rattle.lists.specs.Lists.{keep, from, head_or, last_or, at, Distinct}
use Rattle.lists.specs.Pigeonhole.{distinct_cons}
use Rattle.lists.specs.Tests.{T→true, eq→T, fails→false, equal?}
use Rattle.lists.specs.Members.{keep-member, kept, from_member}

module _ {A : Type 0} where
  pub head-member : (d : A) {xs : List A} {x : A} → Memᴰ x xs → Memᴰ (head_or d xs) xs
  unfolding head_or
  head-member d {xs = []} m = elim m [ ]
  head-member d {xs = y ∷ ys} m = mathlib.Core.List.Memᴰ.head refl

  pub last-member : (d : A) {xs : List A} {x : A} → Memᴰ x xs → Memᴰ (last_or d xs) xs
  unfolding last_or
  last-member d {xs = []} m = elim m [ ]
  last-member d {xs = y ∷ []} m = mathlib.Core.List.Memᴰ.head refl
  last-member d {xs = y ∷ (z ∷ zs)} m = mathlib.Core.List.Memᴰ.tail (last-member y {xs = z ∷ zs} {x = z} (mathlib.Core.List.Memᴰ.head refl))

-- both are within a bound of all
pub ends-within : (w : ℕ) (xs : List ℕ) → ((x : ℕ) → Memᴰ x xs → x ≤ w) → (head_or 0 xs ≤ w) × (last_or 0 xs ≤ w)
unfolding head_or last_or
ends-within w [] h = (omega arith, omega arith)
ends-within w (x ∷ xs) h =
    (h x (mathlib.Core.List.Memᴰ.head refl), h (last_or 0 (x ∷ xs)) (last-member 0 {x = x} (mathlib.Core.List.Memᴰ.head refl)))

-- each number stands below all that come after it
unfoldable pub Rising : List ℕ → Type 0
Rising [] = Unit {0}
Rising (x ∷ xs) = ((y : ℕ) → Memᴰ y xs → x < y) × Rising xs

pub from-rising : (a n : ℕ) → Rising (from a n)
unfolding Rising from
from-rising a zero = tt
from-rising a (suc n) = (λ y m. let r = from_member (suc a) n m in omega arith, from-rising (suc a) n)

pub keep-rising : (f : ℕ → Bool) (xs : List ℕ) → Rising xs → Rising (keep f xs)
unfolding Rising keep
keep-rising f [] r = tt
keep-rising f (x ∷ xs) r = go (f x) (keep-rising f xs r.1)
  where
    go : (b : Bool) → Rising (keep f xs) → Rising (cond b (x ∷ keep f xs) (keep f xs))
    go true k = (λ y m. r.0 y (keep-member f xs m).0, k)
    go false k = k

pub head-least : (xs : List ℕ) (d : ℕ) → Rising xs → {x : ℕ} → Memᴰ x xs → head_or d xs ≤ x
unfolding Rising head_or
head-least (y ∷ ys) d r m = ⊎_elim (λ e. omega arith) (λ k. let h = r.0 _ k in omega arith) (mathlib.Core.List.Memᴰ.cases_cons m)
head-least [] d r m = absurd (mathlib.Core.List.Memᴰ.not-nil m)

pub last-greatest : (xs : List ℕ) (d : ℕ) → Rising xs → {x : ℕ} → Memᴰ x xs → x ≤ last_or d xs
unfolding Rising last_or
last-greatest [] d r m = absurd (mathlib.Core.List.Memᴰ.not-nil m)
last-greatest (y ∷ []) d r m = ⊎_elim (λ e. omega arith) (λ k. absurd (mathlib.Core.List.Memᴰ.not-nil k)) (mathlib.Core.List.Memᴰ.cases_cons m)
last-greatest (y ∷ (z ∷ zs)) d r {x} m =
    ⊎_elim (λ e. let h = r.0 z (mathlib.Core.List.Memᴰ.head refl) in
    let l = last-greatest (z ∷ zs) y r.1 {x = z} (mathlib.Core.List.Memᴰ.head refl) in omega arith)
    (λ k. last-greatest (z ∷ zs) y r.1 k) (mathlib.Core.List.Memᴰ.cases_cons m)

-- a place of a row, from 1, holds what stands there
pub at_suc : (row : List ℕ) (i : ℕ) → at row (suc i) ≡ get_or row i 0
unfolding at
at_suc row i = refl

pub at_next : (row : List ℕ) (i : ℕ) → at row (i + 1) ≡ get_or row i 0
at_next row i = ap (at row) (add-one i) ∙ at_suc row i

pub at-pred : (row : List ℕ) (k : ℕ) → 0 < k → at row k ≡ get_or row (k - 1) 0
at-pred row zero h = absurd (omega arith)
at-pred row (suc i) h = let same : suc i - 1 ≡ i = omega arith in rw (same, at_suc row i)

-- a row in which each number is exchanged, where 0 stays 0
pub at_map : (f : ℕ → ℕ) → f 0 ≡ 0 → (row : List ℕ) (k : ℕ) → at (map f row) k ≡ f (at row k)
unfolding at
at_map f z row zero = sym z
at_map f z [] (suc k) = sym z
at_map f z (x ∷ xs) (suc zero) = refl
at_map f z (x ∷ xs) (suc (suc k)) = at_map f z xs (suc k)

-- a number other than 0 stands at a place of the row
pub at-inside : (row : List ℕ) (k : ℕ) → 0 < at row k → (1 ≤ k) × (k ≤ length row)
unfolding at
at-inside row zero h = absurd (omega arith)
at-inside [] (suc k) h = absurd (omega arith)
at-inside (x ∷ xs) (suc zero) h = (omega arith, omega arith)
at-inside (x ∷ xs) (suc (suc k)) h = let r = at-inside xs (suc k) h in (omega arith, omega arith)

pub member-at : {x : ℕ} {row : List ℕ} → Memᴰ x row → (i : ℕ) × (i < length row) × (get_or row i 0 ≡ x)
member-at {row = []} x3 = elim x3 [ ]
member-at {row = y ∷ ys} (mathlib.Core.List.Memᴰ.head e) = (0, omega arith, sym e)
member-at {row = y ∷ ys} (mathlib.Core.List.Memᴰ.tail m) = let r = member-at m in (suc r.0, (let h = r.1 in omega arith), r.2)

pub get_or-member : (row : List ℕ) (i : ℕ) → i < length row → Memᴰ (get_or row i 0) row
get_or-member [] i h = absurd (omega arith)
get_or-member (x ∷ xs) zero h = mathlib.Core.List.Memᴰ.head refl
get_or-member (x ∷ xs) (suc i) h = mathlib.Core.List.Memᴰ.tail (get_or-member xs i (omega arith))

-- n stands somewhere in the row, but not just once: so it stands in another place too
pub record Elsewhere (n : ℕ) (row : List ℕ) (i : ℕ) : Type 0 where
  pub place : ℕ
  pub in_row : place < length row
  pub other : place ≡ i → ⊥
  pub same : get_or row place 0 ≡ n

pub elsewhere : (n : ℕ) (row : List ℕ) (i : ℕ) → i < length row → get_or row i 0 ≡ n → (length (keep (eqb n) row) ≡ 1 → ⊥)
    → Elsewhere n row i
unfolding keep
elsewhere n [] i h e c = absurd (omega arith)
elsewhere n (x ∷ xs) zero h e c =
    further (keep (eqb n) xs) refl (subst (λ (b : Bool). length (cond b (x ∷ keep (eqb n) xs) (keep (eqb n) xs)) ≡ 1
    → ⊥) (T→true (eqb n x) (subst (λ (k : ℕ). T (eqb n k)) (sym e) (eqb_refl n))) c)
  where
    further : (ys : List ℕ) → keep (eqb n) xs ≡ ys → (suc (length (keep (eqb n) xs)) ≡ 1 → ⊥)
        → Elsewhere n (x ∷ xs) zero
    further [] q k = absurd (k (ap (λ (l : List ℕ). suc (length l)) q))
    further (y ∷ ys) q k =
        let m : Memᴰ y (keep (eqb n) xs) = subst (λ (l : List ℕ). Memᴰ y l) (sym q) (mathlib.Core.List.Memᴰ.head refl) in
        let found = keep-member (eqb n) xs m in
        let r = member-at found.0 in
        let below = r.1 in
        record {
          place = suc r.0;
          in_row = omega arith;
          other = λ z. absurd (omega arith);
          same = r.2
              ∙ sym (eqb→eq n y found.1);
        }
elsewhere n (x ∷ xs) (suc i) h e c = ⊎_elim here (λ q. there (elsewhere n xs i (omega arith) e (fewer q))) (equal? n x)
  where
    here : n ≡ x → Elsewhere n (x ∷ xs) (suc i)
    here q = record { place = 0; in_row = omega arith; other = λ z. absurd (omega arith); same = sym q }

    fewer : (n ≡ x → ⊥) → length (keep (eqb n) xs) ≡ 1 → ⊥
    fewer q =
        subst (λ (b : Bool). length (cond b (x ∷ keep (eqb n) xs) (keep (eqb n) xs)) ≡ 1 → ⊥)
        (fails→false (eqb n x) (λ t. q (eqb→eq n x t))) c

    there : Elsewhere n xs i → Elsewhere n (x ∷ xs) (suc i)
    there r =
        let below = r.in_row in
        let apart = r.other in
        record { place = suc r.place; in_row = omega arith; other = omega arith; same = r.same }

-- a list with a member is not empty
pub member-some : {x : ℕ} {xs : List ℕ} → Memᴰ x xs → 0 < length xs
member-some (mathlib.Core.List.Memᴰ.head e) = omega arith
member-some (mathlib.Core.List.Memᴰ.tail m) = omega arith

-- and one that is not empty has its first member
pub first_member : (xs : List ℕ) → 0 < length xs → Memᴰ (head_or 0 xs) xs
unfolding head_or
first_member [] h = absurd (omega arith)
first_member (x ∷ xs) h = mathlib.Core.List.Memᴰ.head refl

-- a number that stands in the row is counted
pub member-counted : {n : ℕ} {row : List ℕ} → Memᴰ n row → 0 < length (keep (eqb n) row)
member-counted {n} {row} m = member-some (kept (eqb n) m (eqb_refl n))

-- n stands just once: so it stands in no other place
pub just-once : (n : ℕ) (row : List ℕ) (i j : ℕ) → i < length row → j < length row → get_or row i 0 ≡ n
    → get_or row j 0 ≡ n → length (keep (eqb n) row) ≡ 1 → i ≡ j
unfolding keep
just-once n [] i j h k e f c = absurd (omega arith)
just-once n (x ∷ xs) i j h k e f c = ⊎_elim here (there (λ a b. just-once n xs a b)) (equal? n x)
  where
    -- where n stands first, none is left behind it
    none-behind : n ≡ x → (l : ℕ) → l < length (x ∷ xs) → get_or (x ∷ xs) l 0 ≡ n → l ≡ 0
    none-behind q zero b g = refl
    none-behind q (suc l) b g =
        let alone = subst (λ (t : Bool). length (cond t (x ∷ keep (eqb n) xs) (keep (eqb n) xs)) ≡ 1)
        (T→true (eqb n x) (eq→T n x q)) c in
        let behind = member-counted (mathlib.Core.List.Memᴰ.cast (sym g) (get_or-member xs l (omega arith))) in
        absurd (omega arith)

    here : n ≡ x → i ≡ j
    here q = none-behind q i h e ∙ sym (none-behind q j k f)

    fewer : (n ≡ x → ⊥) → length (keep (eqb n) xs) ≡ 1
    fewer q =
        subst (λ (t : Bool). length (cond t (x ∷ keep (eqb n) xs) (keep (eqb n) xs)) ≡ 1)
        (fails→false (eqb n x) (λ t. q (eqb→eq n x t))) c

    there : ((a b : ℕ) → a < length xs → b < length xs → get_or xs a 0 ≡ n → get_or xs b 0 ≡ n
        → length (keep (eqb n) xs) ≡ 1 → a ≡ b) → (n ≡ x → ⊥) → i ≡ j
    there rest q = behind i j h k e f
      where
        behind : (i j : ℕ) → i < length (x ∷ xs) → j < length (x ∷ xs) → get_or (x ∷ xs) i 0 ≡ n
            → get_or (x ∷ xs) j 0 ≡ n → i ≡ j
        behind zero j h k e f = absurd (q (sym e))
        behind (suc i) zero h k e f = absurd (q (sym f))
        behind (suc i) (suc j) h k e f =
            ap suc (rest i j (omega arith) (omega arith) e f (fewer q))

-- a list rises exactly if each number stands below its neighbour
pub neighbours→rising : (xs : List ℕ) → ((i : ℕ) → suc i < length xs → get_or xs i 0 < get_or xs (suc i) 0) → Rising xs
unfolding Rising head_or
neighbours→rising [] h = tt
neighbours→rising (x ∷ []) h = (λ y m. absurd (mathlib.Core.List.Memᴰ.not-nil m), tt)
neighbours→rising (x ∷ (z ∷ zs)) h =
    let rest = neighbours→rising (z ∷ zs) (λ i l. h (suc i) (omega arith)) in
    let next = h 0 (omega arith) in
    (λ y m. let l = head-least (z ∷ zs) 0 rest m in omega arith, rest)

pub rising→neighbours : (xs : List ℕ) → Rising xs → (i : ℕ) → suc i < length xs → get_or xs i 0 < get_or xs (suc i) 0
unfolding Rising
rising→neighbours [] r i l = absurd (omega arith)
rising→neighbours (x ∷ xs) r zero l = r.0 (get_or xs 0 0) (get_or-member xs 0 (omega arith))
rising→neighbours (x ∷ xs) r (suc i) l = rising→neighbours xs r.1 i (omega arith)

-- a rising list repeats nothing
pub rising-distinct : (xs : List ℕ) → Rising xs → Distinct xs
unfolding Rising Distinct
rising-distinct [] r = tt
rising-distinct (x ∷ xs) r = distinct_cons x xs (λ m. let h = r.0 x m in omega arith) (rising-distinct xs r.1)
