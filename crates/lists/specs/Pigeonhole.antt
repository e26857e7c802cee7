-- Pigeonhole: different numbers that all stand in a list are no more than its members.
use Prim.Native.Nat.{ℕ, suc, ◌≤◌, ◌<◌}
use native.Mathlib.Omega.{arith}
use Rattle.std.specs.Prelude.{◌≡◌, Bool, cond, not, eqb}
use Rattle.std.proofs.Math.Path.{refl, ap, subst}
use Rattle.std.proofs.Common.{sym, map-id, eqb→eq}
use mathlib.Core.List.Memᴰ
use mathlib.Core.List.{List, [], ◌∷◌, ◌++◌, map, Memᴰ}
use Rattle.std.proofs.Math.Logic.{⊎_elim}
use Rattle.std.proofs.Math.Bool.{true, false}
use Rattle.std.proofs.Math.ListN.{length}
use Rattle.std.proofs.Math.Dec.{eqb_refl}
use Rattle.lists.specs.Lists.{keep, is_in, Distinct}
use Rattle.lists.specs.Tests.{T→true, false→fails, fails→false, not-passes, passes?}
use Rattle.lists.specs.Members.{keep-member, kept, is_in→member, member→is_in}

-- `Distinct` at a cons: its head is none of the rest
pub distinct_head : (x : ℕ) (xs : List ℕ) → Distinct (x ∷ xs) → Memᴰ x xs → ⊥
unfolding Distinct
distinct_head x xs d m = false→fails (is_in x xs) d.0 (member→is_in m)

pub distinct_tail : (x : ℕ) (xs : List ℕ) → Distinct (x ∷ xs) → Distinct xs
unfolding Distinct
distinct_tail x xs d = d.1

pub distinct_cons : (x : ℕ) (xs : List ℕ) → (Memᴰ x xs → ⊥) → Distinct xs → Distinct (x ∷ xs)
unfolding Distinct
distinct_cons x xs h d = (fails→false (is_in x xs) (λ t. h (is_in→member x xs t)), d)

-- lists put end to end repeat nothing if none does and they have no member in common; what is kept of a list that
-- repeats nothing repeats nothing
pub append-distinct : (xs ys : List ℕ) → Distinct xs → Distinct ys
    → ((n : ℕ) → Memᴰ n xs → Memᴰ n ys → ⊥) → Distinct (xs ++ ys)
append-distinct [] ys d e h = e
append-distinct (x ∷ xs) ys d e h =
    distinct_cons x (xs ++ ys) (λ m. ⊎_elim (distinct_head x xs d) (h x (Memᴰ.head refl))
    (Memᴰ.append_cases xs m))
    (append-distinct xs ys (distinct_tail x xs d) e (λ n m. h n (Memᴰ.tail m)))

-- of two lists put end to end that repeat nothing neither does, and they have no member in common
record Apart (xs ys : List ℕ) : Type 0 where
  left : Distinct xs
  right : Distinct ys
  apart : (n : ℕ) → Memᴰ n xs → Memᴰ n ys → ⊥

distinct→apart : (xs ys : List ℕ) → Distinct (xs ++ ys) → Apart xs ys
unfolding Distinct
distinct→apart [] ys d = record { left = tt; right = d; apart = λ n m k. Memᴰ.not-nil m }
distinct→apart (x ∷ xs) ys d =
    let r = distinct→apart xs ys (distinct_tail x (xs ++ ys) d) in
    let out = distinct_head x (xs ++ ys) d in
    record {
      left = distinct_cons x xs (λ m. out (Memᴰ.append_left ys m)) r.left;
      right = r.right;
      apart = λ n m k. ⊎_elim (λ e. out (Memᴰ.append_right xs (Memᴰ.cast (sym e) k))) (λ t. r.apart n t k)
          (Memᴰ.cases_cons m);
    }

-- put end to end the other way round they repeat nothing either
pub distinct-swap : (xs ys : List ℕ) → Distinct (xs ++ ys) → Distinct (ys ++ xs)
distinct-swap xs ys d =
    let r = distinct→apart xs ys d in append-distinct ys xs r.right r.left (λ n m k. r.apart n k m)

-- members that are kept have different numbers if all the members do
pub kept-distinct : {A : Type 0} (f : A → Bool) (g : A → ℕ) (xs : List A) → Distinct (map g xs)
    → Distinct (map g (keep f xs))
unfolding keep
kept-distinct f g [] d = d
kept-distinct f g (x ∷ xs) d = go (f x) (kept-distinct f g xs (distinct_tail (g x) (map g xs) d))
  where
    go : (b : Bool) → Distinct (map g (keep f xs)) → Distinct (map g (cond b (x ∷ keep f xs) (keep f xs)))
    go true e =
        distinct_cons (g x) (map g (keep f xs)) (λ m. let r = Memᴰ.of_map g (keep f xs) m in
        distinct_head (g x) (map g xs) d (Memᴰ.cast (sym r.2) (Memᴰ.map g (keep-member f xs r.1).0))) e
    go false e = e

pub keep-distinct : (f : ℕ → Bool) (xs : List ℕ) → Distinct xs → Distinct (keep f xs)
keep-distinct f xs d = rw map-id at (kept-distinct f (λ n. n) xs (rw map-id d))

pub distinct_snoc : (xs : List ℕ) (x : ℕ) → (Memᴰ x xs → ⊥) → Distinct xs → Distinct (xs ++ (x ∷ []))
unfolding Distinct
distinct_snoc xs x h d =
    append-distinct xs (x ∷ []) d (distinct_cons x [] Memᴰ.not-nil tt)
    (λ n m k. h (Memᴰ.cast (sym (Memᴰ.eq_of_singleton k)) m))

module _ {A : Type 0} (f : A → Bool) where
  pub length-keep : (xs : List A) → length (keep f xs) ≤ length xs
  unfolding keep
  length-keep [] = omega arith
  length-keep (x ∷ xs) = go (f x) (length-keep xs)
    where
      go : (b : Bool) → length (keep f xs) ≤ length xs → length (cond b (x ∷ keep f xs) (keep f xs)) ≤ suc (length xs)
      go true h = omega arith
      go false h = omega arith

  pub length-keep-less : {x : A} {xs : List A} → Memᴰ x xs → f x ≡ false → length (keep f xs) < length xs
  unfolding keep
  length-keep-less {x = x} {xs = []} x6 h = elim x6 [ ]
  length-keep-less {x = x} {xs = y ∷ ys} (Memᴰ.head e) h =
      rw (subst (λ (z : A). f z ≡ false) e h) (let l = length-keep ys in omega arith)
  length-keep-less {x = x} {xs = y ∷ ys} (Memᴰ.tail m) h = go (f y) (length-keep-less m h)
    where
      go : (b : Bool) → length (keep f ys) < length ys → length (cond b (y ∷ keep f ys) (keep f ys)) < suc (length ys)
      go true k = omega arith
      go false k = omega arith

pub pigeonhole : (xs ys : List ℕ) → Distinct xs → ((x : ℕ) → Memᴰ x xs → Memᴰ x ys) → length xs ≤ length ys
pigeonhole [] ys d h = omega arith
pigeonhole (x ∷ xs) ys d h =
    let others : (y : ℕ) → Bool = λ y. not (eqb x y) in
    let rest = pigeonhole xs (keep others ys) (distinct_tail x xs d)
    (λ z m. kept others (h z (Memᴰ.tail m)) (not-passes (eqb x z)
    (λ t. distinct_head x xs d (subst (λ (k : ℕ). Memᴰ k xs) (sym (eqb→eq x z t)) m)))) in
    let fewer = length-keep-less others (h x (Memᴰ.head refl)) (ap not (T→true (eqb x x) (eqb_refl x))) in
    omega arith

-- so two lists with the same members, of which neither repeats any, have the same length
pub same_length : (xs ys : List ℕ) → Distinct xs → Distinct ys → ((x : ℕ) → Memᴰ x xs → Memᴰ x ys)
    → ((y : ℕ) → Memᴰ y ys → Memᴰ y xs) → length xs ≡ length ys
same_length xs ys d e h k = omega (arith, pigeonhole xs ys d h, pigeonhole ys xs e k)

-- a list that repeats nothing and has as many members as another of which all are members has all of them
pub same-members : (xs ys : List ℕ) → Distinct xs → ((x : ℕ) → Memᴰ x xs → Memᴰ x ys)
    → length ys ≤ length xs → (y : ℕ) → Memᴰ y ys → Memᴰ y xs
same-members xs ys d h long y m =
    ⊎_elim (is_in→member y xs) (λ out. absurd (let p = pigeonhole (y ∷ xs) ys
    (distinct_cons y xs (λ k. out (member→is_in k)) d)
    (λ x k. ⊎_elim (λ e. Memᴰ.cast e m) (h x) (Memᴰ.cases_cons k)) in omega arith)) (passes? (is_in y xs))

-- R gives each of the numbers a number of ys, and gives none to two of them
pub record Assigned (R : ℕ → ℕ → Type 0) (ns ys : List ℕ) : Type 0 where
  pub gives : (n : ℕ) → Memᴰ n ns → (y : ℕ) × R n y × Memᴰ y ys
  pub apart : (m n y : ℕ) → R m y → R n y → m ≡ n

-- the numbers that R gives to the numbers of ms
record Picked (R : ℕ → ℕ → Type 0) (ms ys : List ℕ) : Type 0 where
  picks : List ℕ
  counted : length picks ≡ length ms
  different : Distinct picks
  inside : (y : ℕ) → Memᴰ y picks → Memᴰ y ys
  owned : (y : ℕ) → Memᴰ y picks → (m : ℕ) × Memᴰ m ms × R m y

module _ (R : ℕ → ℕ → Type 0) (ns ys : List ℕ) (a : Assigned R ns ys) where
  picked : (ms : List ℕ) → Distinct ms → ((n : ℕ) → Memᴰ n ms → Memᴰ n ns) → Picked R ms ys
  unfolding Distinct
  picked [] d h =
      record {
        picks = [];
        counted = refl;
        different = tt;
        inside = λ y m. absurd (Memᴰ.not-nil m);
        owned = λ y m. absurd (Memᴰ.not-nil m);
      }
  picked (m ∷ ms) d h =
      one_more (picked ms (distinct_tail m ms d) (λ n k. h n (Memᴰ.tail k)))
      (a.gives m (h m (Memᴰ.head refl)))
    where
      one_more : Picked R ms ys → (y : ℕ) × R m y × Memᴰ y ys → Picked R (m ∷ ms) ys
      one_more r g =
          let y = g.0 in
          record {
            picks = y ∷ r.picks;
            counted = ap suc r.counted;
            different = distinct_cons y r.picks (λ k. let o = r.owned y k in
                distinct_head m ms d (Memᴰ.cast (a.apart m o.0 y g.1 o.2) o.1)) r.different;
            inside = λ z k. ⊎_elim (λ e. Memᴰ.cast e g.2) (r.inside z) (Memᴰ.cases_cons k);
            owned = λ z k. ⊎_elim (λ e. (m, Memᴰ.head refl, subst (λ (w : ℕ). R m w) (sym e) g.1))
                (λ t. let o = r.owned z t in (o.0, Memᴰ.tail o.1, o.2)) (Memᴰ.cases_cons k);
          }

  -- so the numbers are no more than the members of ys
  pub injection : Distinct ns → length ns ≤ length ys
  injection d =
      let r = picked ns d (λ n m. m) in let e = r.counted in
      let p = pigeonhole r.picks ys r.different r.inside in omega arith
