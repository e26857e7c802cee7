-- Numbers raised: different ones stay different, 0 stays 0, and every other is above what it is raised by.
use Rattle.std.specs.Prelude.{ℕ, ◌+◌, ◌≤◌, ◌<◌, ◌≡◌, refl, List, [], ◌∷◌, ◌++◌, map, length, eqb}
use Rattle.std.proofs.Common.{arith, sym, ◌∙◌, ap, ap₂, subst, ⊎_elim, length-append, eqb→eq, ne_eqb}
use Rattle.std.proofs.lemmas.List.{length-map}
use Rattle.std.proofs.lemmas.List.Edits.{sets}
use Rattle.lists.specs.Lists.{overlay}
use Rattle.lists.specs.Tests.{same_test, eq→T, equal?}
use Rattle.lists.specs.Stores.{sets-append, sets-overlay}
use Rattle.panel.specs.Joined.{raised}

pub raised-zero : (by : ℕ) → raised by 0 ≡ 0
unfolding raised
raised-zero by = refl

pub raised-some : (by n : ℕ) → 0 < n → raised by n ≡ by + n
unfolding raised
raised-some by n h = rw (ne_eqb n 0 (λ e. omega arith)) refl

-- a number that is raised is 0, or above what it was raised by
pub data RaisedTo (by n : ℕ) : ℕ → Type 0 where
  none : n ≡ 0 → RaisedTo by n 0
  some : 0 < n → RaisedTo by n (by + n)

pub raised-to : (by n : ℕ) → RaisedTo by n (raised by n)
raised-to by n =
    ⊎_elim (λ e. subst (RaisedTo by n) (sym (ap (raised by) e ∙ raised-zero by)) (none e))
    (λ h. let positive : 0 < n = omega (arith, h) in
    subst (RaisedTo by n) (sym (raised-some by n positive)) (some positive)) (equal? n 0)

pub raised-above : (by n : ℕ) → 0 < raised by n → (by < raised by n) × (0 < n)
raised-above by n = go (raised by n) (raised-to by n)
  where
    go : (r : ℕ) → RaisedTo by n r → 0 < r → (by < r) × (0 < n)
    go r (none e) h = absurd (omega arith)
    go r (some p) h = (omega arith, p)

pub raised-apart : (by m n : ℕ) → raised by m ≡ raised by n → m ≡ n
raised-apart by m n = go (raised by m) (raised by n) (raised-to by m) (raised-to by n)
  where
    go : (r s : ℕ) → RaisedTo by m r → RaisedTo by n s → r ≡ s → m ≡ n
    go r s (none e) (none f) q = e ∙ sym f
    go r s (none e) (some p) q = absurd (omega arith)
    go r s (some p) (none f) q = absurd (omega arith)
    go r s (some p) (some k) q = omega arith

-- so tests for equality stay
pub raised-test : (by m n : ℕ) → eqb (raised by m) (raised by n) ≡ eqb m n
raised-test by m n =
    same_test (eqb (raised by m) (raised by n)) (eqb m n)
    (λ t. eq→T m n (raised-apart by m n (eqb→eq (raised by m) (raised by n) t)))
    (λ t. eq→T (raised by m) (raised by n) (ap (raised by) (eqb→eq m n t)))

pub raised-by-none : (row : List ℕ) → map (raised 0) row ≡ row
raised-by-none [] = refl
raised-by-none (n ∷ row) = ap₂ {C = List ℕ} ◌∷◌ (same (raised 0 n) (raised-to 0 n)) (raised-by-none row)
  where
    same : (r : ℕ) → RaisedTo 0 n r → r ≡ n
    same r (none e) = sym e
    same r (some p) = omega arith

pub raised-twice : (a b n : ℕ) → raised a (raised b n) ≡ raised (a + b) n
raised-twice a b n = go (raised b n) (raised-to b n)
  where
    go : (r : ℕ) → RaisedTo b n r → raised a r ≡ raised (a + b) n
    go r (none e) = raised-zero a ∙ sym (ap (raised (a + b)) e ∙ raised-zero (a + b))
    go r (some p) =
        let inner : 0 < b + n = omega arith in
        raised-some a (b + n) inner ∙ (omega arith ∙ sym (raised-some (a + b) n p))

-- two rows stored one behind the other, the first as it is
pub two-rows : (by : ℕ) (to xs ys : List ℕ) → length xs + length ys ≤ length to
    → sets (sets to 0 (map (raised 0) xs)) (length xs) (map (raised by) ys) ≡ overlay (xs ++ map (raised by) ys) to
two-rows by to xs ys fits =
    let here : length xs ≡ 0 + length xs = omega arith in
    let long = length-append xs (map (raised by) ys) in
    let raised_long = length-map ys (raised by) in
    ap (λ (l : List ℕ). sets (sets to 0 l) (length xs) (map (raised by) ys)) (raised-by-none xs)
    ∙ (ap (λ (k : ℕ). sets (sets to 0 xs) k (map (raised by) ys)) here
    ∙ (sets-append to 0 xs (map (raised by) ys) ∙ sets-overlay to (xs ++ map (raised by) ys) (omega arith)))
