-- A rising list is determined by its members.
use Rattle.std.specs.Prelude.{ℕ, ◌≡◌, refl}
use Rattle.std.proofs.Common.{arith, sym, ap₂, ⊎_elim}
use mathlib.Core.List.Memᴰ
use mathlib.Core.List.{List, [], ◌∷◌, Memᴰ}
use Rattle.lists.specs.Ends.{Rising}

pub rising-unique : (xs ys : List ℕ) → Rising xs → Rising ys → ((n : ℕ) → Memᴰ n xs → Memᴰ n ys)
    → ((n : ℕ) → Memᴰ n ys → Memᴰ n xs) → xs ≡ ys
unfolding Rising
rising-unique [] [] r s h k = refl
rising-unique [] (y ∷ ys) r s h k = absurd (Memᴰ.not-nil (k y (Memᴰ.head refl)))
rising-unique (x ∷ xs) [] r s h k = absurd (Memᴰ.not-nil (h x (Memᴰ.head refl)))
rising-unique (x ∷ xs) (y ∷ ys) r s h k =
    let same : x ≡ y = ⊎_elim (λ e. e) (λ m. let l = s.0 x m in
    ⊎_elim (λ e. sym e) (λ m'. let l' = r.0 y m' in absurd (omega arith))
    (Memᴰ.cases_cons (k y (Memᴰ.head refl)))) (Memᴰ.cases_cons (h x (Memᴰ.head refl))) in
    ap₂ ◌∷◌ same
    (rising-unique xs ys r.1 s.1 (λ n m. ⊎_elim (λ e. let l = r.0 n m in absurd (omega arith)) (λ m'. m')
    (Memᴰ.cases_cons (h n (Memᴰ.tail m))))
    (λ n m. ⊎_elim (λ e. let l = s.0 n m in absurd (omega arith)) (λ m'. m')
    (Memᴰ.cases_cons (k n (Memᴰ.tail m)))))
