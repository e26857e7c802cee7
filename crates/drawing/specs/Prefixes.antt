-- A test over the numbers 1 to w, as a loop meets it: those below c that pass, which grow by c or stay, and are all
-- once no later one passes.
use Prim.Native.Nat.{ℕ, zero, suc, ◌+◌, ◌-◌, ◌≤◌, ◌<◌}
use native.Mathlib.Omega.{arith}
use Rattle.std.specs.Prelude.{◌≡◌, Bool, true, false, T}
use Rattle.std.proofs.Math.Path.{refl, ap, ap₂}
use Rattle.std.proofs.Common.{sym, ◌∙◌}
use mathlib.Core.List.{List, [], ◌∷◌, ◌++◌, append-nil, Memᴰ}
use Rattle.lists.specs.Lists.{keep, each, from, up_to}
use Rattle.lists.specs.Members.{from_member}
use Rattle.lists.specs.Ranges.{fails→none-kept}
use Rattle.lists.specs.Tallies.{keep_append}

module _ {A B : Type 0} where
  -- two functions that agree on the members
  pub each_same : (f g : A → List B) (xs : List A) → ((x : A) → Memᴰ x xs → f x ≡ g x) → each f xs ≡ each g xs
  unfolding each
  each_same f g [] h = refl
  each_same f g (x ∷ xs) h =
      ap₂ {C = List B} (λ a b. a ++ b) (h x (Memᴰ.head refl)) (each_same f g xs (λ y m. h y (Memᴰ.tail m)))

from-append : (a m n : ℕ) → from a (m + n) ≡ from a m ++ from (a + m) n
unfolding from
from-append a zero n =
    let e : 0 + n ≡ n = omega arith in let d : a ≡ a + 0 = omega arith in ap (from a) e ∙ ap (λ (k : ℕ). from k n) d
from-append a (suc m) n =
    let e : suc m + n ≡ suc (m + n) = omega arith in
    let d : suc a + m ≡ a + suc m = omega arith in
    ap (from a) e ∙ ap (λ (l : List ℕ). a ∷ l) (from-append (suc a) m n ∙ ap (λ (k : ℕ). from (suc a) m ++ from k n) d)

-- those of 1 to c - 1 that pass
unfoldable pub below : (ℕ → Bool) → ℕ → List ℕ
below f c = keep f (up_to (c - 1))

module _ (f : ℕ → Bool) where
  -- 1 to w is what is below c, and then c on
  split_at : (w c : ℕ) → 1 ≤ c → c ≤ w + 1 → keep f (up_to w) ≡ below f c ++ keep f (from c (w + 1 - c))
  unfolding below
  split_at w c h₁ h₂ =
      let whole : w ≡ (c - 1) + (w + 1 - c) = omega arith in
      let next : 1 + (c - 1) ≡ c = omega arith in
      ap (λ (k : ℕ). keep f (up_to k)) whole ∙ ap (keep f) (from-append 1 (c - 1) (w + 1 - c))
      ∙ keep_append f (up_to (c - 1)) (from (1 + (c - 1)) (w + 1 - c))
      ∙ ap (λ (k : ℕ). keep f (up_to (c - 1)) ++ keep f (from k (w + 1 - c))) next

  -- none before c passes
  pub below-start : (c : ℕ) → ((k : ℕ) → 1 ≤ k → k < c → T (f k) → ⊥) → below f c ≡ []
  unfolding below
  below-start c h =
      fails→none-kept f (up_to (c - 1)) (λ k m. let r = from_member 1 (c - 1) m in h k r.0 (omega arith))

  -- none from c on passes
  pub below_end : (w c : ℕ) → 1 ≤ c → c ≤ w + 1 → ((k : ℕ) → c ≤ k → k ≤ w → T (f k) → ⊥) → below f c ≡ keep f (up_to w)
  below_end w c h₁ h₂ h =
      let none = fails→none-kept f (from c (w + 1 - c))
      (λ k m. let r = from_member c (w + 1 - c) m in h k r.0 (omega arith)) in
      sym (append-nil (below f c)) ∙ ap (λ (l : List ℕ). below f c ++ l) (sym none) ∙ sym (split_at w c h₁ h₂)

  kept-head : (c n : ℕ) → f c ≡ true → keep f (from c (suc n)) ≡ c ∷ keep f (from (suc c) n)
  unfolding keep from
  kept-head c n t = rw t

  dropped-head : (c n : ℕ) → f c ≡ false → keep f (from c (suc n)) ≡ keep f (from (suc c) n)
  unfolding keep from
  dropped-head c n t = rw t

  -- c passes: what is below it, c, and the later ones
  pub below-here : (w c : ℕ) → 1 ≤ c → c ≤ w → f c ≡ true
      → keep f (up_to w) ≡ below f c ++ (c ∷ keep f (from (suc c) (w - c)))
  below-here w c h₁ h₂ t =
      let n : w + 1 - c ≡ suc (w - c) = omega arith in
      split_at w c h₁ (omega arith) ∙ ap (λ (k : ℕ). below f c ++ keep f (from c k)) n
      ∙ ap (λ (l : List ℕ). below f c ++ l) (kept-head c (w - c) t)

  pub below_more : (c : ℕ) → 1 ≤ c → f c ≡ true → below f (c + 1) ≡ below f c ++ (c ∷ [])
  unfolding below from keep
  below_more c h t =
      let e : c + 1 - 1 ≡ c = omega arith in
      let z : c - c ≡ 0 = omega arith in
      ap (λ (k : ℕ). keep f (up_to k)) e ∙ below-here c c h (omega arith) t
      ∙ ap (λ (k : ℕ). below f c ++ (c ∷ keep f (from (suc c) k))) z

  pub below-same : (c : ℕ) → 1 ≤ c → f c ≡ false → below f (c + 1) ≡ below f c
  unfolding below from keep
  below-same c h t =
      let e : c + 1 - 1 ≡ c = omega arith in
      let z : c + 1 - c ≡ suc 0 = omega arith in
      ap (λ (k : ℕ). keep f (up_to k)) e ∙ split_at c c h (omega arith)
      ∙ ap (λ (k : ℕ). below f c ++ keep f (from c k)) z ∙ ap (λ (l : List ℕ). below f c ++ l) (dropped-head c 0 t)
      ∙ append-nil (below f c)
