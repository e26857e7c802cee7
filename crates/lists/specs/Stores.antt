-- Runs of stores: one run behind another is one run, whichever is stored first, a run from the front fills it, and one
-- behind the front lengthens it.
use Rattle.std.specs.Prelude.{ℕ, suc, ◌+◌, ◌≤◌, ◌<◌, ◌≡◌, refl, List, [], ◌∷◌, ◌++◌, length, get_or, set, take, drop}
use Rattle.std.proofs.Common.{arith, sym, ◌∙◌, ap, length-append, take_at, take-suc, length-take-le}
use Rattle.std.proofs.lemmas.List.Edits.{sets, sets-eq}
use Rattle.std.proofs.lemmas.List.{set_comm}
use Rattle.lists.specs.Lists.{overlay}

module _ {A : Type 0} where
  pub sets-append : (b : List A) (i : ℕ) (xs ys : List A) → sets (sets b i xs) (i + length xs) ys ≡ sets b i (xs ++ ys)
  sets-append b i [] ys = ap (λ (k : ℕ). sets b k ys) (omega arith)
  sets-append b i (x ∷ xs) ys =
      ap (λ (k : ℕ). sets (sets (set b i x) (suc i) xs) k ys) (omega arith) ∙ sets-append (set b i x) (suc i) xs ys

  -- a loop that stores a list from the front: one store more is a run of one more
  pub sets-take : (b : List A) (i : ℕ) (xs : List A) (k : ℕ) (d : A) → k < length xs
      → set (sets b i (take k xs)) (i + k) (get_or xs k d) ≡ sets b i (take (suc k) xs)
  sets-take b i xs k d h =
      let long : length (take k xs) ≡ k = length-take-le k xs (omega arith) in
      ap (λ (n : ℕ). set (sets b i (take k xs)) (i + n) (get_or xs k d)) (sym long)
      ∙ (sets-append b i (take k xs) (get_or xs k d ∷ []) ∙ ap (sets b i) (sym (take-suc xs k d h)))

  -- the front of a list after a run is stored behind it
  pub front-more : (b : List A) (i : ℕ) (xs : List A) → i + length xs ≤ length b
      → take (i + length xs) (sets b i xs) ≡ take i b ++ xs
  front-more b i xs h =
      let long = length-append (take i b) xs in
      let front : length (take i b) ≡ i = length-take-le i b (omega arith) in
      ap (take (i + length xs)) (sets-eq xs b i h)
      ∙ take_at (take i b ++ xs) (drop (i + length xs) b) (i + length xs) (omega arith)

  -- a store in a place before a run may come first
  set_first : (b : List A) (i j : ℕ) (x : A) (ys : List A) → i < j → set (sets b j ys) i x ≡ sets (set b i x) j ys
  set_first b i j x [] h = refl
  set_first b i j x (y ∷ ys) h =
      set_first (set b j y) i (suc j) x ys (omega arith)
      ∙ ap (λ (l : List A). sets l (suc j) ys) (set_comm b j i y x (omega arith))

  sets_first : (b : List A) (i j : ℕ) (xs ys : List A) → i + length xs ≤ j
      → sets (sets b j ys) i xs ≡ sets (sets b i xs) j ys
  sets_first b i j [] ys h = refl
  sets_first b i j (x ∷ xs) ys h =
      ap (λ (l : List A). sets l (suc i) xs) (set_first b i j x ys (omega arith))
      ∙ sets_first (set b i x) (suc i) j xs ys (omega arith)

  -- the front of a run stored last
  pub sets-front-last : (b : List A) (i : ℕ) (xs ys : List A)
      → sets (sets b (i + length xs) ys) i xs ≡ sets b i (xs ++ ys)
  sets-front-last b i xs ys = sets_first b i (i + length xs) xs ys (omega arith) ∙ sets-append b i xs ys

  pub sets-overlay : (b zs : List A) → length zs ≤ length b → sets b 0 zs ≡ overlay zs b
  sets-overlay b zs h =
      let e : 0 + length zs ≡ length zs = omega arith in sets-eq zs b 0 (omega arith) ∙ ap (λ (k : ℕ). zs ++ drop k b) e
