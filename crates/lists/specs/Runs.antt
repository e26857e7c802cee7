-- What `each` puts end to end: of two lists, and of one member more.
use Rattle.std.specs.Prelude.{ℕ, ◌+◌, ◌<◌, ◌≡◌, length, get_or, take}
use Rattle.std.proofs.Common.{add-one, ◌∙◌}
use Rattle.std.proofs.Math.Path.{refl, sym, ap}
use mathlib.Core.List.{List, [], ◌∷◌, ◌++◌, append_assoc, append-nil}
use Rattle.std.proofs.Math.Seq.{take-suc}
use Rattle.lists.specs.Lists.{each}

module _ {A B : Type 0} (f : A → List B) where
  pub each_append : (xs ys : List A) → each f (xs ++ ys) ≡ each f xs ++ each f ys
  unfolding each
  each_append [] ys = refl
  each_append (x ∷ xs) ys =
      ap (λ (l : List B). f x ++ l) (each_append xs ys) ∙ sym (append_assoc (f x) (each f xs) (each f ys))

  pub each_take : (xs : List A) (k : ℕ) (d : A)
      → k < length xs → each f (take (k + 1) xs) ≡ each f (take k xs) ++ f (get_or xs k d)
  unfolding each
  each_take xs k d h = rw (add-one, take-suc xs k d, each_append, append-nil)
