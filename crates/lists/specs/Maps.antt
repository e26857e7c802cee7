-- A loop that stores, place by place, what a list is mapped to.
use Rattle.std.specs.Prelude.{ℕ, ◌+◌, ◌≤◌, ◌<◌, ◌≡◌, refl, List, [], ◌∷◌, map, length, get_or, take, set}
use Rattle.std.proofs.Common.{arith, add-one, sym, ◌∙◌, ap, length-set, take-suc, take-suc-set, take_all}
use Rattle.std.proofs.lemmas.List.{map-append}

module _ {A B : Type 0} (f : A → B) (xs : List A) where
  -- the first i places are stored
  pub record MappedTo (i : ℕ) (ys : List B) : Type 0 where
    pub within : i ≤ length xs
    pub long : length ys ≡ length xs
    pub front : take i ys ≡ map f (take i xs)

  pub mapped-none : (ys : List B) → length ys ≡ length xs → MappedTo 0 ys
  mapped-none ys e = record { within = omega arith; long = e; front = refl }

  pub mapped_next : (i : ℕ) (ys : List B) (d : A) → MappedTo i ys → i < length xs
      → MappedTo (i + 1) (set ys i (f (get_or xs i d)))
  mapped_next i ys d m h =
      let inside : i < length ys = let l = m.long in omega arith in
      record {
        within = omega arith;
        long = length-set ys i _ ∙ m.long;
        front =
            rw (add-one, take-suc-set ys i (f (get_or xs i d)) inside, take-suc xs i d h, m.front)
            (sym (map-append f (take i xs) (get_or xs i d ∷ [])));
      }

  pub mapped-whole : (i : ℕ) (ys : List B) → MappedTo i ys → length xs ≤ i → ys ≡ map f xs
  mapped-whole i ys m h =
      let l = m.long in
      sym (take_all i ys (omega arith)) ∙ m.front ∙ ap (map f) (take_all i xs h)
