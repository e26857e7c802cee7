-- Classes of elements that are joined: each element has a mark, and two have the same mark exactly if a chain of
-- touches links them. The elements are added one at a time, so nothing is searched twice.
use Rattle.std.specs.Prelude.{ℕ, suc, List, [], ◌∷◌, ◌++◌, map, Bool, cond}
use Rattle.lists.specs.Lists.{keep, is_in, head_or}

-- an element with the mark of its class
pub record Marked (A : Type 0) : Type 0 where
  pub element : A
  pub mark : ℕ

unfoldable pub marks_of : {A : Type 0} → List (Marked A) → List ℕ
marks_of ms = map (λ m. m.mark) ms

-- the marks of those that x touches
unfoldable pub marks_met : {A : Type 0} → (A → A → Bool) → A → List (Marked A) → List ℕ
marks_met touch x ms = marks_of (keep (λ m. touch m.element x) ms)

-- every class among `met` takes the mark k
unfoldable pub remark : {A : Type 0} → List ℕ → ℕ → List (Marked A) → List (Marked A)
remark met k ms = map (λ m. record { element = m.element; mark = cond (is_in m.mark met) k m.mark }) ms

-- one more element x: it takes the mark of the first element that it touches, or the new mark k, and so does every
-- class that it touches
unfoldable pub add_element : {A : Type 0} → (A → A → Bool) → ℕ → A → List (Marked A) → List (Marked A)
add_element touch k x ms =
    let met = marks_met touch x ms in
    let mark = head_or k met in
    remark met mark ms ++ (record { element = x; mark = mark } ∷ [])

-- the elements are added in order; the new marks are their places, from k on
unfoldable pub classes_from : {A : Type 0} → (A → A → Bool) → ℕ → List A → List (Marked A) → List (Marked A)
classes_from touch k [] ms = ms
classes_from touch k (x ∷ xs) ms = classes_from touch (suc k) xs (add_element touch k x ms)

unfoldable pub classes : {A : Type 0} → (A → A → Bool) → List A → List (Marked A)
classes touch xs = classes_from touch 1 xs []
