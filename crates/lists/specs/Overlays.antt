-- A buffer whose front is filled number by number: what one more store makes of it, and what its front then holds.
use Rattle.std.specs.Prelude.{ℕ, zero, suc, ◌+◌, ◌≤◌, ◌<◌, ◌≡◌, refl, List, [], ◌∷◌, ◌++◌, length, get_or, take, drop, set}
use Rattle.std.proofs.Common.{arith, add-one, sym, ◌∙◌, ap, length-take, take_all}
use Rattle.std.proofs.Math.Seq.{take-nil, take-append_seam, drop-append_seam}
use Rattle.lists.specs.Lists.{overlay}

module _ {A : Type 0} where
  overlay-snoc : (buffer xs : List A) (x : A) → overlay (take (length buffer) (xs ++ (x ∷ []))) buffer ≡ set
      (overlay (take (length buffer) xs) buffer) (length xs) x
  overlay-snoc [] xs x = refl
  overlay-snoc (b ∷ bs) [] x = rw (take-nil {A = A} (length bs))
  overlay-snoc (b ∷ bs) (y ∷ ys) x = ap {B = List A} (λ r. y ∷ r) (overlay-snoc bs ys x)

  -- what is stored one by one, as far as the buffer reaches; a store past its end changes nothing
  pub stored_next : (buffer xs : List A) (x : A) (m : ℕ) {filled : List A} → length buffer ≡ m
      → filled ≡ overlay (take m xs) buffer → set filled (length xs) x ≡ overlay (take m (xs ++ (x ∷ []))) buffer
  stored_next buffer xs x m e h = rw (h, ← e) (sym (overlay-snoc buffer xs x))

  -- one more stored behind the front
  pub overlay-push : (front buffer : List A) (x : A) → length front < length buffer
      → set (overlay front buffer) (length front) x ≡ overlay (front ++ (x ∷ [])) buffer
  overlay-push [] [] x h = absurd (omega arith)
  overlay-push [] (b ∷ bs) x h = refl
  overlay-push (y ∷ ys) [] x h = absurd (omega arith)
  overlay-push (y ∷ ys) (b ∷ bs) x h = ap {B = List A} (λ r. y ∷ r) (overlay-push ys bs x (omega arith))

  -- a row copied place by place: one more place, and all of them
  pub overlay-next : (row buffer : List A) (i : ℕ) (d : A) → i < length row → i < length buffer
      → set (overlay (take i row) buffer) i (get_or row i d) ≡ overlay (take (suc i) row) buffer
  overlay-next [] buffer i d h k = absurd (omega arith)
  overlay-next (x ∷ xs) [] i d h k = absurd (omega arith)
  overlay-next (x ∷ xs) (b ∷ bs) zero d h k = refl
  overlay-next (x ∷ xs) (b ∷ bs) (suc i) d h k =
      ap {B = List A} (λ r. x ∷ r) (overlay-next xs bs i d (omega arith) (omega arith))

  pub copied_next : (row buffer : List A) {filled : List A} (i : ℕ) (d : A) → i < length row
      → length row ≤ length buffer → filled ≡ overlay (take i row) buffer
      → set filled i (get_or row i d) ≡ overlay (take (i + 1) row) buffer
  copied_next row buffer i d h k e = rw (e, add-one) (overlay-next row buffer i d h (omega arith))

  pub copied-whole : (row buffer : List A) {filled : List A} (i : ℕ) → length row ≤ i
      → filled ≡ overlay (take i row) buffer → filled ≡ overlay row buffer
  copied-whole row buffer i h e = e ∙ ap (λ (l : List A). overlay l buffer) (take_all i row h)

  pub length-overlay : (front buffer : List A) → length front ≤ length buffer
      → length (overlay front buffer) ≡ length buffer
  length-overlay [] buffer h = refl
  length-overlay (x ∷ xs) [] h = absurd (omega arith)
  length-overlay (x ∷ xs) (b ∷ bs) h = ap suc (length-overlay xs bs (omega arith))

  pub length-overlay-take : (row buffer : List A) (i : ℕ) → i ≤ length buffer
      → length (overlay (take i row) buffer) ≡ length buffer
  length-overlay-take row buffer i h = length-overlay (take i row) buffer (simp length-take (omega arith))

  -- the front that was filled
  pub overlay-front : (front buffer : List A) → take (length front) (overlay front buffer) ≡ front
  overlay-front front buffer = take-append_seam front (drop (length front) buffer)

  pub front_of : (front buffer : List A) {filled : List A} {n : ℕ} → n ≡ length front → filled ≡ overlay front buffer
      → take n filled ≡ front
  front_of front buffer e h = rw (e, h) (overlay-front front buffer)

  -- another front of the same length
  pub front-again : (front front' buffer : List A) {made filled : List A} {n : ℕ} → made ≡ front' → n ≡ length front
      → filled ≡ overlay front buffer → length front' ≡ length front → made ++ drop n filled ≡ overlay front' buffer
  front-again front front' buffer m e h same =
      rw (m, e, h, same) (ap (λ (l : List A). front' ++ l) (drop-append_seam front (drop (length front) buffer)))
