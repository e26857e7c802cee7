-- Each element alone, and each number made the root of its element, in rising order: a parent comes before its child.
use Rattle.std.specs.Prelude.{ℕ, ◌≤◌, ◌<◌, ◌≡◌, List, length, get_or}
use Rattle.std.proofs.Common.{arith, ◌∙◌, map-id, ⊎_elim}
use Rattle.std.proofs.Math.Path.{sym, ap}
use Rattle.lists.specs.Lists.{from}
use Rattle.lists.specs.Tests.{equal?}
use Rattle.lists.specs.Arrays.{numbered-at}
use Rattle.lists.specs.Fronts.{FrontIs}
use Rattle.classes.specs.Halves.{half, low_half, low_same}
use Rattle.classes.specs.Forest.{parent_of, Forest, root_of}
use Rattle.classes.specs.ForestLaws.{root_below, own_root, root-parent}

module _ (s₀ : List ℕ) (f : Forest s₀) (i : ℕ) (s : List ℕ) (h : FrontIs (root_of s₀) s₀ i s) (l : i < length s₀) where
  same-parent : parent_of s i ≡ parent_of s₀ i
  unfolding parent_of
  same-parent = ap low_half (h.rest i (omega arith))

  pub flat_up : parent_of s i ≤ i
  flat_up = let e = same-parent in let r = f.rising i l in omega arith

  above : (up : ℕ) → up ≡ parent_of s₀ i → (up ≡ i → ⊥) → low_half (get_or s up 0) ≡ root_of s₀ i
  above up e n =
      let r = f.rising i l in
      let small = f.small in
      let b = root_below s₀ f up (omega arith) in
      ap low_half (h.front up (omega arith)) ∙ low_same (root_of s₀ up) (omega arith) ∙ ap (root_of s₀) e
      ∙ sym (root-parent s₀ f i l)

  here : parent_of s₀ i ≡ i → low_half (get_or s i 0) ≡ root_of s₀ i
  unfolding parent_of
  here e = ap low_half (h.rest i (omega arith)) ∙ e ∙ sym (own_root s₀ f i e)

  -- the low half of the parent's number is the root
  pub flat-root : (up : ℕ) → up ≡ parent_of s i → low_half (get_or s up 0) ≡ root_of s₀ i
  flat-root up e =
      let q = e ∙ same-parent in
      ⊎_elim (λ (k : up ≡ i). ap (λ (j : ℕ). low_half (get_or s j 0)) k ∙ here (sym q ∙ k)) (above up q) (equal? up i)

-- in a forest of elements each alone every element is its own root
pub alone-forest : (n : ℕ) (s : List ℕ) → n ≤ half → length s ≡ n → s ≡ from 0 n → Forest s × ((i : ℕ) → i < n
    → root_of s i ≡ i)
unfolding parent_of
alone-forest n s small size e =
    let forest : Forest s = record {
      small = omega arith;
      rising = λ i l. let q = own i (omega arith) in omega arith;
    } in
    (forest, λ i l. own_root s forest i (own i l))
  where
    own : (i : ℕ) → i < n → parent_of s i ≡ i
    own i l =
        ap low_half (numbered-at (λ j. j) n (e ∙ sym (map-id (from 0 n))) i l) ∙ low_same i (omega arith)
