-- A loop that puts the members of a list that pass a test at the front of a buffer, in order.
use Rattle.std.specs.Prelude.{ℕ, ◌+◌, ◌≤◌, ◌<◌, ◌≡◌, List, [], ◌∷◌, ◌++◌, Bool, true, false, length, get_or, take, set}
use Rattle.std.proofs.Common.{add-one, arith, ◌∙◌, ap, append-nil, length-take, take-suc, take_all}
use Rattle.std.proofs.Math.Path.{refl}
use Rattle.std.proofs.Math.ListN.{length-append}
use Rattle.lists.specs.Lists.{keep, overlay}
use Rattle.lists.specs.Pigeonhole.{length-keep}
use Rattle.lists.specs.Tallies.{keep_append}
use Rattle.lists.specs.Overlays.{overlay-push, length-overlay}

module _ (f : ℕ → Bool) (xs buffer₀ : List ℕ) where
  -- of the first i members those that pass stand at the front, and there are `count` of them
  pub record Collected (i count : ℕ) (buffer : List ℕ) : Type 0 where
    pub inside : i ≤ length xs
    pub counted : count ≡ length (keep f (take i xs))
    pub held : buffer ≡ overlay (keep f (take i xs)) buffer₀

  pub collected-none : Collected 0 0 buffer₀
  unfolding keep
  collected-none = record { inside = omega arith; counted = refl; held = refl }

  module _ (i count : ℕ) (buffer : List ℕ) (c : Collected i count buffer) (more : i < length xs) where
    next : keep f (take (i + 1) xs) ≡ keep f (take i xs) ++ keep f (get_or xs i 0 ∷ [])
    next = rw (add-one, take-suc xs i 0 more) (keep_append f (take i xs) (get_or xs i 0 ∷ []))

    -- there are no more than were looked at
    pub collected-few : count ≤ i
    collected-few =
        let k = length-keep f (take i xs) in let e = c.counted in let l = length-take i xs in omega arith

    pub collected-skips : f (get_or xs i 0) ≡ false → Collected (i + 1) count buffer
    unfolding keep
    collected-skips fails =
        let same : keep f (take (i + 1) xs) ≡ keep f (take i xs) = next ∙ rw fails (append-nil (keep f (take i xs))) in
        record { inside = omega arith; counted = rw same c.counted; held = rw same c.held }

    pub collected-takes : length xs ≤ length buffer₀ → f (get_or xs i 0) ≡ true
        → Collected (i + 1) (count + 1) (set buffer count (get_or xs i 0))
    unfolding keep
    collected-takes room passes =
        let grown : keep f (take (i + 1) xs) ≡ keep f (take i xs) ++ (get_or xs i 0 ∷ []) = next ∙ rw passes in
        let few = collected-few in
        let e = c.counted in
        record {
          inside = omega arith;
          counted = rw (grown, length-append (keep f (take i xs)) (get_or xs i 0 ∷ [])) (omega arith);
          held =
              rw (grown, c.counted, c.held) (overlay-push (keep f (take i xs)) buffer₀ (get_or xs i 0) (omega arith));
        }

  pub collected-long : (i count : ℕ) (buffer : List ℕ) → length xs ≤ length buffer₀ → Collected i count buffer
      → length buffer ≡ length buffer₀
  collected-long i count buffer room c =
      let k = length-keep f (take i xs) in
      let l = length-take i xs in
      ap length c.held ∙ length-overlay (keep f (take i xs)) buffer₀ (omega arith)

  pub collected-all : (i count : ℕ) (buffer : List ℕ) → length xs ≤ i → Collected i count buffer
      → (count ≡ length (keep f xs)) × (buffer ≡ overlay (keep f xs) buffer₀)
  collected-all i count buffer past c =
      let whole = take_all i xs past in (rw whole at c.counted, rw whole at c.held)
