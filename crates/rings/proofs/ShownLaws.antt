-- With its parked pins removed a channel has the same steps down, so the ring with the fewest nets is the same.
use Prim.Native.Nat.{ℕ, zero, suc}
use Rattle.std.specs.Prelude.{◌≡◌, length}
use Rattle.std.proofs.Math.Path.{refl, ap, ap₂, fun_ext}
use Rattle.std.proofs.Common.{◌∙◌}
use mathlib.Core.List.{List, ◌∷◌, map}
use Rattle.std.proofs.Math.Dec.{ltb}
use Rattle.lists.specs.Lists.{keep, up_to, head_or}
use Rattle.lists.specs.Tallies.{keep_same}
use Rattle.channel.specs.Channel.{Channel, is_net, nets, highest_net, without_parked}
use Rattle.channel.specs.Constraints.{Drop, below, Step}
use Rattle.channel.proofs.ShownLaws.{net-shown, drops-shown}
use Rattle.rings.specs.Fewest.{leads, returning, fewest, home_drop, homeward, fewest_ring}

module _ (ch : Channel) where
  abbrev shown : Channel
  shown = without_parked ch

  below-shown : below shown ≡ below ch
  below-shown = fun_ext (λ n. ap (map (λ (d : Drop). d.lower)) (drops-shown ch n))

  nets-shown : nets shown ≡ nets ch
  unfolding nets
  nets-shown = keep_same (is_net shown) (is_net ch) (up_to highest_net) (λ n m. net-shown ch n)

  returning-shown : (k : ℕ) → returning shown k ≡ returning ch k
  unfolding returning
  returning-shown k =
      ap₂ (λ (f : ℕ → List ℕ) (ns : List ℕ). keep (λ n. leads f k n n) ns) below-shown nets-shown

  -- the fewest steps that lead back are the same
  pub fewest-shown : fewest shown ≡ fewest ch
  unfolding fewest
  fewest-shown =
      ap₂ (λ (f : ℕ → List ℕ) (ns : List ℕ). head_or 0 (keep (λ k. ltb 0 (length (f k))) (up_to (length ns))))
      (fun_ext returning-shown) nets-shown

  home-drop-shown : (k home n : ℕ) → home_drop shown k home n ≡ home_drop ch k home n
  unfolding home_drop
  home-drop-shown k home n =
      ap₂ (λ (f : ℕ → List ℕ) (ds : List Drop). head_or (record { column = 0; lower = 0 })
      (keep (λ d. leads f k d.lower home) ds)) below-shown (drops-shown ch n)

  homeward-shown : (k home n : ℕ) → homeward shown k home n ≡ homeward ch k home n
  unfolding homeward
  homeward-shown zero home n = refl
  homeward-shown (suc k) home n =
      ap (λ (d : Drop). record { net = n; column = d.column } ∷ homeward shown k home d.lower)
      (home-drop-shown k home n)
      ∙ ap (λ (l : List Step). record { net = n; column = (home_drop ch k home n).column } ∷ l)
      (homeward-shown k home (home_drop ch k home n).lower)

  -- and so is the ring
  pub fewest-ring-shown : fewest_ring shown ≡ fewest_ring ch
  unfolding fewest_ring
  fewest-ring-shown =
      ap₂ (λ (k b : ℕ). homeward shown k b b) fewest-shown
      (ap (λ (k : ℕ). head_or 0 (returning shown k)) fewest-shown
      ∙ ap (head_or 0) (returning-shown (fewest ch)))
      ∙ homeward-shown (fewest ch) (head_or 0 (returning ch (fewest ch))) (head_or 0 (returning ch (fewest ch)))
