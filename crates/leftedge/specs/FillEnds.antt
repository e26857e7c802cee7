-- A fill ends in one of two ways.
use Rattle.std.specs.Prelude.{ℕ, ◌≡◌, refl, List, ◌⊎◌}
use Rattle.std.proofs.Common.{inl, inr}
use Rattle.leftedge.specs.Items.{Place}
use Rattle.leftedge.specs.Fill.{Filling, filled, stuck}

pub filled-or-stuck : (f : Filling)
    → ((t : ℕ) × (ps : List Place) × (f ≡ filled t ps)) ⊎ ((left : List ℕ) × (f ≡ stuck left))
filled-or-stuck (filled t ps) = inl (t, ps, refl)
filled-or-stuck (stuck left) = inr (left, refl)
