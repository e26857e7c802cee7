-- SCOPE, "Filling tracks": the ring shown where the fill is stuck.
use Rattle.std.specs.Prelude.{ℕ, zero, suc, List, [], ◌∷◌, ◌++◌, cond, length, eqb}
use Rattle.lists.specs.Lists.{keep, each, is_in, head_or, least}
use Rattle.channel.specs.Constraints.{Drop, Step, nets_of}
use Rattle.leftedge.specs.Items.{Items}

-- "down through its lowest column that has an unplaced net below"
unfoldable pub first_drop : Items → List ℕ → ℕ → Drop
first_drop it left n = head_or (record { column = 0; lower = 0 }) (keep (λ d. is_in d.lower left) (it.drops n))

-- the steps from the first visit of n on
unfoldable pub from_visit : ℕ → List Step → List Step
from_visit n [] = []
from_visit n (s ∷ ss) = let r = from_visit n ss in cond (eqb s.net n) (s ∷ ss) r

-- the walk at item n with this trail behind it; "the ring is the walk from the first visit of the first net met again
-- until it returns"
unfoldable pub walk : ℕ → Items → List ℕ → List Step → ℕ → List Step
walk zero it left trail n = from_visit n trail
walk (suc fuel) it left trail n =
    let d = first_drop it left n in
    let further = walk fuel it left (trail ++ (record { net = n; column = d.column } ∷ [])) d.lower in
    cond (is_in n (nets_of trail)) (from_visit n trail) further

-- "Start at the lowest unplaced net". A walk of as many steps as there are unplaced items has met one twice
unfoldable pub ring_of : Items → List ℕ → List Step
ring_of it left = walk (length left) it left [] (least left)

-- "It is stored as pairs, net and column"
unfoldable pub ring_numbers : List Step → List ℕ
ring_numbers steps = each (λ s. s.net ∷ (s.column ∷ [])) steps
