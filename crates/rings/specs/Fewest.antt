-- SCOPE, Req 05, "The fewest wires to move": the ring with the fewest nets, as it is worked out. What it is, is said
-- in Promise.
use Rattle.std.specs.Prelude.{ℕ, zero, suc, List, [], ◌∷◌, Bool, length, ltb, eqb}
use Rattle.lists.specs.Lists.{keep, any_of, up_to, head_or}
use Rattle.channel.specs.Channel.{Channel, nets}
use Rattle.channel.specs.Constraints.{Drop, drops, below, Step}

-- k steps down lead from a to z; `under` lists what is directly below each, such as `below ch`
unfoldable pub leads : (ℕ → List ℕ) → ℕ → ℕ → ℕ → Bool
leads under zero a z = eqb a z
leads under (suc k) a z = any_of (λ b. leads under k b z) (under a)

-- the nets from which k steps down lead back to where they began, in rising number
unfoldable pub returning : Channel → ℕ → List ℕ
returning ch k = keep (λ n. leads (below ch) k n n) (nets ch)

-- "the fewest nets": the fewest steps that lead back to where they began, 0 if none do. More steps than there are nets
-- meet one twice on the way, so that fewer lead back to it
unfoldable pub fewest : Channel → ℕ
fewest ch = head_or 0 (keep (λ k. ltb 0 (length (returning ch k))) (up_to (length (nets ch))))

-- the first drop of net n, lowest column first, from whose lower net k steps lead down to `home`
unfoldable pub home_drop : Channel → ℕ → ℕ → ℕ → Drop
home_drop ch k home n =
    head_or (record { column = 0; lower = 0 }) (keep (λ d. leads (below ch) k d.lower home) (drops ch n))

-- k steps down from net n to `home`, each through the lowest column that leads there in the steps left
unfoldable pub homeward : Channel → ℕ → ℕ → ℕ → List Step
homeward ch zero home n = []
homeward ch (suc k) home n =
    let d = home_drop ch k home n in
    record { net = n; column = d.column } ∷ homeward ch k home d.lower

-- "begun at its lowest net": of the nets from which the fewest steps lead back the ring begins at the lowest
unfoldable pub fewest_ring : Channel → List Step
fewest_ring ch =
    let begin = head_or 0 (returning ch (fewest ch)) in
    homeward ch (fewest ch) begin begin
