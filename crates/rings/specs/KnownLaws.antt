-- The linked steps of rows that show nets only are those of the channel, as steps between all numbers that nets can
-- have.
use Rattle.std.specs.Prelude.{ℕ, max, ◌≤◌, ◌≡◌, length, T}
use Rattle.std.proofs.Common.{arith, subst}
use Rattle.std.proofs.Math.Path.{fun_ext}
use mathlib.Core.List.{List, Memᴰ}
use Rattle.lists.specs.Lists.{greatest, at}
use Rattle.lists.specs.Greatest.{greatest≤}
use Rattle.lists.specs.Members.{up_to-member, in-up_to}
use Rattle.items.specs.Steps.{is_step, Stepped, StepsLinked}
use Rattle.items.specs.LinkLaws.{steps-stepped}
use Rattle.channel.specs.Channel.{Channel, highest_net}
use Rattle.channel.specs.Constraints.{below}
use Rattle.channel.proofs.Laws.{net-positive}
use Rattle.channel.proofs.EscapeLaws.{top-low}
use Rattle.channel.specs.Parked.{NetsOnly}
use Rattle.channel.proofs.StepsLaws.{step-above, steps-drops}
use Rattle.rings.specs.Search.{numbers, StepsKnown}

-- both nets of a step have such numbers, so the links are the steps of these numbers
pub numbers-stepped : {ch : Channel} → NetsOnly ch → (head next under : List ℕ)
    → StepsLinked ch.top ch.bot head next under → Stepped (below ch) numbers ch.top head next
numbers-stepped {ch} only head next under l =
    subst (λ (f : ℕ → List ℕ). Stepped f numbers ch.top head next) (fun_ext (steps-drops only))
    (steps-stepped ch.top ch.bot head next under numbers l (λ n m. (up_to-member highest_net m).0) inside)
  where
    inside : (c : ℕ) → T (is_step ch.top ch.bot c)
        → Memᴰ (at ch.top c) numbers × Memᴰ (at ch.bot c) numbers
    inside c t =
        let h = step-above only c t in
        let low = only.escapes.low c in (
          in-up_to highest_net _ (net-positive ch _ h.upper) low.0,
          in-up_to highest_net _ (net-positive ch _ h.lower) low.1,
        )

-- so the steps to each number are known
pub numbers-known : {ch : Channel} → NetsOnly ch → (head next under : List ℕ)
    → StepsLinked ch.top ch.bot head next under → length head ≡ 512 → StepsKnown ch.top head next
numbers-known {ch} only head next under l long =
    record { below = below ch; stepped = numbers-stepped only head next under l; long = long }

-- no number of TOP is above 511
pub highest-low : {ch : Channel} → NetsOnly ch → {highest : ℕ} → highest ≡ max 0 (greatest ch.top)
    → highest ≤ highest_net
highest-low {ch} only e =
    let g = greatest≤ ch.top highest_net (λ k. top-low ch k only.escapes) in omega arith
