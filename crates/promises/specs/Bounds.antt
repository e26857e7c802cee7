-- The floors, as statements: density and chain are the figures that the listing prints as bounds.
use Rattle.std.specs.Prelude.{ℕ, max, ◌≤◌}
use Rattle.grid.specs.Pieces.{Layout}
use Rattle.channel.specs.Channel.{Channel}
use Rattle.channel.specs.Density.{density}
use Rattle.channel.specs.Constraints.{chain}
use Rattle.channel.specs.Answers.{Escapes}
use Rattle.wiring.specs.Layouts.{Good, OneTrunkEach}

-- the density is a floor for every good layout, split trunks included
abbrev pub DensityFloor : Type 0
DensityFloor = (ch : Channel) → Escapes ch → (l : Layout) → Good ch l → density ch ≤ l.tracks

-- every good layout with at most one trunk piece per net has at least k tracks, whatever its pieces
abbrev pub OneTrunkFloor : Channel → ℕ → Type 0
OneTrunkFloor ch k = (l : Layout) → Good ch l → OneTrunkEach ch l → k ≤ l.tracks

-- "the larger bound"
abbrev pub larger_bound : Channel → ℕ
larger_bound ch = max (density ch) (chain ch)

-- SCOPE, Req 02, of a channel that escapes refusals 3 to 5
pub record FloorPromise (ch : Channel) : Type 0 where
  -- "every good layout with at most one trunk piece per net has at least chain tracks"
  pub chain-floor : OneTrunkFloor ch (chain ch)
  -- "so the larger bound is a floor for such layouts"
  pub larger-floor : OneTrunkFloor ch (larger_bound ch)
