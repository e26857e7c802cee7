-- Req 02, as a statement: the list turned over, the floor, and the same copper turned over. It speaks of layouts
-- on two layers.
use Rattle.std.specs.Prelude.{ℕ, ◌≡◌, ◌↔◌}
use Rattle.lists.specs.Lists.{Lowest}
use Rattle.grid.specs.Pieces.{Layout}
use Rattle.grid.specs.Flipped.{flipped}
use Rattle.channel.specs.Channel.{Channel}
use Rattle.channel.specs.Answers.{Escapes}
use Rattle.channel.specs.Turned.{turned, TurnedPromise}
use Rattle.wiring.specs.Layouts.{AllOnGrid, Good, OneTrunkEach}
use Rattle.promises.specs.Bounds.{FloorPromise}

-- some good layout of the channel has t tracks
abbrev pub LaidOutOn : Channel → ℕ → Type 0
LaidOutOn ch t = (l : Layout) × Good ch l × (l.tracks ≡ t)

-- some good layout with at most one trunk piece per net has
abbrev pub OneTrunkOn : Channel → ℕ → Type 0
OneTrunkOn ch t = (l : Layout) × Good ch l × OneTrunkEach ch l × (l.tracks ≡ t)

-- of a channel that escapes refusals 3 to 5: what a fitter who mounts its board upside down has
pub record CopperPromise (ch : Channel) : Type 0 where
  -- the same copper turned over is a good layout of the turned list exactly if it was one of the first
  pub same-copper : (l : Layout) → AllOnGrid ch l → Good ch l ↔ Good (turned ch) (flipped l)
  pub same-trunks : (l : Layout) → AllOnGrid ch l → OneTrunkEach ch l ↔ OneTrunkEach (turned ch) (flipped l)
  -- so the fewest tracks possible are the same both ways up, with split trunks or with one trunk piece per net
  pub fewest-same : (t : ℕ) → Lowest (LaidOutOn ch) t ↔ Lowest (LaidOutOn (turned ch)) t
  pub fewest-one-trunk-same : (t : ℕ) → Lowest (OneTrunkOn ch) t ↔ Lowest (OneTrunkOn (turned ch)) t

abbrev pub Req02 : Type 0
Req02 = (ch : Channel) → TurnedPromise ch × (Escapes ch → FloorPromise ch × CopperPromise ch)
