-- SCOPE, refusals 3 to 5 of rows, each with its place, and the answers of the operations on rows alone.
use Rattle.std.specs.Prelude.{ℕ, suc, min, ◌≤◌, ◌<◌, ◌≡◌, [], ◌∷◌, ◌||◌, not, length, ltb, eqb, Result}
use Rattle.std.proofs.Math.Option.{Option}
use Rattle.lists.specs.Lists.{keep, up_to, at}
use Rattle.refusal.specs.declared.Refusal.{Refusal}
use Rattle.refusal.specs.declared.Refusal.TheVariants.{TooWide, Uneven, HighNet}
use Rattle.refusal.specs.Refusals.{Told, refuse_if, refuse_at_first, ◌or_else◌, ok_unless, told}
use Rattle.channel.specs.declared.LowerBounds.{LowerBounds}
use Rattle.channel.specs.Channel.{Channel, width, positions, highest_net, widest}
use Rattle.channel.specs.Density.{density}
use Rattle.channel.specs.Constraints.{chain}

-- 3: "a row over 512; 513"
unfoldable pub too_wide : Channel → Option Refusal
too_wide ch = refuse_if (ltb widest (length ch.top) || ltb widest (length ch.bot)) (TooWide (suc widest))

-- 4: "rows differ or are empty; shorter length plus 1"
unfoldable pub uneven : Channel → Option Refusal
uneven ch =
    refuse_if (not (eqb (length ch.top) (length ch.bot)) || eqb (length ch.top) 0)
    (Uneven (suc (min (length ch.top) (length ch.bot))))

-- 5: "a number over 511; the lowest pin position holding one"
unfoldable pub high_net : Channel → Option Refusal
high_net ch = refuse_at_first HighNet (keep (λ p. ltb highest_net (at (positions ch) p)) (up_to (length (positions ch))))

-- 3 to 5, in rising number
unfoldable pub rows_refusal : Channel → Option Refusal
rows_refusal ch = too_wide ch or_else uneven ch or_else high_net ch

-- the channel escapes refusals 3 to 5
pub record Escapes (ch : Channel) : Type 0 where
  pub narrow : width ch ≤ widest
  pub even : length ch.bot ≡ width ch
  pub wide : 0 < width ch
  pub low : (c : ℕ) → (at ch.top c ≤ highest_net) × (at ch.bot c ≤ highest_net)

-- what the check of rows answers
unfoldable pub rows_answer : Channel → Result (Unit {0}) Refusal
rows_answer ch = ok_unless (rows_refusal ch) tt

abbrev pub rows_told : Result (Unit {0}) Refusal → Told
rows_told = told (λ _. [])

-- the channel itself where its rows are accepted
unfoldable pub accepted : Channel → Result Channel Refusal
accepted ch = ok_unless (rows_refusal ch) ch

abbrev pub bounds_of : Channel → LowerBounds
bounds_of ch = record { density = density ch; chain = chain ch }

-- "Asked for bounds alone, a tangled channel answers its density and chain 0, not refusal 7"
unfoldable pub bounds_answer : Channel → Result LowerBounds Refusal
bounds_answer ch = ok_unless (rows_refusal ch) (bounds_of ch)

abbrev pub bounds_told : Result LowerBounds Refusal → Told
bounds_told = told (λ b. b.density ∷ b.chain ∷ [])
