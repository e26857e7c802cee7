-- SCOPE, Req 04: columns with a parked pin, and what the removal of the parked pins leaves for the code that routes.
use Rattle.std.specs.Prelude.{ℕ, ◌<◌, ◌≡◌, List, ◌⊎◌, Bool, T}
use Rattle.lists.specs.Lists.{at, any_of, overlay}
use Rattle.channel.specs.Channel.{Channel, positions, is_parked, is_net, without_parked}
use Rattle.channel.specs.Answers.{Escapes}

-- in each column with pins of two different numbers, one of them is parked
abbrev pub ParkedBeside : Channel → Type 0
ParkedBeside ch = (c : ℕ) → 0 < at ch.top c → 0 < at ch.bot c → (at ch.top c ≡ at ch.bot c → ⊥)
    → T (is_parked ch (at ch.top c)) ⊎ T (is_parked ch (at ch.bot c))

-- some pin is parked
unfoldable pub has_parked : Channel → Bool
has_parked ch = any_of (is_parked ch) (positions ch)

-- the channel escapes refusals 3 to 5, and every number of its rows but 0 names a net that is routed
pub record NetsOnly (ch : Channel) : Type 0 where
  pub escapes : Escapes ch
  pub on_top : (c : ℕ) → 0 < at ch.top c → T (is_net ch (at ch.top c))
  pub on_bot : (c : ℕ) → 0 < at ch.bot c → T (is_net ch (at ch.bot c))

-- What `remove_parked` leaves in the rows lent to it: the channel's with the parked pins removed, at the front. Rules
-- out: one that removes the nets with two pins too, or the parked ones of TOP alone.
pub record ParkedRemoved (ch : Channel) (top bot top' bot' : List ℕ) : Type 0 where
  pub on_top : top' ≡ overlay (without_parked ch).top top
  pub on_bot : bot' ≡ overlay (without_parked ch).bot bot
