-- SCOPE, Req 09: two lists on one panel, as one list.
use Rattle.std.specs.Prelude.{ℕ, ◌+◌, ◌≤◌, List, ◌++◌, map, cond, eqb}
use Rattle.lists.specs.Lists.{greatest}
use Rattle.channel.specs.Channel.{Channel, rows, width, positions, highest_net, widest}
use Rattle.channel.specs.Answers.{Escapes}

-- "the first's highest (0 if none)": of all its numbers, those of parked pins too
unfoldable pub highest : Channel → ℕ
highest ch = greatest (positions ch)

-- a number "raised by" so much; 0 means no pin and stays
unfoldable pub raised : ℕ → ℕ → ℕ
raised by n = cond (eqb n 0) 0 (by + n)

-- "the second list's columns follow the first's, and its net numbers are raised by the first's highest"
unfoldable pub joined : Channel → Channel → Channel
joined ch dh =
    let lift : List ℕ → List ℕ = map (raised (highest ch)) in
    rows (ch.top ++ lift dh.top) (ch.bot ++ lift dh.bot)

-- two lists that fit on a panel: each escapes refusals 3 to 5 alone, their columns are at most 512, and no raised
-- number exceeds 511. The last is said of the highest raised one: by `none_over` and `low_sum` it is the same
pub record Fits (ch dh : Channel) : Type 0 where
  pub first : Escapes ch
  pub second : Escapes dh
  pub columns : width ch + width dh ≤ widest
  pub numbers : highest ch + highest dh ≤ highest_net
