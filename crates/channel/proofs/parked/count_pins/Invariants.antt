-- The loop's invariant: counting what is left of the row gives what counting the whole row gives, and no count has grown
-- by more than one a turn.
use Rattle.std.proofs.Common.{ℕ, ◌+◌, ◌≤◌, ◌<◌, ◌≡◌, get_or, drop}
use Rattle.lists.specs.Counts.{tally}
use Rattle.channel.proofs.parked.count_pins.Given as goal

abbrev pub invariant-loop-n : goal.invariant-loop-n
invariant-loop-n l =
    ((n : ℕ) → n < 512 → get_or l.counts n 0 ≤ 512 + l.n-index)
    × (tally (drop l.n-index l.row) l.counts ≡ tally l.row l.fn.counts)
