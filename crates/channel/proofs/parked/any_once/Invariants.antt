-- The loop's invariant: no number before this one is counted just once.
use Rattle.std.proofs.Common.{ℕ, ◌<◌, ◌≡◌, get_or}
use Rattle.channel.proofs.parked.any_once.Given as goal

abbrev pub invariant-loop-n : goal.invariant-loop-n
invariant-loop-n l = (k : ℕ) → k < l.n-index → get_or l.counts (get_or l.row k 0) 0 ≡ 1 → ⊥
