-- What the operation promises of what the caller then holds.
use Rattle.std.specs.Prelude.{ℕ, ◌≤◌, ◌≡◌, List, ◌↔◌, length, Option, None, Result, Ok}
use Rattle.refusal.specs.declared.Refusal.{Refusal}
use Rattle.refusal.specs.Trays.{ring_tray}
use Rattle.channel.specs.Channel.{Channel}
use Rattle.channel.specs.Answers.{Escapes}
use Rattle.channel.specs.Constraints.{Tangled}
use Rattle.rings.specs.Answers.{fewest_answer, fewest_after, pairs_of}
use Rattle.rings.specs.Promise.{FewestPromise}

-- What `fewest_ring` answers, and what the ring buffer then holds. Rules out: pairs told of a channel that is refused
-- (answer); a ring buffer written where there is no ring or under a refusal (held); the first ring found (promise).
pub record FewestDone (ch : Channel) (ring : List ℕ) (r : Result (Option ℕ) Refusal) (ring' : List ℕ) : Type 0 where
  pub answer : r ≡ fewest_answer (length ring) ch
  pub held : ring' ≡ fewest_after ch ring
  pub none-exactly : ring_tray ≤ length ring → Escapes ch → (r ≡ Ok None) ↔ (Tangled ch → ⊥)
  pub promise : ring_tray ≤ length ring → Escapes ch → FewestPromise ch (pairs_of r) ring ring'
