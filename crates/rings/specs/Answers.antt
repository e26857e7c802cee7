-- SCOPE, Req 05: "The pairs fill the front of the ring buffer; the answer is their number. A channel without a ring
-- gets the answer none, .. the buffer untouched." Refusals 1, of the ring buffer, and 3 to 5 come before.
use Rattle.std.specs.Prelude.{ℕ, zero, suc, List, [], ◌∷◌, length, Some, None, unwrap_or, Result, Ok, Err}
use Rattle.std.specs.declared.option.Option as found
use Rattle.std.proofs.Math.Option.{Option}
use Rattle.refusal.specs.declared.Refusal.{Refusal}
use Rattle.refusal.specs.Refusals.{Told, ◌or_else◌, ok_unless, told, filled_unless}
use Rattle.refusal.specs.Trays.{ring_tray, short_tray}
use Rattle.channel.specs.Channel.{Channel}
use Rattle.channel.specs.Answers.{rows_refusal}
use Rattle.leftedge.specs.Walk.{ring_numbers}
use Rattle.rings.specs.Fewest.{fewest, fewest_ring}

-- 1, of the ring buffer with the length lent, then 3 to 5
unfoldable pub fewest_refusal : ℕ → Channel → Option Refusal
fewest_refusal room ch = short_tray (record { lent = room; needed = ring_tray } ∷ []) or_else rows_refusal ch

-- so many pairs, or none
unfoldable pub pairs_answer : ℕ → found.Option ℕ
pairs_answer zero = None
pairs_answer (suc k) = Some (suc k)

unfoldable pub fewest_answer : ℕ → Channel → Result (found.Option ℕ) Refusal
fewest_answer room ch = ok_unless (fewest_refusal room ch) (pairs_answer (fewest ch))

-- the ring buffer afterwards: a channel without a ring has no pairs
unfoldable pub fewest_after : Channel → List ℕ → List ℕ
fewest_after ch ring = filled_unless (fewest_refusal (length ring) ch) (ring_numbers (fewest_ring ch)) ring

-- the number of pairs, 0 for none
abbrev pub pairs_of : Result (found.Option ℕ) Refusal → ℕ
pairs_of (Ok pairs) = unwrap_or pairs 0
pairs_of (Err r) = 0

abbrev pub fewest_told : Result (found.Option ℕ) Refusal → Told
fewest_told = told (λ pairs. unwrap_or pairs 0 ∷ [])
