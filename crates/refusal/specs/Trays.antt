-- SCOPE, refusal 1: the lengths that lent buffers must have, in the order in which they are asked.
use Rattle.std.specs.Prelude.{ℕ, List, map, ltb}
use Rattle.std.proofs.Math.Option.{Option}
use Rattle.lists.specs.Lists.{keep}
use Rattle.refusal.specs.declared.Refusal.{Refusal}
use Rattle.refusal.specs.declared.Refusal.TheVariants.{ShortTray}
use Rattle.refusal.specs.Refusals.{refuse_at_first}

abbrev pub row_tray : ℕ
row_tray = 512

abbrev pub record_tray : ℕ
record_tray = 511

abbrev pub ring_tray : ℕ
ring_tray = 1022

abbrev pub board_tray : ℕ
board_tray = 10240

abbrev pub scratch_tray : ℕ
scratch_tray = 5119

-- SCOPE, Req 14: "Where lent, it is 4,096 words of 64 bits, under refusal 1 in every call"
abbrev pub draft_tray : ℕ
draft_tray = 4096

-- a buffer that the operation writes: the length lent, and the length needed
pub record Tray : Type 0 where
  pub lent : ℕ
  pub needed : ℕ

-- "the length needed, first lacking in this order"
unfoldable pub short_tray : List Tray → Option Refusal
short_tray trays = refuse_at_first ShortTray (map (λ b. b.needed) (keep (λ b. ltb b.lent b.needed) trays))
