-- Refusal 1 is silent exactly if every buffer is as long as it must be; and no refusal has the number 0, which tells a
-- success.
use Rattle.std.specs.Prelude.{◌≤◌, ◌<◌, ◌≡◌, ◌↔◌, Bool, ltb}
use Rattle.std.proofs.Common.{arith, ltb→lt, lt→ltb}
use Rattle.std.proofs.Math.Decide.{dec_le}
use mathlib.Core.List.{List, [], map, Memᴰ}
use Rattle.std.proofs.Math.Option.{none}
use Rattle.lists.specs.Lists.{keep}
use Rattle.lists.specs.Members.{keep-member, kept}
use Rattle.lists.specs.Ranges.{no-member→empty}
use Rattle.refusal.specs.declared.Refusal.{Refusal}
use Rattle.refusal.specs.declared.Refusal.TheVariants.{ShortTray, Garbled, TooWide, Uneven, HighNet}
use Rattle.refusal.specs.declared.Refusal.TheVariants.{Tangled, Torn, BadField, WrongBoard}
use Rattle.refusal.specs.declared.Refusal.TheVariants.{NoBlank, BadTable, NoStock, PanelFull}
use Rattle.refusal.specs.declared.Refusal.TheVariants.{BadSpan, AlreadyHere, NotHere}
use Rattle.refusal.specs.Refusals.{number_of}
use Rattle.refusal.specs.ChainLaws.{refuse-at-first-none, none-refuse-at-first}
use Rattle.refusal.specs.Trays.{Tray, short_tray}

abbrev lacks : Tray → Bool
lacks b = ltb b.lent b.needed

pub trays-fit : (trays : List Tray) → (short_tray trays ≡ none) ↔ ((b : Tray) → Memᴰ b trays → b.needed ≤ b.lent)
unfolding short_tray
trays-fit trays = (fits, silent)
  where
    fits : short_tray trays ≡ none → (b : Tray) → Memᴰ b trays → b.needed ≤ b.lent
    fits h b m =
        let empty = refuse-at-first-none ShortTray (map (λ (t : Tray). t.needed) (keep lacks trays)) h in
        elim (dec_le b.needed b.lent) [
          | yes k ↦ k
          | no k ↦
              absurd (let z : Memᴰ b.needed [] = rw empty at
              (mathlib.Core.List.Memᴰ.map (λ (t : Tray). t.needed) (kept lacks m (lt→ltb b.lent b.needed (omega arith)))) in
              mathlib.Core.List.Memᴰ.not-nil z)
        ]

    silent : ((b : Tray) → Memᴰ b trays → b.needed ≤ b.lent) → short_tray trays ≡ none
    silent h =
        none-refuse-at-first ShortTray (map (λ (t : Tray). t.needed) (keep lacks trays))
        (no-member→empty (map (λ (t : Tray). t.needed) (keep lacks trays))
        (λ n m. let r = mathlib.Core.List.Memᴰ.of_map (λ (t : Tray). t.needed) (keep lacks trays) m in
        let k = keep-member lacks trays r.1 in let a = h r.0 k.0 in
        let b = ltb→lt r.0.lent r.0.needed k.1 in omega arith))

pub refusal-numbered : (r : Refusal) → 0 < number_of r
refusal-numbered (ShortTray p) = omega arith
refusal-numbered (Garbled p) = omega arith
refusal-numbered (TooWide p) = omega arith
refusal-numbered (Uneven p) = omega arith
refusal-numbered (HighNet p) = omega arith
refusal-numbered (Tangled p) = omega arith
refusal-numbered (Torn p) = omega arith
refusal-numbered (BadField p) = omega arith
refusal-numbered (WrongBoard p) = omega arith
refusal-numbered (NoBlank p) = omega arith
refusal-numbered (BadTable p) = omega arith
refusal-numbered (NoStock p) = omega arith
refusal-numbered (PanelFull p) = omega arith
refusal-numbered (BadSpan p) = omega arith
refusal-numbered (AlreadyHere p) = omega arith
refusal-numbered (NotHere p) = omega arith
