-- SCOPE, Req 09: the refusals of joining two lists, in their order and with their places, the answer, and what the
-- lent rows then hold.
use Rattle.std.specs.Prelude.{ℕ, suc, ◌+◌, List, [], ◌∷◌, length, ltb, Result}
use Rattle.std.proofs.Math.Option.{Option}
use Rattle.lists.specs.Lists.{keep, least}
use Rattle.refusal.specs.declared.Refusal.{Refusal}
use Rattle.refusal.specs.declared.Refusal.TheVariants.{TooWide, PanelFull}
use Rattle.refusal.specs.Refusals.{Told, refuse_if, ◌or_else◌, ok_unless, told, filled_unless}
use Rattle.refusal.specs.Trays.{row_tray, short_tray}
use Rattle.channel.specs.Channel.{Channel, width, positions, highest_net, widest}
use Rattle.channel.specs.Answers.{rows_refusal}
use Rattle.panel.specs.Joined.{joined}

-- "each list is checked alone, one then two"
unfoldable pub lists_refusal : Channel → Channel → Option Refusal
lists_refusal ch dh = rows_refusal ch or_else rows_refusal dh

-- "3 when the columns exceed 512, place 513"
unfoldable pub panel_wide : Channel → Channel → Option Refusal
panel_wide ch dh = refuse_if (ltb widest (width ch + width dh)) (TooWide (suc widest))

-- the numbers of the joined list over 511: only raised ones can be
unfoldable pub high_numbers : Channel → Channel → List ℕ
high_numbers ch dh = keep (ltb highest_net) (positions (joined ch dh))

-- "18, panel full, .. when a raised number exceeds 511, the place being the lowest such"
unfoldable pub panel_full : Channel → Channel → Option Refusal
panel_full ch dh = refuse_if (ltb 0 (length (high_numbers ch dh))) (PanelFull (least (high_numbers ch dh)))

-- "It then refuses with 3 .., and with 18"
unfoldable pub panel_refusal : Channel → Channel → Option Refusal
panel_refusal ch dh = panel_wide ch dh or_else panel_full ch dh

-- "After 1 for the joined rows", where rows of these lengths are lent
unfoldable pub join_refusal : ℕ → ℕ → Channel → Channel → Option Refusal
join_refusal lentTop lentBot ch dh =
    short_tray (record { lent = lentTop; needed = row_tray } ∷ record { lent = lentBot; needed = row_tray } ∷ []) or_else
    lists_refusal ch dh or_else panel_refusal ch dh

-- what the check of both lists answers
unfoldable pub lists_answer : Channel → Channel → Result (Unit {0}) Refusal
lists_answer ch dh = ok_unless (lists_refusal ch dh) tt

unfoldable pub join_answer : ℕ → ℕ → Channel → Channel → Result ℕ Refusal
join_answer lentTop lentBot ch dh =
    ok_unless (join_refusal lentTop lentBot ch dh) (width ch + width dh)

-- the lent rows afterwards, where `top` and `bot` are those before it
unfoldable pub top_after : Channel → Channel → List ℕ → List ℕ → List ℕ
top_after ch dh top bot = filled_unless (join_refusal (length top) (length bot) ch dh) (joined ch dh).top top

unfoldable pub bot_after : Channel → Channel → List ℕ → List ℕ → List ℕ
bot_after ch dh top bot = filled_unless (join_refusal (length top) (length bot) ch dh) (joined ch dh).bot bot

abbrev pub join_told : Result ℕ Refusal → Told
join_told = told (λ w. w ∷ [])
