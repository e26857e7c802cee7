-- SCOPE, Req 09: two lists on one panel, by one computed check.
use Rattle.refusal.specs.Refusals as refusals
use Rattle.std.specs.Prelude.{ℕ, ◌≡◌, refl, List, [], ◌∷◌, ◌++◌, map, true}
use Rattle.lists.specs.Lists.{keep, each, any_of, all_of, from, head_or, last_or, greatest, least, at}
use Rattle.refusal.specs.Refusals.{refuse_if, refuse_at_first, ◌or_else◌, answered, filled_unless}
use Rattle.refusal.specs.Trays.{short_tray}
use Rattle.channel.specs.Channel.{Channel, rows, pin_count, is_net, pin_columns, first_column, last_column, nets, has_span}
use Rattle.channel.specs.Channel.{spanning}
use Rattle.channel.specs.Spans.{starting}
use Rattle.channel.specs.Density.{spans_over, spans_of, density}
use Rattle.channel.specs.Constraints.{above, drops, depth, chain}
use Rattle.channel.specs.Answers.{too_wide, uneven, high_net, rows_refusal}
use Rattle.leftedge.specs.Items.{is_placed, track_of, fits, clear_below}
use Rattle.leftedge.specs.Fill.{Filling, filled, stuck, scan, or_else, fill_from, fill_items}
use Rattle.leftedge.specs.Nets.{fill_order, net_items, fill}
use Rattle.panel.specs.Joined.{highest, raised, joined}
use Rattle.panel.specs.Answers.{lists_refusal, panel_wide, high_numbers, panel_full, panel_refusal, join_refusal}
use Rattle.panel.specs.Answers.{join_answer, join_told}
use Rattle.examples.specs.Starred.{same, all}

-- what is told where rows of 512 numbers are lent: the number, then the width or the place
abbrev told : Channel → Channel → List ℕ
told ch dh = let t = join_told (join_answer 512 512 ch dh) in t.number ∷ t.values

-- the joined rows, TOP then BOT
abbrev both : Channel → Channel → List ℕ
both ch dh = let j = joined ch dh in j.top ++ j.bot

-- the tracks that a channel takes and those of its nets; 0 if it is tangled
abbrev tracks : Channel → Filling → List ℕ
tracks ch (filled t ps) = t ∷ map (track_of ps) (nets ch)
tracks ch (stuck left) = 0 ∷ []

abbrev bounds : Channel → List ℕ
bounds ch = density ch ∷ chain ch ∷ []

-- examples A, B, C, and E
abbrev example_a : Channel
example_a = rows (0 ∷ 1 ∷ 2 ∷ 3 ∷ []) (1 ∷ 2 ∷ 0 ∷ 3 ∷ [])

abbrev example_b : Channel
example_b = rows (0 ∷ 1 ∷ 6 ∷ 1 ∷ 2 ∷ 3 ∷ 5 ∷ []) (6 ∷ 3 ∷ 5 ∷ 4 ∷ 0 ∷ 2 ∷ 4 ∷ [])

abbrev example_c : Channel
example_c = rows (1 ∷ 2 ∷ []) (2 ∷ 1 ∷ [])

abbrev example_e : Channel
example_e = rows (1 ∷ 0 ∷ 1 ∷ 2 ∷ 0 ∷ 2 ∷ []) (0 ∷ 3 ∷ 0 ∷ 0 ∷ 3 ∷ 0 ∷ [])

-- numbers with a gap, and a parked pin of the highest number
abbrev gaps : Channel
gaps = rows (4 ∷ 0 ∷ 9 ∷ []) (0 ∷ 4 ∷ 0 ∷ [])

-- no pin at all
abbrev bare : Channel
bare = rows (0 ∷ []) (0 ∷ [])

pub panels :
    all
    -- A with B behind it: B's numbers raised by 3, 0 left as it is
    (same (told example_a example_b) (0 ∷ 11 ∷ [])
    ∷ same (both example_a example_b)
    (0 ∷ 1 ∷ 2 ∷ 3 ∷ 0 ∷ 4 ∷ 9 ∷ 4 ∷ 5 ∷ 6 ∷ 8 ∷ 1 ∷ 2 ∷ 0 ∷ 3 ∷ 9 ∷ 6 ∷ 8 ∷ 7 ∷ 0 ∷ 5 ∷ 7 ∷ [])
    -- each net on the track that it has alone, and as many tracks as B
    ∷ same (tracks example_a (fill example_a)) (2 ∷ 2 ∷ 1 ∷ 0 ∷ [])
    ∷ same (tracks example_b (fill example_b)) (5 ∷ 5 ∷ 3 ∷ 4 ∷ 1 ∷ 2 ∷ 3 ∷ [])
    ∷ same (tracks (joined example_a example_b) (fill (joined example_a example_b)))
    (5 ∷ 2 ∷ 1 ∷ 0 ∷ 5 ∷ 3 ∷ 4 ∷ 1 ∷ 2 ∷ 3 ∷ [])
    ∷ same (bounds (joined example_a example_b)) (4 ∷ 3 ∷ [])
    -- the other way round, and E with itself
    ∷ same (tracks (joined example_b example_a) (fill (joined example_b example_a)))
    (5 ∷ 5 ∷ 3 ∷ 4 ∷ 1 ∷ 2 ∷ 3 ∷ 2 ∷ 1 ∷ 0 ∷ [])
    ∷ same (tracks (joined example_e example_e) (fill (joined example_e example_e)))
    (2 ∷ 1 ∷ 1 ∷ 2 ∷ 1 ∷ 1 ∷ 2 ∷ [])
    -- a tangled list may be joined, on either side, and the panel is tangled
    ∷ same (told example_c example_a) (0 ∷ 6 ∷ [])
    ∷ same (tracks (joined example_c example_a) (fill (joined example_c example_a))) (0 ∷ [])
    ∷ same (tracks (joined example_a example_c) (fill (joined example_a example_c))) (0 ∷ [])
    -- the highest number counts, with gaps and parked pins, and not the count of nets
    ∷ same (both gaps example_c) (4 ∷ 0 ∷ 9 ∷ 10 ∷ 11 ∷ 0 ∷ 4 ∷ 0 ∷ 11 ∷ 10 ∷ [])
    -- a list without pins raises nothing
    ∷ same (both bare example_c) (0 ∷ 1 ∷ 2 ∷ 0 ∷ 2 ∷ 1 ∷ [])
    ∷ same (both example_c bare) (1 ∷ 2 ∷ 0 ∷ 2 ∷ 1 ∷ 0 ∷ [])
    -- either grouping of three
    ∷ same (both (joined gaps example_c) example_a) (both gaps (joined example_c example_a))
    -- 1 before all others; list one before list two, each with the places that it has alone
    ∷ same (let t = join_told (join_answer 512 511 (rows (1 ∷ []) []) bare) in t.number ∷ t.values) (1 ∷ 512 ∷ [])
    ∷ same (told (rows (1 ∷ []) []) (rows (512 ∷ []) (0 ∷ []))) (4 ∷ 1 ∷ [])
    ∷ same (told example_a (rows (1 ∷ 0 ∷ []) (0 ∷ 512 ∷ []))) (5 ∷ 4 ∷ [])
    ∷ same (told (rows (0 ∷ 512 ∷ []) (0 ∷ 0 ∷ [])) (rows (1 ∷ []) [])) (5 ∷ 2 ∷ [])
    -- 18 with the lowest raised number over 511, and none where a raised number is 511
    ∷ same (told (rows (509 ∷ 509 ∷ []) (0 ∷ 0 ∷ [])) (rows (5 ∷ 3 ∷ []) (4 ∷ 1 ∷ []))) (18 ∷ 512 ∷ [])
    ∷ same (told (rows (509 ∷ 509 ∷ []) (0 ∷ 0 ∷ [])) (rows (9 ∷ 2 ∷ []) (7 ∷ 0 ∷ []))) (18 ∷ 516 ∷ [])
    ∷ same (told (rows (509 ∷ 509 ∷ []) (0 ∷ 0 ∷ [])) (rows (2 ∷ 1 ∷ []) (1 ∷ 0 ∷ []))) (0 ∷ 4 ∷ [])
    ∷ [])
    ≡ true
unfolding
    keep each any_of all_of from head_or last_or greatest least at
    refuse_if refuse_at_first ◌or_else◌ answered filled_unless short_tray
    pin_count is_net pin_columns first_column last_column nets has_span spanning starting spans_over spans_of density
    above drops depth chain too_wide uneven high_net rows_refusal
    is_placed track_of fits clear_below scan or_else fill_from fill_items fill_order net_items fill
    highest raised joined lists_refusal panel_wide high_numbers panel_full panel_refusal join_refusal join_answer refusals.told
panels = refl
