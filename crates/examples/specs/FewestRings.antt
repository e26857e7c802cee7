-- SCOPE, Req 05: the ring with the fewest nets, beside the one that the fill's walk shows, by one computed check.
use Rattle.refusal.specs.Refusals as refusals
use Rattle.std.specs.Prelude.{ℕ, ◌≡◌, refl, List, [], ◌∷◌, true}
use Rattle.lists.specs.Lists.{keep, each, any_of, all_of, from, head_or, last_or, greatest, least, at}
use Rattle.refusal.specs.Refusals.{refuse_if, refuse_at_first, ◌or_else◌, answered, filled_unless}
use Rattle.refusal.specs.Trays.{short_tray}
use Rattle.channel.specs.Channel.{Channel, rows, pin_count, is_net, pin_columns, first_column, last_column, nets, has_span}
use Rattle.channel.specs.Channel.{spanning}
use Rattle.channel.specs.Spans.{starting}
use Rattle.channel.specs.Constraints.{above, drops}
use Rattle.channel.specs.Answers.{too_wide, uneven, high_net, rows_refusal}
use Rattle.leftedge.specs.Items.{is_placed, track_of, fits, clear_below}
use Rattle.leftedge.specs.Fill.{scan, or_else, fill_from, fill_items}
use Rattle.leftedge.specs.Walk.{first_drop, from_visit, walk, ring_of, ring_numbers}
use Rattle.leftedge.specs.Nets.{fill_order, net_items, fill}
use Rattle.rings.specs.Fewest.{leads, returning, fewest, home_drop, homeward, fewest_ring}
use Rattle.rings.specs.Answers.{fewest_refusal, pairs_answer, fewest_answer, fewest_after, fewest_told}
use Rattle.router.specs.Route.{ring_shown}
use Rattle.examples.specs.Starred.{same, all}

-- what is told with a ring buffer of so many numbers: the number, then the value
abbrev told : ℕ → Channel → List ℕ
told room ch = let t = fewest_told (fewest_answer room ch) in t.number ∷ t.values

-- the pairs of the ring with the fewest nets, and those of the walk
abbrev shortest : Channel → List ℕ
shortest ch = ring_numbers (fewest_ring ch)

abbrev walked : Channel → List ℕ
walked ch = ring_numbers (ring_shown ch (fill ch))

-- examples A, C and D
abbrev example_a : Channel
example_a = rows (0 ∷ 1 ∷ 2 ∷ 3 ∷ []) (1 ∷ 2 ∷ 0 ∷ 3 ∷ [])

abbrev example_c : Channel
example_c = rows (1 ∷ 2 ∷ []) (2 ∷ 1 ∷ [])

abbrev example_d : Channel
example_d = rows (1 ∷ 2 ∷ 3 ∷ 1 ∷ []) (2 ∷ 3 ∷ 2 ∷ 0 ∷ [])

-- the walk goes round all four nets, and nets 1 and 2 are above each other; net 2 in column 5
abbrev long : Channel
long = rows (1 ∷ 2 ∷ 3 ∷ 4 ∷ 2 ∷ []) (2 ∷ 3 ∷ 4 ∷ 1 ∷ 1 ∷ [])

-- the walk begins at net 1 and goes round three nets; the shorter ring begins at net 2
abbrev higher : Channel
higher = rows (1 ∷ 2 ∷ 3 ∷ 3 ∷ []) (2 ∷ 3 ∷ 1 ∷ 2 ∷ [])

-- nets 1 and 2 are above each other in two columns each
abbrev columns : Channel
columns = rows (2 ∷ 1 ∷ 1 ∷ 2 ∷ []) (1 ∷ 2 ∷ 2 ∷ 1 ∷ [])

-- nets 3 and 4 are above each other, and so are nets 1 and 2 in higher columns
abbrev lowest : Channel
lowest = rows (3 ∷ 4 ∷ 1 ∷ 2 ∷ []) (4 ∷ 3 ∷ 2 ∷ 1 ∷ [])

-- net 1 is on a ring with net 3 and on one with net 2, in a higher column
abbrev shared : Channel
shared = rows (1 ∷ 1 ∷ 2 ∷ 3 ∷ []) (3 ∷ 2 ∷ 1 ∷ 1 ∷ [])

pub fewest-rings :
    all
    -- no ring: none, the ring buffer untouched
    (same (told 1022 example_a) (0 ∷ 0 ∷ [])
    ∷ same (shortest example_a) []
    -- C and D, whose walks show the same ring
    ∷ same (told 1022 example_c) (0 ∷ 2 ∷ [])
    ∷ same (shortest example_c) (1 ∷ 1 ∷ 2 ∷ 2 ∷ [])
    ∷ same (walked example_c) (shortest example_c)
    ∷ same (shortest example_d) (2 ∷ 2 ∷ 3 ∷ 3 ∷ [])
    ∷ same (walked example_d) (shortest example_d)
    -- a shorter ring than the walk's, and one that begins at a higher net
    ∷ same (walked long) (1 ∷ 1 ∷ 2 ∷ 2 ∷ 3 ∷ 3 ∷ 4 ∷ 4 ∷ [])
    ∷ same (told 1022 long) (0 ∷ 2 ∷ [])
    ∷ same (shortest long) (1 ∷ 1 ∷ 2 ∷ 5 ∷ [])
    ∷ same (walked higher) (1 ∷ 1 ∷ 2 ∷ 2 ∷ 3 ∷ 3 ∷ [])
    ∷ same (shortest higher) (2 ∷ 2 ∷ 3 ∷ 4 ∷ [])
    -- of as many nets the lowest column of the first, then of the next; the lowest net; and a lower column before a
    -- lower net behind it
    ∷ same (shortest columns) (1 ∷ 2 ∷ 2 ∷ 1 ∷ [])
    ∷ same (shortest lowest) (1 ∷ 3 ∷ 2 ∷ 4 ∷ [])
    ∷ same (shortest shared) (1 ∷ 1 ∷ 3 ∷ 4 ∷ [])
    -- a parked pin is on no ring
    ∷ same (told 1022 (rows (1 ∷ 3 ∷ []) (2 ∷ 1 ∷ []))) (0 ∷ 0 ∷ [])
    -- 1 before 3 to 5; 7 is not given
    ∷ same (told 1021 example_c) (1 ∷ 1022 ∷ [])
    ∷ same (told 1021 (rows (1 ∷ []) [])) (1 ∷ 1022 ∷ [])
    ∷ same (told 1022 (rows (1 ∷ []) [])) (4 ∷ 1 ∷ [])
    ∷ same (told 1022 (rows (1 ∷ 512 ∷ []) (2 ∷ 1 ∷ []))) (5 ∷ 2 ∷ [])
    ∷ [])
    ≡ true
unfolding
    keep each any_of all_of from head_or last_or greatest least at
    refuse_if refuse_at_first ◌or_else◌ answered filled_unless short_tray
    pin_count is_net pin_columns first_column last_column nets has_span spanning starting above drops
    too_wide uneven high_net rows_refusal
    is_placed track_of fits clear_below scan or_else fill_from fill_items first_drop from_visit walk ring_of ring_numbers
    fill_order net_items fill ring_shown
    leads returning fewest home_drop homeward fewest_ring
    fewest_refusal pairs_answer fewest_answer fewest_after refusals.told
fewest-rings = refl
