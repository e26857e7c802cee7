-- SCOPE, "Bench examples", and Reqs 01, 02, 04 and 07: A to J, and K, come out of the definitions as the
-- paper prints them, padded lists with CR LF as Req 01 says, lists turned over as Req 02 says, channels with parked
-- pins as Req 04 says, and looks as Req 07 says, by one computed check.
use Rattle.refusal.specs.Refusals as refusals
use Rattle.std.specs.Prelude.{ℕ, zero, suc, ◌≡◌, refl, List, [], ◌∷◌, ◌++◌, map, Bool, true, false, ◌&&◌, take, drop, set, eqb}
use Rattle.lists.specs.Lists.{keep, each, any_of, all_of, from, head_or, last_or, greatest, least, at}
use Rattle.lists.specs.Bytes.{bytes, digits_of}
use Rattle.refusal.specs.Refusals.{refuse_if, refuse_at_first, ◌or_else◌, answered, filled_unless}
use Rattle.refusal.specs.Trays.{short_tray, scratch_tray}
use Rattle.grid.specs.declared.Piece.{Piece}
use Rattle.grid.specs.declared.Piece.TheVariants.{Trunk, Branch, Contact}
use Rattle.grid.specs.Pieces.{column, track, row, kind_of, left, right, low, high, Layout}
use Rattle.grid.specs.Flipped.{over, flip, flipped}
use Rattle.grid.specs.Words.{line_of, from_of, to_of, fields_right, make_piece}
use Rattle.grid.specs.Touching.{kinds_meet, pin_meets, covers, touches}
use Rattle.channel.specs.Channel.{Channel, width, pin_count, is_net, pin_columns, first_column, last_column}
use Rattle.channel.specs.Channel.{nets, has_span, spanning}
use Rattle.channel.specs.Spans.{starting}
use Rattle.channel.specs.Density.{spans_over, spans_of, density}
use Rattle.channel.specs.Constraints.{above, drops, depth, chain}
use Rattle.channel.specs.Answers.{too_wide, uneven, high_net, rows_refusal, bounds_answer, bounds_told}
use Rattle.channel.specs.Turned.{turned}
use Rattle.wiring.specs.Pins.{column_of, row_of, net_of, pin_touches}
use Rattle.pinlist.specs.Reader.{after_number, first_digit, line_step, top_step, bot_step, step, at_end, read_from, read_text}
use Rattle.pinlist.specs.Answers.{garbled_refusal, channel_of, text_channel, text_refusal}
use Rattle.leftedge.specs.Items.{is_placed, track_of, fits, clear_below}
use Rattle.leftedge.specs.Fill.{scan, or_else, fill_from, fill_items}
use Rattle.leftedge.specs.Looks.{looks_from, item_looks, ceiling}
use Rattle.leftedge.specs.Walk.{first_drop, from_visit, walk, ring_of, ring_numbers}
use Rattle.leftedge.specs.Nets.{fill_order, net_items, fill, looks, record_of, records}
use Rattle.boardfile.specs.Encode.{word, header, fields, piece_word, encode}
use Rattle.boardfile.specs.Open.{word_at, file_width, file_tracks, file_count, file_spare, header_of, fields_of, word_right}
use Rattle.boardfile.specs.Open.{piece_of, torn, bad_field, open_refusal, pieces_from, file_layout}
use Rattle.judge.specs.Elements.{elements, elements_touch}
use Rattle.classes.specs.Classes.{marks_of, marks_met, remark, add_element, classes_from, classes}
use Rattle.judge.specs.Finding.{marks, pins, first_of_net, shorts, opens, floating, fault_at_first, finding}
use Rattle.judge.specs.Answers.{wrong_board, judge_refusal, judged, judge_answer, fault_number, fault_place, judge_told}
use Rattle.blanks.specs.Stock.{stock, smallest_for, no_blank}
use Rattle.drawing.specs.Draw.{branch_in, draw_column, draw_span, draw_straight, draw_net, draw}
use Rattle.router.specs.Route.{ring_shown, tangled, layout_drawn, records_made, route_trays, route_refusal, route_answer}
use Rattle.router.specs.Route.{filled_under7, ring_after, looks_unless, looks_answered, route_told}
use Rattle.router.specs.Progress.{looks_answer, ceiling_answer, looks_told}
use Rattle.text.specs.Lines.{line_of as textLine}
use Rattle.report.specs.Lines.{refused_line, told_line, ring_lines, board_line, bound_line, net_line, end_line}
use Rattle.programs.specs.Programs.{within_limit, of_pin_list, of_filled, listing, judge_lines}
use Rattle.programs.specs.Programs.{listing_output, board_output, judge_output}

-- two lists of numbers are equal, as a test
abbrev pub same : List ℕ → List ℕ → Bool
same [] [] = true
same [] (y ∷ ys) = false
same (x ∷ xs) [] = false
same (x ∷ xs) (y ∷ ys) = eqb x y && same xs ys

abbrev same_lists : List (List ℕ) → List (List ℕ) → Bool
same_lists [] [] = true
same_lists [] (y ∷ ys) = false
same_lists (x ∷ xs) [] = false
same_lists (x ∷ xs) (y ∷ ys) = same x y && same_lists xs ys

abbrev pub all : List Bool → Bool
all [] = true
all (b ∷ bs) = b && all bs

abbrev text_a : List ℕ
text_a = bytes "TOP 0 1 2 3\nBOT 1 2 0 3\n"

abbrev text_b : List ℕ
text_b = bytes "TOP 0 1 6 1 2 3 5\nBOT 6 3 5 4 0 2 4\n"

abbrev text_c : List ℕ
text_c = bytes "TOP 1 2\nBOT 2 1\n"

abbrev text_d : List ℕ
text_d = bytes "TOP 1 2 3 1\nBOT 2 3 2 0\n"

abbrev text_e : List ℕ
text_e = bytes "TOP 1 0 1 2 0 2\nBOT 0 3 0 0 3 0\n"

abbrev text_f : List ℕ
text_f = bytes "TOP 0\nBOT 0\n"

abbrev text_g : List ℕ
text_g = bytes "TOP 5\nBOT 5\n"

-- SCOPE, Req 01: A as an order screen pads it into columns, its lines ended in two bytes; and with pads and ends that
-- differ from number to number and from line to line
abbrev padded_a : List ℕ
padded_a = bytes "TOP   0   1   2   3\r\nBOT   1   2   0   3\r\n"

abbrev ragged_a : List ℕ
ragged_a = bytes "TOP 0  1 2    3\nBOT  1 2 0 3\r\n"

-- both rows of a text, one behind the other
abbrev rows_of : List ℕ → List ℕ
rows_of text = (text_channel text).top ++ (text_channel text).bot

-- SCOPE, Req 04: "example L becomes a board with no tracks"
abbrev text_l : List ℕ
text_l = bytes "TOP 1 0\nBOT 0 0\n"

-- a parked pin opposite a net's pin, and one between a net's pins
abbrev opposite : List ℕ
opposite = bytes "TOP 1 0 2\nBOT 0 0 1\n"

abbrev between : List ℕ
between = bytes "TOP 1 2 1\nBOT 0 0 0\n"

-- copper that is joined to the parked pin of `between` alone: it crosses the trunk and does not touch it
abbrev stub : Piece
stub = Branch (column 2) (row 1) (row 2)

-- what the router tells of a channel with buffers of the sizes asked: the number, then the values
abbrev channel_routed : Channel → List ℕ
channel_routed ch = let told = route_told (route_answer (route_trays 1022 10240) ch) in told.number ∷ told.values

abbrev routed : List ℕ → List ℕ
routed text = channel_routed (text_channel text)

-- the track of each net
abbrev tracks : List ℕ → List ℕ
tracks text = map (λ r. r.track.0) (records_made (text_channel text) (fill (text_channel text)))

-- the ring's pairs, as they fill the front of a ring buffer
abbrev pairs : List ℕ → List ℕ
pairs text = ring_numbers (ring_shown (text_channel text) (fill (text_channel text)))

-- SCOPE, Req 07: the looks that the router answers, those told of rows alone, and their ceiling
abbrev looked : List ℕ → List ℕ
looked text =
    let ch = text_channel text in
    looks_answered (route_trays 1022 10240) ch
    ∷ ((looks_told (looks_answer ch)).values ++ (looks_told (ceiling_answer ch)).values)

-- C beside a net that is placed: the scan for track 1 places that net alone, the one for track 2 none
abbrev beside_c : List ℕ
beside_c = bytes "TOP 1 2 3 3\nBOT 2 1 0 0\n"

-- density and chain
abbrev bound : List ℕ → List ℕ
bound text = (bounds_told (bounds_answer (text_channel text))).values

-- the board file of a layout, judged for a channel: the number, then the values
abbrev layout_judged : Channel → Layout → List ℕ
layout_judged ch l =
    let told = judge_told (judge_answer ch (encode (width ch) l) scratch_tray) in told.number ∷ told.values

-- the layout of a channel with its pieces changed, judged
abbrev judged_with : List ℕ → (List Piece → List Piece) → List ℕ
judged_with text change =
    let ch = text_channel text in
    let l = layout_drawn ch (fill ch) in
    layout_judged ch (record { tracks = l.tracks; pieces = change l.pieces })

-- SCOPE, Req 02: the smallest list for which the left-edge rule takes more tracks one way up than the other
abbrev lopsided : List ℕ
lopsided = bytes "TOP 1 2 1 3 3\nBOT 0 0 0 0 2\n"

-- a chain of three nets, and a layout of it in which net 2 changes its track in a column without pins
abbrev chained : List ℕ
chained = bytes "TOP 1 1 0 2 0\nBOT 0 2 0 3 3\n"

abbrev split_trunks : Layout
split_trunks =
    record {
      tracks = 2;
      pieces =
          Trunk (track 2) (column 1) (column 2)
          ∷ Branch (column 1) (row 2) (row 3)
          ∷ Contact (column 1) (track 2)
          ∷ Branch (column 2) (row 2) (row 3)
          ∷ Contact (column 2) (track 2)
          ∷ Trunk (track 1) (column 2) (column 3)
          ∷ Branch (column 2) (row 0) (row 1)
          ∷ Contact (column 2) (track 1)
          ∷ Branch (column 3) (row 1) (row 2)
          ∷ Contact (column 3) (track 1)
          ∷ Contact (column 3) (track 2)
          ∷ Trunk (track 2) (column 3) (column 4)
          ∷ Branch (column 4) (row 2) (row 3)
          ∷ Contact (column 4) (track 2)
          ∷ Trunk (track 1) (column 4) (column 5)
          ∷ Branch (column 4) (row 0) (row 1)
          ∷ Contact (column 4) (track 1)
          ∷ Branch (column 5) (row 0) (row 1)
          ∷ Contact (column 5) (track 1)
          ∷ [];
    }

-- of the list turned over: what the router tells, density and chain, and the drawing turned over and judged for it
abbrev turned_over : List ℕ → List (List ℕ)
turned_over text =
    let ch = text_channel text in
    channel_routed (turned ch)
    ∷ (bounds_told (bounds_answer (turned ch))).values
    ∷ layout_judged (turned ch) (flipped (layout_drawn ch (fill ch)))
    ∷ []

-- and the other way about: the turned list's drawing, turned over and judged for the list
abbrev back_over : List ℕ → List ℕ
back_over text =
    let ch = text_channel text in layout_judged ch (flipped (layout_drawn (turned ch) (fill (turned ch))))

-- the pieces without the one in place i, from 1
abbrev without : ℕ → List Piece → List Piece
without zero ps = ps
without (suc i) ps = take i ps ++ drop (suc i) ps

pub starred :
    all
    (same (listing_output text_a) (bytes "BOARD 4 2 8\nBOUND 2 2\nNET 1 1 2 2\nNET 2 2 3 1\nNET 3 4 4 0\nEND 11\n")
    ∷ same (take 8 (board_output text_a)) (0x01 ∷ 0x00 ∷ 0x40 ∷ 0x16 ∷ 0x00 ∷ 0x20 ∷ 0x04 ∷ 0x02 ∷ [])
    ∷ same (judge_output text_a (board_output text_a)) (bytes "GOOD 2\n")
    ∷ same (tracks text_b) (5 ∷ 3 ∷ 4 ∷ 1 ∷ 2 ∷ 3 ∷ [])
    ∷ same (bound text_b) (4 ∷ 3 ∷ [])
    ∷ same (routed text_c) (7 ∷ 2 ∷ [])
    ∷ same (pairs text_c) (1 ∷ 1 ∷ 2 ∷ 2 ∷ [])
    ∷ same (listing_output text_c) (bytes "REFUSED 7 2\nRING 1 1\nRING 2 2\n")
    ∷ same (routed text_d) (7 ∷ 2 ∷ [])
    ∷ same (pairs text_d) (2 ∷ 2 ∷ 3 ∷ 3 ∷ [])
    ∷ same (tracks text_e) (1 ∷ 1 ∷ 2 ∷ [])
    ∷ same (routed text_f) (0 ∷ 0 ∷ 0 ∷ [])
    ∷ same (routed text_g) (0 ∷ 1 ∷ 0 ∷ [])
    ∷ same (listing_output text_g) (bytes "BOARD 1 0 8\nBOUND 0 0\nNET 5 1 1 0\nEND 1\n")
    ∷ same (judged_with text_a (without 8)) (12 ∷ 6 ∷ [])
    ∷ same (judged_with text_a (λ ps. set ps 3 (Branch (column 2) (row 1) (row 3)))) (11 ∷ 3 ∷ [])
    ∷ same (judged_with text_a (λ ps. ps ++ (Trunk (track 2) (column 3) (column 4) ∷ []))) (13 ∷ 12 ∷ [])
    ∷ same (listing_output (bytes "TOP 01")) (bytes "REFUSED 2 5\n")
    ∷ same (rows_of padded_a) (0 ∷ 1 ∷ 2 ∷ 3 ∷ 1 ∷ 2 ∷ 0 ∷ 3 ∷ [])
    ∷ same (rows_of ragged_a) (rows_of text_a)
    ∷ same (listing_output padded_a) (listing_output text_a)
    ∷ same (board_output ragged_a) (board_output text_a)
    ∷ same (listing_output (bytes "TOP 1\r")) (bytes "REFUSED 2 6\n")
    ∷ same (listing_output (bytes "TOP 1\rBOT 1\r")) (bytes "REFUSED 2 6\n")
    ∷ same (listing_output (bytes "TOP 1\r\r\nBOT 1\n")) (bytes "REFUSED 2 6\n")
    ∷ same (listing_output (bytes "TOP 1  \nBOT 1\n")) (bytes "REFUSED 2 7\n")
    ∷ same (listing_output (bytes "TOP 1 \r\nBOT 1\r\n")) (bytes "REFUSED 2 6\n")
    ∷ same (listing_output (bytes "TOP  01\nBOT 1\n")) (bytes "REFUSED 2 6\n")
    ∷ same (listing_output (bytes "TOP\t1\nBOT 1\n")) (bytes "REFUSED 2 3\n")
    ∷ same (listing_output (bytes "TOP 1 \t2\nBOT 2 1\n")) (bytes "REFUSED 2 6\n")
    ∷ same (listing_output text_l) (bytes "BOARD 2 0 8\nBOUND 0 0\nEND 0\n")
    ∷ same (board_output text_l) (0x00 ∷ 0x80 ∷ 0x00 ∷ 0x00 ∷ [])
    ∷ same (judge_output text_l (board_output text_l)) (bytes "GOOD 0\n")
    ∷ same (listing_output opposite) (bytes "BOARD 3 1 8\nBOUND 1 1\nNET 1 1 3 1\nEND 5\n")
    ∷ same (judged_with opposite (λ ps. ps)) (0 ∷ 1 ∷ [])
    ∷ same (judged_with between (λ ps. ps ++ (stub ∷ []))) (0 ∷ 1 ∷ [])
    ∷ same (judged_with between (λ ps. ps ++ (stub ∷ Contact (column 2) (track 1) ∷ []))) (11 ∷ 2 ∷ [])
    -- the unplaced nets as each scan of B begins: 6, of which track 1 takes net 4; 5, net 5; 4, nets 2 and 6; 2, net 3;
    -- and 1, net 1. Together 18, of at most 6 * 7 / 2 = 21
    ∷ same (looked text_b) (18 ∷ 18 ∷ 21 ∷ [])
    -- in C each of two nets is above the other: one scan, of both, which stays empty; at most 2 * 3 / 2 = 3
    ∷ same (looked text_c) (2 ∷ 2 ∷ 3 ∷ [])
    -- in D net 1 is above net 2, and nets 2 and 3 are above each other: one scan, of all three, which stays empty; at
    -- most 3 * 4 / 2 = 6
    ∷ same (looked text_d) (3 ∷ 3 ∷ 6 ∷ [])
    -- the unplaced nets as each scan of E begins: 3, of which track 1 takes nets 1 and 2; and 1, net 3. Together 4, of
    -- at most 6
    ∷ same (looked text_e) (4 ∷ 4 ∷ 6 ∷ [])
    -- 3, of which track 1 takes net 3; and 2, of which track 2 takes none. Together 5, of at most 6
    ∷ same (looked beside_c) (5 ∷ 5 ∷ 6 ∷ [])
    -- a straight net has no span, and a parked one neither
    ∷ same (looked text_g) (0 ∷ 0 ∷ 0 ∷ [])
    ∷ same (looked text_l) (0 ∷ 0 ∷ 0 ∷ [])
    -- density and chain are 2 both ways. From below, track 1 takes net 1 alone, for net 3 waits for net 2: 3 tracks.
    -- Turned over it takes nets 1 and 3: 2 tracks, and that copper turned back is a good board of the first list
    ∷ same (routed lopsided) (0 ∷ 15 ∷ 3 ∷ [])
    ∷ same (bound lopsided) (2 ∷ 2 ∷ [])
    ∷ same_lists (turned_over lopsided) ((0 ∷ 15 ∷ 2 ∷ []) ∷ (2 ∷ 2 ∷ []) ∷ (0 ∷ 3 ∷ []) ∷ [])
    ∷ same (back_over lopsided) (0 ∷ 2 ∷ [])
    -- the chain of 3 is a floor for layouts with one trunk piece per net, and for those alone: with a split trunk 2
    -- tracks are enough, turned over too
    ∷ same (bound chained) (2 ∷ 3 ∷ [])
    ∷ same (routed chained) (0 ∷ 15 ∷ 3 ∷ [])
    ∷ same (layout_judged (text_channel chained) split_trunks) (0 ∷ 2 ∷ [])
    ∷ same (layout_judged (turned (text_channel chained)) (flipped split_trunks)) (0 ∷ 2 ∷ [])
    -- B takes one track more turned over; C and D stay tangled, with rings of their own
    ∷ same_lists (turned_over text_b) ((0 ∷ 30 ∷ 6 ∷ []) ∷ (4 ∷ 3 ∷ []) ∷ (0 ∷ 5 ∷ []) ∷ [])
    ∷ same (channel_routed (turned (text_channel text_c))) (7 ∷ 2 ∷ [])
    ∷ same (channel_routed (turned (text_channel text_d))) (7 ∷ 2 ∷ [])
    ∷ [])
    ≡ true
unfolding
    keep each any_of all_of from head_or last_or greatest least at bytes digits_of refuse_if refuse_at_first ◌or_else◌ answered
    filled_unless short_tray
    kind_of left right low high over flip line_of from_of to_of fields_right make_piece kinds_meet pin_meets covers touches
    pin_count is_net pin_columns first_column last_column nets has_span spanning
    spans_over spans_of density above drops depth chain
    too_wide uneven high_net rows_refusal bounds_answer refusals.told column_of row_of net_of pin_touches
    after_number first_digit line_step top_step bot_step step at_end read_from read_text garbled_refusal channel_of text_refusal
    is_placed track_of fits clear_below scan or_else fill_from fill_items first_drop from_visit walk ring_of ring_numbers starting
    looks_from item_looks ceiling looks
    fill_order net_items fill record_of records
    word header fields piece_word encode word_at file_width file_tracks file_count file_spare header_of fields_of word_right
    piece_of torn bad_field open_refusal pieces_from file_layout
    elements elements_touch marks_of marks_met remark add_element classes_from classes marks pins first_of_net shorts opens
    floating fault_at_first finding
    wrong_board judge_refusal judged judge_answer fault_number fault_place judge_told stock smallest_for no_blank
    branch_in draw_column draw_span draw_straight draw_net draw ring_shown tangled layout_drawn records_made route_refusal
    route_answer filled_under7 ring_after looks_unless looks_answered looks_answer ceiling_answer
    textLine refused_line told_line ring_lines board_line bound_line net_line end_line
    within_limit of_pin_list of_filled listing listing_output board_output judge_lines judge_output
starred = refl
