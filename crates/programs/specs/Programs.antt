-- SCOPE, "Judge, blanks, programs", and Req 05 and Req 09: what each of the programs writes to standard output, of the
-- bytes that it reads.
use Rattle.std.specs.Prelude.{ℕ, List, ◌++◌, cond, length, ltb, eqb}
use Rattle.lists.specs.Lists.{each}
use Rattle.refusal.specs.Refusals.{told_at, Told, answered}
use Rattle.refusal.specs.Trays.{scratch_tray}
use Rattle.channel.specs.Channel.{Channel, width}
use Rattle.channel.specs.Density.{density}
use Rattle.channel.specs.Constraints.{chain}
use Rattle.pinlist.specs.Answers.{text_refusal, text_channel}
use Rattle.leftedge.specs.Nets.{fill}
use Rattle.rings.specs.Fewest.{fewest, fewest_ring}
use Rattle.panel.specs.Joined.{joined}
use Rattle.panel.specs.Answers.{panel_refusal}
use Rattle.boardfile.specs.Encode.{encode}
use Rattle.judge.specs.declared.JudgeAnswer.{JudgeAnswer}
use Rattle.judge.specs.Answers.{judge_answer, judge_told}
use Rattle.blanks.specs.Stock.{stock, smallest_for, no_blank}
use Rattle.router.specs.Route.{tangled, ring_shown, layout_drawn, records_made}
use Rattle.text.specs.Lines.{line}
use Rattle.report.specs.Lines.{
  refused_line,
  told_line,
  refusal_line,
  ring_lines,
  none_line,
  board_line,
  bound_line,
  net_line,
  end_line,
}

-- "An input over 65,536 bytes is not handed to the library and prints REFUSED 0 65536"
abbrev pub input_limit : ℕ
input_limit = 65536

abbrev pub over_limit : Told
over_limit = told_at 0 input_limit

unfoldable pub within_limit : List ℕ → List ℕ → List ℕ
within_limit input output = cond (ltb input_limit (length input)) (refused_line over_limit) output

-- a pin list's refusal, or what is made of its channel
unfoldable pub of_pin_list : (Channel → List ℕ) → List ℕ → List ℕ
of_pin_list output text = within_limit text (answered refusal_line (text_refusal text) (output (text_channel text)))

-- refusal 7 with its ring, or what is made of a channel that is filled
unfoldable pub of_filled : (Channel → List ℕ) → Channel → List ℕ
of_filled output ch =
    answered (λ r. refusal_line r ++ ring_lines (ring_shown ch (fill ch))) (tangled ch (fill ch)) (output ch)

-- the listing's lines; a routed channel has fewer tracks than the largest blank, so refusal 14 does not come
unfoldable pub listing : Channel → List ℕ
listing ch =
    let l = layout_drawn ch (fill ch) in
    answered refusal_line (no_blank l.tracks)
    (board_line (width ch) l.tracks (smallest_for stock l.tracks)
    ++ (bound_line (density ch) (chain ch)
    ++ (each net_line (records_made ch (fill ch))
    ++ end_line (length l.pieces))))

-- the board file of a channel that is filled
abbrev pub board_bytes : Channel → List ℕ
board_bytes ch = encode (width ch) (layout_drawn ch (fill ch))

-- SCOPE, Req 05: the pairs of the ring with the fewest nets, a line each; or that there is none
unfoldable pub fewest_lines : Channel → List ℕ
fewest_lines ch = cond (eqb (fewest ch) 0) none_line (ring_lines (fewest_ring ch))

-- the pin list of rows: one space before each number, one line feed at the end of each line
unfoldable pub pin_list : Channel → List ℕ
pin_list ch = line "TOP" ch.top ++ line "BOT" ch.bot

-- SCOPE, Req 09: the joined list of two lists that each pass alone, or the line of its refusal
unfoldable pub panel_lines : Channel → Channel → List ℕ
panel_lines ch dh = answered refusal_line (panel_refusal ch dh) (pin_list (joined ch dh))

-- "printing GOOD and tracks"
unfoldable pub judge_lines : JudgeAnswer → List ℕ
judge_lines a = told_line "GOOD" (judge_told a)

-- what is written of a board that is judged against a channel
abbrev pub judged_against : List ℕ → Channel → List ℕ
judged_against board ch = within_limit board (judge_lines (judge_answer ch board scratch_tray))

-- "The listing program reads a pin list on standard input"
unfoldable pub listing_output : List ℕ → List ℕ
listing_output text = of_pin_list (of_filled listing) text

-- "another writes its board file to standard output"
unfoldable pub board_output : List ℕ → List ℕ
board_output text = of_pin_list (of_filled board_bytes) text

-- "a third judges files `pins` and `board`"; "`pins` is refused before `board` is read"
unfoldable pub judge_output : List ℕ → List ℕ → List ℕ
judge_output pins board = of_pin_list (judged_against board) pins

-- a fourth finds the ring with the fewest nets of the pin list that it reads
unfoldable pub ring_output : List ℕ → List ℕ
ring_output text = of_pin_list fewest_lines text

-- a fifth joins the pin lists in the files `first` and `second`; "each list is checked alone, one then two"
unfoldable pub panel_output : List ℕ → List ℕ → List ℕ
panel_output first second = of_pin_list (λ ch. of_pin_list (panel_lines ch) second) first
