-- What the parts of the programs' code write and answer.
use Rattle.std.specs.Prelude.{ℕ, ◌≡◌, List, [], ◌++◌, Bool, true, false, cond, length, take, ltb, eqb}
use Rattle.std.proofs.Math.Option.{Option, none, some}
use Rattle.refusal.specs.declared.Refusal.{Refusal}
use Rattle.refusal.specs.Refusals.{number_of, place_of}
use Rattle.channel.specs.Channel.{Channel, width, rows}
use Rattle.channel.specs.Density.{density}
use Rattle.channel.specs.Constraints.{chain}
use Rattle.blanks.specs.Stock.{stock, smallest_for}
use Rattle.pinlist.specs.Answers.{text_refusal}
use Rattle.report.specs.declared.Figures.{Figures}
use Rattle.report.specs.Lines.{refused_line, refusal_line}
use Rattle.report.specs.Code.{ring_text}
use Rattle.programs.specs.declared.pins.Pins.{Pins}
use Rattle.programs.specs.declared.Unread.{Unread}
use Rattle.programs.specs.declared.Unread.TheVariants.{OverLimit, Refused}
use Rattle.programs.specs.Programs.{input_limit, over_limit, of_pin_list}

-- the line of an input that was not read
abbrev pub unread_line : Unread → List ℕ
unread_line OverLimit = refused_line over_limit
unread_line (Refused r) = refusal_line r

-- the rows that were read, and their channel
abbrev pub top_of : Pins → List ℕ
top_of pins = take pins.width pins.top

abbrev pub bot_of : Pins → List ℕ
bot_of pins = take pins.width pins.bot

abbrev pub channel_of : Pins → Channel
channel_of pins = rows (top_of pins) (bot_of pins)

-- the lines of a refusal of the router, where the front of `ring` holds the pairs under 7
unfoldable pub unrouted_text : Refusal → List ℕ → List ℕ
unrouted_text r ring = refusal_line r ++ cond (eqb (number_of r) 7) (ring_text ring (place_of r)) []

-- the figures of a listing, by the tracks and pieces that were answered
abbrev pub figures_of : Channel → ℕ → ℕ → Figures
figures_of ch tracks pieces = record {
  width = width ch;
  tracks = tracks;
  blank = smallest_for stock tracks;
  density = density ch;
  chain = chain ch;
  pieces = pieces;
}

-- nothing is refused
unfoldable pub silent : Option Refusal → Bool
silent none = true
silent (some r) = false

-- the pin list is within the limit, and is not refused
unfoldable pub pins_pass : List ℕ → Bool
pins_pass text = cond (ltb input_limit (length text)) false (silent (text_refusal text))

-- a pin list that does not pass: every program writes the line of it
pub record PinsUnread (text : List ℕ) (u : Unread) : Type 0 where
  pub fails : false ≡ pins_pass text
  pub wrote : (output : Channel → List ℕ) → unread_line u ≡ of_pin_list output text

-- a pin list that passes: what every program writes of the rows that were read
pub record PinsRead (text : List ℕ) (pins : Pins) : Type 0 where
  pub passes : true ≡ pins_pass text
  pub output : (output : Channel → List ℕ) → output (channel_of pins) ≡ of_pin_list output text
