-- SCOPE, refusals 1 to 5 of a text that is read into two lent rows: the answer, and what each row then holds.
use Rattle.std.specs.Prelude.{ℕ, List, [], ◌∷◌, length, Result}
use Rattle.std.proofs.Math.Option.{Option, none, some}
use Rattle.refusal.specs.declared.Refusal.{Refusal}
use Rattle.refusal.specs.declared.Refusal.TheVariants.{Garbled}
use Rattle.refusal.specs.Refusals.{Told, ◌or_else◌, ok_unless, told, filled_unless}
use Rattle.refusal.specs.Trays.{row_tray, short_tray}
use Rattle.channel.specs.Channel as channel
use Rattle.channel.specs.Channel.{Channel, width}
use Rattle.channel.specs.Answers.{rows_refusal}
use Rattle.pinlist.specs.Reader.{TextRead, rows, garbled, read_text}

-- 2: "not the form above"
unfoldable pub garbled_refusal : TextRead → Option Refusal
garbled_refusal (rows top bot) = none
garbled_refusal (garbled n) = some (Garbled n)

-- the channel that a text of the form writes down
unfoldable pub channel_of : TextRead → Channel
channel_of (rows top bot) = channel.rows top bot
channel_of (garbled n) = channel.rows [] []

abbrev pub text_channel : List ℕ → Channel
text_channel text = channel_of (read_text text)

-- 2 to 5 of a text, in rising number
unfoldable pub text_refusal : List ℕ → Option Refusal
text_refusal text = garbled_refusal (read_text text) or_else rows_refusal (text_channel text)

-- 1 to 5, where rows of these lengths are lent
unfoldable pub read_refusal : List ℕ → ℕ → ℕ → Option Refusal
read_refusal text lentTop lentBot =
    short_tray (record { lent = lentTop; needed = row_tray } ∷ record { lent = lentBot; needed = row_tray } ∷ []) or_else
    text_refusal text

unfoldable pub read_answer : List ℕ → ℕ → ℕ → Result ℕ Refusal
read_answer text lentTop lentBot = ok_unless (read_refusal text lentTop lentBot) (width (text_channel text))

-- the lent rows after reading, where `top` and `bot` are those before it
unfoldable pub top_after : List ℕ → List ℕ → List ℕ → List ℕ
top_after text top bot = filled_unless (read_refusal text (length top) (length bot)) (text_channel text).top top

unfoldable pub bot_after : List ℕ → List ℕ → List ℕ → List ℕ
bot_after text top bot = filled_unless (read_refusal text (length top) (length bot)) (text_channel text).bot bot

abbrev pub read_told : Result ℕ Refusal → Told
read_told = told (λ w. w ∷ [])
