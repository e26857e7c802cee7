-- A pin list that is written of rows has the form that the reader takes, and is read as these rows. Where they escape
-- refusals 3 to 5 it is far below the limit, and it passes.
use Rattle.std.specs.Prelude.{ℕ, ◌*◌, ◌≤◌, ◌<◌, ◌≡◌, List, [], ◌∷◌, true, get_or}
use Rattle.std.proofs.Common.{arith, sym, subst, append-nil, append_assoc, le-ltb}
use Rattle.std.proofs.Math.Path.{ap}
use Rattle.std.proofs.Math.Option.{none}
use Rattle.std.proofs.Math.ListN.{length, length-append}
use Rattle.lists.specs.Lists.{each}
use Rattle.lists.specs.Bytes.{bytes}
use Rattle.lists.specs.Digits.{decimal-few}
use Rattle.lists.specs.Eaches.{length-each-few}
use Rattle.lists.specs.Ends.{member-at}
use Rattle.refusal.specs.Refusals.{◌or_else◌}
use Rattle.channel.specs.Channel.{Channel, highest_net}
use Rattle.channel.specs.Answers.{Escapes}
use Rattle.channel.proofs.EscapeLaws.{accepted-exactly, top-low, bot-low}
use Rattle.pinlist.specs.Form.{space, feed, Numbers, one, more, Form}
use Rattle.pinlist.specs.Reader.{rows, read_text}
use Rattle.pinlist.proofs.ReaderLaws.{read-exactly}
use Rattle.pinlist.specs.Answers.{garbled_refusal, channel_of, text_channel, text_refusal}
use Rattle.text.specs.Lines.{field, line_of}
use Rattle.programs.specs.Programs.{input_limit, pin_list}
use Rattle.programs.specs.Code.{silent, pins_pass}

-- each number behind one space
row-numbers : (ns : List ℕ) → 0 < length ns → Numbers (each field ns) ns
unfolding each
row-numbers [] h = absurd (omega arith)
row-numbers (n ∷ []) h =
    subst (λ (text : List ℕ). Numbers text (n ∷ [])) (sym (append-nil (field n))) (one (0x20 ∷ []) n space)
row-numbers (n ∷ (m ∷ ms)) h = more (0x20 ∷ []) n space (row-numbers (m ∷ ms) (omega arith))

-- a number of at most 511 has at most three digits
row-few : (row : List ℕ) → ((k : ℕ) → get_or row k 0 ≤ highest_net) → length (each field row) ≤ 4 * length row
row-few row low =
    length-each-few 4 field row
    (λ n m. let i = member-at m in let e = i.2 in let digits = decimal-few 2 n (omega (arith, low i.0)) in
    omega arith)

-- rows that are not empty are read back
module _ (ch : Channel) (tops : 0 < length ch.top) (bots : 0 < length ch.bot) where
  formed : Form (pin_list ch) ch.top ch.bot
  unfolding pin_list line_of
  formed =
      record {
        top_text = each field ch.top;
        bot_text = each field ch.bot;
        end₁ = 0x0A ∷ [];
        end₂ = 0x0A ∷ [];
        top_numbers = row-numbers ch.top tops;
        bot_numbers = row-numbers ch.bot bots;
        top_end = feed;
        bot_end = feed;
        written = simp append_assoc;
      }

  pub pins-back : read_text (pin_list ch) ≡ rows ch.top ch.bot
  pins-back = ((read-exactly (pin_list ch)).rows-exactly ch.top ch.bot).1 formed

  pub channel-back : text_channel (pin_list ch) ≡ ch
  unfolding channel_of
  channel-back = ap channel_of pins-back

-- rows that escape refusals 3 to 5 make a text that passes
module _ (ch : Channel) (esc : Escapes ch) where
  few_bytes : length (pin_list ch) ≤ input_limit
  unfolding pin_list line_of bytes
  few_bytes =
      let narrow = esc.narrow in
      let even = esc.even in
      let tops = row-few ch.top (λ k. top-low ch k esc) in
      let bots = row-few ch.bot (λ k. bot-low ch k esc) in
      simp length-append (omega arith)

  unrefused : text_refusal (pin_list ch) ≡ none
  unfolding text_refusal garbled_refusal channel_of ◌or_else◌
  unrefused =
      let bots : 0 < length ch.bot = omega (arith, esc.even, esc.wide) in
      rw (pins-back ch esc.wide bots) ((accepted-exactly ch).1 esc)

  pub pins-written-pass : pins_pass (pin_list ch) ≡ true
  unfolding pins_pass silent
  pins-written-pass = rw (le-ltb input_limit (length (pin_list ch)) few_bytes, unrefused)
