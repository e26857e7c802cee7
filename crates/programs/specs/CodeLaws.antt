-- From what the library's functions answer to what the programs write: of a text that is refused or read, of a refusal,
-- and of a board that is judged.
use Rattle.std.specs.Prelude.{ℕ, suc, ◌≤◌, ◌<◌, refl, List, [], ◌∷◌, ◌++◌, take, Result, Ok, Err, IfOk, IfErr, is_ok}
use Prim.Native.String.{String}
use Rattle.std.proofs.Common.{arith, ◌∙◌, append-nil, length-take-le, lt-ltb, le-ltb, ne_eqb}
use Rattle.std.proofs.Math.Path.{◌≡◌, sym, ap, subst}
use Rattle.std.proofs.Math.Option.{Option, none, some}
use Rattle.std.proofs.Math.ListN.{length}
use Rattle.io.specs.Counts.{IsPrefixLen}
use Rattle.lists.specs.Overlays.{overlay-front}
use Rattle.refusal.specs.declared.Refusal.{Refusal}
use Rattle.refusal.specs.Refusals.{told_at, Told, number_of, refuse_if, ok_unless, filled_unless}
use Rattle.refusal.specs.ChainLaws.{or_else_none, answered-none, answered-some, ok→none, err→some}
use Rattle.refusal.specs.TrayLaws.{refusal-numbered}
use Rattle.refusal.specs.Trays.{row_tray, record_tray}
use Rattle.channel.specs.Channel.{Channel, width, rows}
use Rattle.channel.specs.Answers.{Escapes, rows_refusal, bounds_of, bounds_answer}
use Rattle.channel.proofs.EscapeLaws.{accepted-exactly}
use Rattle.pinlist.specs.Answers.{garbled_refusal, text_channel, text_refusal, read_answer, top_after, bot_after}
use Rattle.pinlist.specs.Reader.{read_text}
use Rattle.pinlist.specs.Code.{ReadDone}
use Rattle.pinlist.proofs.ReadLaws.{long-rows}
use Rattle.judge.specs.declared.Fault.{Fault}
use Rattle.judge.specs.declared.JudgeAnswer.TheVariants as judging
use Rattle.judge.specs.Answers.{fault_number, fault_place, judge_told}
use Rattle.judge.proofs.OnBytes.{fault-numbered}
use Rattle.blanks.specs.Stock.{stock, smallest_for, no_blank, blank_answer}
use Rattle.text.specs.Lines.{line}
use Rattle.report.specs.Lines.{refused_line, told_line, refusal_line}
use Rattle.report.specs.Code.{ring_text}
use Rattle.programs.specs.declared.pins.Pins.{Pins}
use Rattle.programs.specs.declared.Unread.{Unread}
use Rattle.programs.specs.declared.Unread.TheVariants.{OverLimit, Refused}
use Rattle.refusal.specs.declared.Refusal.TheVariants.{ShortTray, Garbled, TooWide, Uneven, HighNet, Tangled, Torn, BadField, WrongBoard, NoBlank, BadTable, NoStock, PanelFull, BadSpan, AlreadyHere, NotHere}
use Rattle.programs.specs.Programs.{input_limit, over_limit, within_limit, of_pin_list, judge_lines}
use Rattle.programs.specs.Code.{unrouted_text, silent, pins_pass, PinsUnread, PinsRead}

-- what is written within a buffer can be taken from its front
pub counts : (r : ℕ) (after : List ℕ) → r ≤ length after → IsPrefixLen r after
counts r after h = (h, sym (length-take-le r after h))

-- refusal 7 of the router, with the lines of a ring behind its line
pub with-ring : (pairs : ℕ) (ring : List ℕ)
    → refusal_line (Tangled pairs) ++ ring_text ring pairs ≡ unrouted_text (Tangled pairs) ring
unfolding unrouted_text
with-ring pairs ring = refl

-- any other refusal stands alone
not-seven : (q : Refusal) → ((p : ℕ) → q ≡ Tangled p → ⊥) → number_of q ≡ 7 → ⊥
not-seven (ShortTray p) other seven = omega arith
not-seven (Garbled p) other seven = omega arith
not-seven (TooWide p) other seven = omega arith
not-seven (Uneven p) other seven = omega arith
not-seven (HighNet p) other seven = omega arith
not-seven (Tangled p) other seven = other p refl
not-seven (Torn p) other seven = omega arith
not-seven (BadField p) other seven = omega arith
not-seven (WrongBoard p) other seven = omega arith
not-seven (NoBlank p) other seven = omega arith
not-seven (BadTable p) other seven = omega arith
not-seven (NoStock p) other seven = omega arith
not-seven (PanelFull p) other seven = omega arith
not-seven (BadSpan p) other seven = omega arith
not-seven (AlreadyHere p) other seven = omega arith
not-seven (NotHere p) other seven = omega arith

pub without-ring : (q : Refusal) (ring : List ℕ)
    → ((p : ℕ) → q ≡ Tangled p → ⊥) → refusal_line q ≡ unrouted_text q ring
unfolding unrouted_text
without-ring q ring other = sym (rw (ne_eqb (number_of q) 7 (not-seven q other)) (append-nil (refusal_line q)))

-- the line of what the judge answered
told-refused : (word : String) (t : Told) → 0 < t.number → refused_line t ≡ told_line word t
unfolding told_line
told-refused word t h = sym (rw (ne_eqb t.number 0 (λ e. omega arith)))

pub good-line : (t : ℕ) → line "GOOD" (t ∷ []) ≡ judge_lines (judging.Good t)
unfolding judge_lines judge_told told_line
good-line t = refl

pub fault-line : (f : Fault) → refused_line (told_at (fault_number f) (fault_place f)) ≡ judge_lines (judging.Faulty f)
unfolding judge_lines judge_told
fault-line f = told-refused "GOOD" (judge_told (judging.Faulty f)) (fault-numbered f)

pub refused-line : (q : Refusal) → refusal_line q ≡ judge_lines (judging.Refused q)
unfolding judge_lines judge_told
refused-line q = told-refused "GOOD" (judge_told (judging.Refused q)) (refusal-numbered q)

module _ (text : List ℕ) where
  -- an input over the limit
  pub over-limit : (output : List ℕ) → input_limit < length text → refused_line over_limit ≡ within_limit text output
  unfolding within_limit
  over-limit output h = sym (rw (lt-ltb input_limit (length text) h))

  pub in-limit : (output : List ℕ) → length text ≤ input_limit → output ≡ within_limit text output
  unfolding within_limit
  in-limit output h = sym (rw (le-ltb input_limit (length text) h))

  pub over-unread : input_limit < length text → PinsUnread text OverLimit
  unfolding of_pin_list pins_pass
  over-unread h = record { fails = rw (lt-ltb input_limit (length text) h); wrote = λ output. over-limit _ h }

  module _ (h : length text ≤ input_limit) where
    pass-by : (a : Option Refusal) → text_refusal text ≡ a → silent a ≡ pins_pass text
    unfolding pins_pass
    pass-by a e = rw (le-ltb input_limit (length text) h, e)

    module _
        {top bot top' bot' : List ℕ} {r : Result ℕ Refusal} (long₁ : row_tray ≤ length top) (long₂ : row_tray ≤ length bot)
        (done : ReadDone text top bot r top' bot') where
      told : r ≡ ok_unless (text_refusal text) (width (text_channel text))
      unfolding read_answer
      told = done.answer ∙ rw (long-rows text top bot long₁ long₂)

      -- a text that is refused
      read-refused : (q : Refusal) → r ≡ Err q → text_refusal text ≡ some q
      read-refused q e = err→some _ (text_refusal text) (sym told ∙ e)

      pub text-refused : (q : Refusal) → r ≡ Err q → PinsUnread text (Refused q)
      unfolding of_pin_list silent
      text-refused q e = record {
        fails = pass-by (some q) (read-refused q e);
        wrote = λ output.
            let line = answered-some refusal_line (text_refusal text) (output (text_channel text)) q (read-refused q e) in
            sym line ∙ in-limit _ h;
      }

      module _ {w : ℕ} (e : r ≡ Ok w) where
        read-silent : (text_refusal text ≡ none) × (w ≡ width (text_channel text))
        read-silent = let s = ok→none _ (text_refusal text) (sym told ∙ e) in (s.0, sym s.1)

        escapes : Escapes (text_channel text)
        unfolding text_refusal
        escapes =
            let chain = or_else_none (garbled_refusal (read_text text)) (rows_refusal (text_channel text)) in
            (accepted-exactly (text_channel text)).0 (chain read-silent.0).1

        -- the fronts of the rows are the channel's
        top-front : take w top' ≡ (text_channel text).top
        unfolding top_after filled_unless
        top-front =
            rw (done.top_held, long-rows text top bot long₁ long₂, read-silent.0, filled_unless, read-silent.1)
            (overlay-front (text_channel text).top top)

        bot-front : take w bot' ≡ (text_channel text).bot
        unfolding bot_after filled_unless
        bot-front =
            let long = long-rows text top bot long₁ long₂ in
            rw (done.bot_held, long, read-silent.0, filled_unless, read-silent.1, sym escapes.even)
            (overlay-front (text_channel text).bot bot)

        same_rows : ◌≡◌ {A = Channel} (text_channel text) (rows (take w top') (take w bot'))
        same_rows = rw (top-front, bot-front)

        output-read : (output : Channel → List ℕ) → output (text_channel text) ≡ of_pin_list output text
        unfolding of_pin_list
        output-read output =
            sym (answered-none refusal_line (text_refusal text) (output (text_channel text)) read-silent.0)
            ∙ in-limit _ h

        pub front-escapes : Escapes (rows (take w top') (take w bot'))
        front-escapes = subst Escapes same_rows escapes

        pub width-fits : w ≤ row_tray
        width-fits = let narrow = escapes.narrow in omega (arith, read-silent.1)

        pub read-rows : (pins : Pins) → pins.top ≡ top' → pins.bot ≡ bot' → pins.width ≡ w → PinsRead text pins
        unfolding silent
        read-rows pins tops bots widths = record {
          passes = pass-by none read-silent.0;
          output = λ output.
              rw (tops, bots, widths) (ap output (sym same_rows) ∙ output-read output);
        }

-- a pin list passes just if it is read
pub passes : (text : List ℕ) (r : Result Pins Unread) → IfOk r (PinsRead text) → IfErr r (PinsUnread text)
    → is_ok r ≡ pins_pass text
passes text (Ok pins) read unread = read.passes
passes text (Err u) read unread = unread.fails

-- rows that escape have bounds, and few tracks have a blank
pub bounds-told : (ch : Channel) → Escapes ch → bounds_answer ch ≡ Ok (bounds_of ch)
unfolding bounds_answer
bounds-told ch esc =
    answered-none Err (rows_refusal ch) (Ok (bounds_of ch)) ((accepted-exactly ch).1 esc)

pub has-blank : (t : ℕ) → t ≤ record_tray → no_blank t ≡ none
unfolding no_blank refuse_if
has-blank t h = rw (le-ltb (suc record_tray) t (omega arith))

pub blank-told : (t : ℕ) → t ≤ record_tray → blank_answer t ≡ Ok (smallest_for stock t)
unfolding blank_answer
blank-told t h = answered-none Err (no_blank t) (Ok (smallest_for stock t)) (has-blank t h)
