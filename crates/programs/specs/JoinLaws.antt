-- From what `join` answers of two lists that each pass to the lines of the panel: the pin list of the rows that it
-- fills, or the line of its refusal.
use Rattle.std.specs.Prelude.{ℕ, ◌+◌, ◌≤◌, ◌≡◌, List, take, Result, Ok, Err}
use native.Mathlib.Omega.{arith}
use Rattle.std.proofs.Math.Path.{sym, ap}
use Rattle.std.proofs.Common.{◌∙◌, length-take-le}
use Rattle.std.proofs.Math.ListN.{length}
use Rattle.refusal.specs.declared.Refusal.{Refusal}
use Rattle.refusal.specs.Refusals.{ok_unless}
use Rattle.refusal.specs.ChainLaws.{answered-none, answered-some, ok→none, err→some}
use Rattle.refusal.specs.Trays.{row_tray}
use Rattle.channel.specs.Channel.{Channel, rows, width}
use Rattle.channel.specs.Answers.{Escapes}
use Rattle.panel.specs.Joined.{joined}
use Rattle.panel.specs.Answers.{panel_refusal, join_answer}
use Rattle.panel.specs.Code.{LongRows, JoinDone}
use Rattle.panel.proofs.AnswerLaws.{passed-refusal, width-told}
use Rattle.report.specs.Lines.{refusal_line}
use Rattle.programs.specs.Programs.{pin_list, panel_lines}

-- the rows that two lists were joined into: their fronts of width w are the rows of the panel's pin list
pub record JoinedRows (ch dh : Channel) (top bot : List ℕ) (w : ℕ) : Type 0 where
  pub narrow : w ≤ row_tray
  pub top-inside : w ≤ length top
  pub bot-inside : w ≤ length bot
  pub top-size : w ≡ length (take w top)
  pub bot-size : w ≡ length (take w bot)
  pub text : pin_list (rows (take w top) (take w bot)) ≡ panel_lines ch dh

module _
    {ch dh : Channel} {top bot top' bot' : List ℕ} {r : Result ℕ Refusal} (first : Escapes ch) (second : Escapes dh)
    (long : LongRows top bot) (done : JoinDone ch dh top bot r top' bot') where
  told : r ≡ ok_unless (panel_refusal ch dh) (width ch + width dh)
  unfolding join_answer
  told = done.answer ∙ rw (passed-refusal ch dh top bot long first second)

  pub join-refused : {q : Refusal} → r ≡ Err q → refusal_line q ≡ panel_lines ch dh
  unfolding panel_lines
  join-refused {q} e =
      let refused = err→some _ (panel_refusal ch dh) (sym told ∙ e) in
      sym (answered-some refusal_line (panel_refusal ch dh) (pin_list (joined ch dh)) q refused)

  -- the lent rows keep their lengths
  pub join-filled : {w : ℕ} → r ≡ Ok w → length top' ≡ length top → length bot' ≡ length bot
      → JoinedRows ch dh top' bot' w
  unfolding panel_lines
  join-filled {w} e tops bots =
      let silent = ok→none _ (panel_refusal ch dh) (sym told ∙ e) in
      let narrow = width-told done e in
      let top-inside : w ≤ length top' = omega arith in
      let bot-inside : w ≤ length bot' = omega arith in
      record {
        narrow = narrow;
        top-inside = top-inside;
        bot-inside = bot-inside;
        top-size = sym (length-take-le w top' top-inside);
        bot-size = sym (length-take-le w bot' bot-inside);
        text = ap pin_list (done.promise w e).rows
            ∙ sym (answered-none refusal_line (panel_refusal ch dh) (pin_list (joined ch dh)) silent.0);
      }
