-- Reading a text is told by its refusal, or by the width, which is at most 512.
use Rattle.std.specs.Prelude.{ℕ, ◌≤◌, ◌≡◌, List, [], ◌∷◌, Ok}
use Rattle.std.proofs.Common.{arith, sym, ◌∙◌}
use Rattle.std.proofs.Math.Path.{ap}
use Rattle.refusal.specs.Refusals.{told_by, told}
use Rattle.refusal.specs.ChainLaws.{or_else_none}
use Rattle.refusal.specs.ToldLaws.{told-ok_unless, told-success}
use Rattle.refusal.specs.Trays.{short_tray}
use Rattle.channel.specs.Channel.{width, widest}
use Rattle.channel.specs.Answers.{rows_refusal}
use Rattle.channel.proofs.EscapeLaws.{accepted-exactly}
use Rattle.pinlist.specs.Reader.{read_text}
use Rattle.pinlist.specs.Answers.{garbled_refusal, text_channel, text_refusal, read_refusal, read_answer, read_told}

module _ (text : List ℕ) (top bot : ℕ) where
  pub read_told_lem : read_told (read_answer text top bot) ≡ told_by (read_refusal text top bot) (width (text_channel text) ∷ [])
  unfolding read_answer
  read_told_lem = told-ok_unless _ (read_refusal text top bot) _

  pub width_small : {w : ℕ} → read_answer text top bot ≡ Ok w → w ≤ widest
  unfolding told read_refusal text_refusal
  width_small {w} e =
      let s = told-success (read_refusal text top bot) _ (w ∷ []) (sym read_told_lem ∙ ap read_told e) in
      let late = or_else_none (short_tray _) (text_refusal text) s.0 in
      let later = or_else_none (garbled_refusal (read_text text)) (rows_refusal (text_channel text)) late.1 in
      let escapes = (accepted-exactly (text_channel text)).0 later.1 in
      let same : width (text_channel text) ≡ w = cc s.1 in
      omega (arith, escapes.narrow)
