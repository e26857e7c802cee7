-- The answers of Progress are those of the check of the rows, told by their refusal, or by a number of at most 130,816.
use Rattle.std.specs.Prelude.{ℕ, ◌≤◌, ◌≡◌, [], ◌∷◌, length, Ok, Err}
use Rattle.std.proofs.Math.Path.{sym}
use Rattle.refusal.specs.declared.Refusal.{Refusal}
use Rattle.refusal.specs.Refusals.{told_by, ok_unless}
use Rattle.refusal.specs.ChainLaws.{answered-none, answered-some, err→some}
use Rattle.refusal.specs.ToldLaws.{told-ok_unless}
use Rattle.channel.specs.Channel.{Channel, spanning}
use Rattle.channel.specs.Answers.{rows_refusal, rows_answer, Escapes}
use Rattle.channel.proofs.EscapeLaws.{accepted-exactly}
use Rattle.channel.proofs.SpanLaws.{spanning-small}
use Rattle.leftedge.specs.Looks.{ceiling}
use Rattle.leftedge.proofs.LookLaws.{ceiling-rises}
use Rattle.leftedge.specs.Nets.{looks}
use Rattle.router.specs.Progress.{looks_answer, ceiling_answer, looks_told}

module _ (ch : Channel) where
  -- a number is answered of rows that the check accepts, and else what it refuses them for
  pub number-accepted : (n : ℕ) → Escapes ch → Ok n ≡ ok_unless (rows_refusal ch) n
  number-accepted n esc = sym (answered-none Err (rows_refusal ch) (Ok n) ((accepted-exactly ch).1 esc))

  pub number-refused : (n : ℕ) {r : Refusal} → Err r ≡ rows_answer ch → Err r ≡ ok_unless (rows_refusal ch) n
  unfolding rows_answer
  number-refused n e = sym (answered-some Err (rows_refusal ch) (Ok n) _ (err→some tt (rows_refusal ch) (sym e)))

  pub looks-told : looks_told (looks_answer ch) ≡ told_by (rows_refusal ch) (looks ch ∷ [])
  unfolding looks_answer
  looks-told = told-ok_unless _ (rows_refusal ch) _

  pub ceiling-told : looks_told (ceiling_answer ch) ≡ told_by (rows_refusal ch) (ceiling (length (spanning ch)) ∷ [])
  unfolding ceiling_answer
  ceiling-told = told-ok_unless _ (rows_refusal ch) _

  -- there are at most 511 nets
  pub ceiling-small : ceiling (length (spanning ch)) ≤ 130816
  unfolding ceiling
  ceiling-small = ceiling-rises {n = 511} (spanning-small ch).2
