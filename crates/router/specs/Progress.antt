-- SCOPE, Req 07: "The order screen's progress bar needs a ceiling". What is answered of rows alone: the looks of the
-- fill, and the most that they can be.
use Rattle.std.specs.Prelude.{ℕ, [], ◌∷◌, length, Result}
use Rattle.refusal.specs.declared.Refusal.{Refusal}
use Rattle.refusal.specs.Refusals.{Told, ok_unless, told}
use Rattle.channel.specs.Channel.{Channel, spanning}
use Rattle.channel.specs.Answers.{rows_refusal}
use Rattle.leftedge.specs.Looks.{ceiling}
use Rattle.leftedge.specs.Nets.{looks}

-- 3 to 5, or the looks, of a tangled channel too
unfoldable pub looks_answer : Channel → Result ℕ Refusal
looks_answer ch = ok_unless (rows_refusal ch) (looks ch)

-- "For n nets with spans it is at most n times (n + 1), halved."
unfoldable pub ceiling_answer : Channel → Result ℕ Refusal
ceiling_answer ch = ok_unless (rows_refusal ch) (ceiling (length (spanning ch)))

abbrev pub looks_told : Result ℕ Refusal → Told
looks_told = told (λ n. n ∷ [])
