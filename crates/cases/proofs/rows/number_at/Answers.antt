use Rattle.std.proofs.Common.{◌∙◌, arith}
use Rattle.cases.specs.CaseLaws.{number-there, number_short, pair-value}
use Rattle.cases.proofs.rows.number_at.Goals as goal
use Rattle.cases.proofs.rows.number_at.Goals.{then-bytes-lt2-via-then-bytes-lt2, then-bytes-lt2-via-else-bytes-lt2+then-bytes-at}

pub returns-then-bytes-lt2 : goal.returns-then-bytes-lt2
returns-then-bytes-lt2 c =
    elim c.then-bytes-lt2.branch [
      | then-bytes-lt2-via-then-bytes-lt2 w ↦ number_short _ _ (omega arith)
      | then-bytes-lt2-via-else-bytes-lt2+then-bytes-at w ↦ number_short _ _ (omega arith)
    ]

pub returns : goal.returns
returns c = c.from_be_bytes.ensures ∙ (pair-value _ _ ∙ number-there _ _ (omega arith))
