-- A space and the digits that `io::decimal` leaves are one text, by `put_then`; the fewest digits are the decimal.
use Rattle.std.proofs.Common.{ℕ, List, ◌∷◌, ◌∙◌, ap}
use Rattle.text.specs.PutLaws.{put_then, put_same, digits_decimal}
use Rattle.text.proofs.put_number.Goals as goal

pub returns-clause-put : goal.returns-clause-put
returns-clause-put c =
    let digits = c.decimal-k.ensures.digits ∙ digits_decimal c.decimal-k.result _ c.decimal-k.ensures.len in
    put_same (put_then c.put_text-next.ensures c.put_text.ensures) (ap (λ (l : List ℕ). 32 ∷ l) digits)
