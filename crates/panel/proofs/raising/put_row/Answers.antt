-- The first row is stored as it is, and the second behind it, so that both are one run (`two-rows`).
use Rattle.std.proofs.Common.{ℕ, List, map, length, ◌∙◌, ap}
use Rattle.std.proofs.lemmas.List.Edits.{sets}
use Rattle.panel.specs.Joined.{raised}
use Rattle.panel.specs.RaiseLaws.{two-rows}
use Rattle.panel.proofs.raising.put_row.Goals as goal

pub returns : goal.returns
returns c =
    let a = c.args in
    c.put_raised-2.ensures
    ∙ (ap (λ (l : List ℕ). sets l (length a.first.now) (map (raised a.by) a.second.now)) c.put_raised.ensures
    ∙ two-rows a.by a.to.now a.first.now a.second.now c.requires.3)
