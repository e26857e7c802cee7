-- The table's net where the table has a place for the item.
use Rattle.std.proofs.Common.{ℕ, List, ◌≡◌, ◌∙◌, sym, lt-ltb, le-ltb, length, arith}
use Rattle.std.specs.Prelude.{slice_get, unwrap_or}
use Rattle.std.proofs.Math.Decide.{dec_lt}
use Rattle.std.proofs.lemmas.Option.{slice_get-get_or, slice_get_past, unwrap_or-slice_get}
use Rattle.leftedge.specs.Tables.{net_at}
use Rattle.leftedge.proofs.tracks.Tables.net_of.Goals as goal

net-got : (nets : List ℕ) (n : ℕ) → unwrap_or (slice_get nets n) n ≡ net_at nets n
unfolding net_at
net-got nets n =
    elim (dec_lt n (length nets)) [
      | yes h ↦ rw (lt-ltb n (length nets) h, slice_get-get_or nets n 0 h)
      | no h ↦ rw (le-ltb n (length nets) (omega arith), slice_get_past nets n (omega arith))
    ]

pub returns : goal.returns
returns c =
    let nets = c.args.self.nets.now in
    let n = c.args.n in
    c.unwrap_or.ensures ∙ (rw c.copied.ensures (c.get.ensures.lookup.4 (omega arith) n) ∙ sym (unwrap_or-slice_get nets n n) ∙ net-got nets n)
