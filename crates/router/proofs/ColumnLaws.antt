-- SCOPE, Req 06, of what the router stores: the fill's own copy of the columns, made of the rows without the parked
-- pins, has at the number of each record that the caller then holds its first and its last column.
use Rattle.std.specs.Prelude.{ℕ, take}
use Rattle.std.proofs.Common.{subst}
use mathlib.Core.List.Memᴰ
use mathlib.Core.List.{List, Memᴰ}
use Rattle.std.proofs.Math.Option.{Option, none, some}
use Rattle.refusal.specs.declared.Refusal.{Refusal}
use Rattle.channel.specs.Channel.{Channel, without_parked}
use Rattle.leftedge.specs.declared.NetRecord.{NetRecord}
use Rattle.leftedge.specs.Fill.{Filling, filled, stuck}
use Rattle.leftedge.specs.Nets.{fill}
use Rattle.leftedge.specs.Columns.{CopiedFor, ColumnsDue}
use Rattle.leftedge.specs.ColumnLaws.{due-shown}
use Rattle.router.specs.declared.Routed.{Routed}
use Rattle.router.specs.declared.Routing.{Routing}
use Rattle.router.specs.Route.{records_made}
use Rattle.router.specs.Code.{records_unless, RouteDone, RowsDone}
use Rattle.router.proofs.LentLaws.{route-front, rows-front}

module _ (ch : Channel) {first last : List ℕ} (due : ColumnsDue (without_parked ch) first last) where
  made-copied : (f : Filling) (r : NetRecord) → Memᴰ r (records_made ch f) → CopiedFor first last r
  unfolding records_made
  made-copied (filled t ps) r m = (due-shown ch due).recorded ps r m
  made-copied (stuck left) r m = absurd (Memᴰ.not-nil m)

  answered-copied : (q : Option Refusal) (r : NetRecord) → Memᴰ r (records_unless q (records_made ch (fill ch)))
      → CopiedFor first last r
  unfolding records_unless
  answered-copied none r m = made-copied (fill ch) r m
  answered-copied (some q) r m = absurd (Memᴰ.not-nil m)

  -- the table that `route` is lent
  pub stored-copied : {table table' : List NetRecord} {ring board ring' board' : List ℕ} {a : Routed}
      → RouteDone ch table ring board a table' ring' board' → (r : NetRecord) → Memᴰ r (take a.count table')
      → CopiedFor first last r
  stored-copied d r m = answered-copied _ r (subst (Memᴰ r) (route-front d) m)

  -- the table that `route_rows` answers
  pub rows-copied : {ring board ring' board' : List ℕ} {a : Routing} → RowsDone ch ring board a ring' board'
      → (r : NetRecord) → Memᴰ r (take a.count a.records) → CopiedFor first last r
  rows-copied d r m = answered-copied _ r (subst (Memᴰ r) (rows-front d) m)
