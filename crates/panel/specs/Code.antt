-- What the code of joining two lists answers, and what the lent rows then hold.
use Rattle.std.specs.Prelude.{ℕ, ◌+◌, ◌≤◌, ◌<◌, ◌≡◌, List, [], ◌∷◌, ◌↔◌, cond, ◌&&◌, length, get_or, take, ltb, Result, Ok, Err}
use Rattle.lists.specs.Lists.{Lowest}
use Rattle.refusal.specs.declared.Refusal.{Refusal}
use Rattle.refusal.specs.declared.Refusal.TheVariants.{PanelFull}
use Rattle.refusal.specs.Refusals.{ok_unless, filled_unless}
use Rattle.refusal.specs.Trays.{row_tray}
use Rattle.channel.specs.Channel.{Channel, rows, width, highest_net, widest}
use Rattle.channel.specs.Answers.{Escapes}
use Rattle.panel.specs.Joined.{joined, Fits}
use Rattle.panel.specs.Answers.{panel_refusal, join_answer, top_after, bot_after}
use Rattle.panel.specs.Promise.{PanelPromise, RaisedOver}

-- the lowest of `lowest` and the numbers of a row that are over the limit
unfoldable pub lowest_over : ℕ → List ℕ → ℕ → ℕ
lowest_over limit [] lowest = lowest
lowest_over limit (n ∷ ns) lowest = lowest_over limit ns (cond (ltb limit n && ltb n lowest) n lowest)

-- the lowest number of a list that is over the limit, or 512
abbrev pub lowest_of : ℕ → Channel → ℕ
lowest_of limit ch = lowest_over limit ch.bot (lowest_over limit ch.top (highest_net + 1))

-- no number of a row is over 511
abbrev pub LowRow : List ℕ → Type 0
LowRow row = (k : ℕ) → k < length row → get_or row k 0 ≤ highest_net

-- what joining two lists that each pass alone answers and leaves
pub record CheckedJoined (ch dh : Channel) (top bot : List ℕ) (r : Result ℕ Refusal) (top' bot' : List ℕ) : Type 0 where
  pub answer : r ≡ ok_unless (panel_refusal ch dh) (width ch + width dh)
  pub top_held : top' ≡ filled_unless (panel_refusal ch dh) (joined ch dh).top top
  pub bot_held : bot' ≡ filled_unless (panel_refusal ch dh) (joined ch dh).bot bot

-- both lent rows are long enough
abbrev pub LongRows : List ℕ → List ℕ → Type 0
LongRows top bot = (row_tray ≤ length top) × (row_tray ≤ length bot)

-- What `join` answers, and what the lent rows then hold. Rules out: part two checked before part one (answer); rows
-- written under a refusal (top_held, bot_held); a tangled list refused (fits-exactly); the first raised number over 511
-- told for the lowest (full-exactly); numbers raised by the count of nets (promise).
pub record JoinDone (ch dh : Channel) (top bot : List ℕ) (r : Result ℕ Refusal) (top' bot' : List ℕ) : Type 0 where
  pub answer : r ≡ join_answer (length top) (length bot) ch dh
  pub top_held : top' ≡ top_after ch dh top bot
  pub bot_held : bot' ≡ bot_after ch dh top bot
  -- a width is answered exactly if the rows are long enough and the lists fit
  pub fits-exactly : ((w : ℕ) × (r ≡ Ok w)) ↔ (LongRows top bot × Fits ch dh)
  -- 18 with its place, where nothing before it refuses
  pub full-exactly : LongRows top bot → Escapes ch → Escapes dh → width ch + width dh ≤ widest
      → (p : ℕ) → (r ≡ Err (PanelFull p)) ↔ Lowest (RaisedOver ch dh) p
  -- Req 09 of just these rows
  pub promise : (w : ℕ) → r ≡ Ok w → PanelPromise ch dh (rows (take w top') (take w bot'))
