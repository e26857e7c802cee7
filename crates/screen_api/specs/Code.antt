-- What the entries for C answer, and what the lent buffers then hold: the same equations as those of the functions that
-- they call, and what C reads in the number r itself.
use Rattle.std.specs.Prelude.{ℕ, ◌+◌, ◌*◌, ◌/◌, ◌%◌, ◌≤◌, ◌<◌, ◌≡◌, List, ◌↔◌, length, take}
use Rattle.std.proofs.Math.Option.{none}
use Rattle.lists.specs.Lists.{Lowest}
use Rattle.refusal.specs.Trays.{Tray, ring_tray, board_tray}
use Rattle.grid.specs.Pieces.{Layout}
use Rattle.channel.specs.Channel.{Channel, rows, width, widest, without_parked, nets, spanning}
use Rattle.channel.specs.Density.{density}
use Rattle.channel.specs.Constraints.{chain, Tangled, Unconstrained}
use Rattle.channel.specs.Answers.{Escapes, bounds_answer, bounds_told}
use Rattle.channel.specs.Turned.{turned}
use Rattle.wiring.specs.Layouts.{Good, OneTrunkEach}
use Rattle.leftedge.specs.Looks.{ceiling}
use Rattle.rings.specs.Answers.{fewest_answer, fewest_after, fewest_told}
use Rattle.rings.specs.Promise.{FewestPromise}
use Rattle.panel.specs.Joined.{Fits}
use Rattle.panel.specs.Answers as panel
use Rattle.panel.specs.Answers.{join_answer, join_told}
use Rattle.panel.specs.Promise.{PanelPromise, RaisedOver}
use Rattle.panel.specs.Code.{LongRows}
use Rattle.pinlist.specs.Answers.{read_answer, read_told, top_after, bot_after}
use Rattle.boardfile.specs.Open.{file_layout}
use Rattle.judge.specs.Answers.{judge_refusal, judge_answer, judge_told}
use Rattle.judge.specs.Promise.{ShortPin, OpenPin, FloatingPiece, Passable}
use Rattle.blanks.specs.Stock.{blank_answer, blank_told}
use Rattle.blanks.specs.Laminate.{own_answer}
use Rattle.blanks.specs.Promise.{OwnPromise}
use Rattle.channel.specs.Parked.{ParkedBeside}
use Rattle.promises.specs.Router.{NoLayout, Fewest, Bare}
use Rattle.promises.specs.Bounds.{OneTrunkFloor, larger_bound}
use Rattle.router.specs.Route.{route_trays, route_answer, route_told, board_after, ring_after}
use Rattle.router.specs.Progress.{looks_answer, ceiling_answer, looks_told}
use Rattle.router.specs.Contract.{ShowsRing, HoldsLayout, turned_board, LooksPromise}
use Rattle.screen_api.specs.Numbers.{entry_number, refusal_in, place_in, tracks_in, pieces_in, Decoded}

-- Rules out: a width answered for a refusal (answer); rows changed under a refusal (top_held, bot_held)
pub record ReadEntry (text top bot : List ℕ) (r : ℕ) (top' bot' : List ℕ) : Type 0 where
  pub answer : r ≡ entry_number (read_told (read_answer text (length top) (length bot)))
  pub decoded : Decoded (read_told (read_answer text (length top) (length bot))) r
  pub top_held : top' ≡ top_after text top bot
  pub bot_held : bot' ≡ bot_after text top bot

-- Rules out: density and chain exchanged (density_read, chain_read); bounds of rows that are refused (accepted)
pub record BoundsEntry (ch : Channel) (r : ℕ) : Type 0 where
  pub answer : r ≡ entry_number (bounds_told (bounds_answer ch))
  pub decoded : Decoded (bounds_told (bounds_answer ch)) r
  pub accepted : (refusal_in r ≡ 0) ↔ Escapes ch
  pub density_read : refusal_in r ≡ 0 → place_in r / 65536 ≡ density ch
  pub chain_read : refusal_in r ≡ 0 → place_in r % 65536 ≡ chain ch

-- Demand 3, and Reqs 02 and 04, of the number r and of the ring and board that the caller then holds
pub record RouteNumberPromise (ch : Channel) (r : ℕ) (ring board : List ℕ) : Type 0 where
  pub tangled-exactly : (refusal_in r ≡ 7) ↔ NoLayout ch
  pub ring-exactly : (refusal_in r ≡ 7) ↔ Tangled ch
  pub ring-shown : refusal_in r ≡ 7 → ShowsRing ch (place_in r) ring
  pub every-other : (refusal_in r ≡ 7 → ⊥) → refusal_in r ≡ 0
  pub laid_out : refusal_in r ≡ 0 → HoldsLayout ch (tracks_in r) (pieces_in r) (take (4 + 4 * pieces_in r) board)
  pub fewest : Unconstrained ch → refusal_in r ≡ 0 → (tracks_in r ≡ density ch) × Fewest ch (tracks_in r)
  pub floors : refusal_in r ≡ 0 → (density ch ≤ tracks_in r) × (chain ch ≤ tracks_in r) × (tracks_in r ≤ length (nets ch))
  pub one-trunk-floor : refusal_in r ≡ 0 → (larger_bound ch ≤ tracks_in r) × OneTrunkFloor ch (larger_bound ch)
  pub turned-tangled : (refusal_in r ≡ 7) ↔ Tangled (turned ch)
  pub turned-good : refusal_in r ≡ 0 → Good (turned ch) (turned_board (pieces_in r) board)
  pub turned-one-trunk : refusal_in r ≡ 0 → OneTrunkEach (turned ch) (turned_board (pieces_in r) board)
  pub no-copper : refusal_in r ≡ 0 → Bare ch (file_layout (take (4 + 4 * pieces_in r) board))
  pub stays-tangled : (refusal_in r ≡ 7) ↔ Tangled (without_parked ch)
  pub uncounted : ParkedBeside ch → refusal_in r ≡ 0 → (tracks_in r ≡ density ch) × Fewest ch (tracks_in r)

module _ (ch : Channel) (ring board : List ℕ) where
  abbrev trays : List Tray
  trays = route_trays (length ring) (length board)

  -- Rules out: tracks and pieces exchanged (promise); a board written under a refusal (board_held)
  pub record RouteEntry (r : ℕ) (ring' board' : List ℕ) : Type 0 where
    pub answer : r ≡ entry_number (route_told (route_answer trays ch))
    pub decoded : Decoded (route_told (route_answer trays ch)) r
    pub ring_held : ring' ≡ ring_after trays ch ring
    pub board_held : board' ≡ board_after trays ch board
    pub promise : ring_tray ≤ length ring → board_tray ≤ length board → Escapes ch → RouteNumberPromise ch r ring' board'

-- Req 05, of the number r and of the ring that the caller then holds. Rules out: 7 told of a tangled channel
-- (accepted); the ring of the walk where there is a shorter one (promise)
pub record FewestEntry (ch : Channel) (ring : List ℕ) (r : ℕ) (ring' : List ℕ) : Type 0 where
  pub answer : r ≡ entry_number (fewest_told (fewest_answer (length ring) ch))
  pub decoded : Decoded (fewest_told (fewest_answer (length ring) ch)) r
  pub ring_held : ring' ≡ fewest_after ch ring
  pub accepted : (refusal_in r ≡ 0) ↔ ((ring_tray ≤ length ring) × Escapes ch)
  pub promise : refusal_in r ≡ 0 → FewestPromise ch (place_in r) ring ring'

-- Req 09, of the number r and of the rows that the caller then holds. Rules out: a tangled list refused
-- (accepted); the first raised number over 511 told for the lowest (full); 0 raised (promise)
pub record JoinEntry (ch dh : Channel) (top bot : List ℕ) (r : ℕ) (top' bot' : List ℕ) : Type 0 where
  pub answer : r ≡ entry_number (join_told (join_answer (length top) (length bot) ch dh))
  pub decoded : Decoded (join_told (join_answer (length top) (length bot) ch dh)) r
  pub top_held : top' ≡ panel.top_after ch dh top bot
  pub bot_held : bot' ≡ panel.bot_after ch dh top bot
  pub accepted : (refusal_in r ≡ 0) ↔ (LongRows top bot × Fits ch dh)
  pub full : LongRows top bot → Escapes ch → Escapes dh → width ch + width dh ≤ widest
      → (p : ℕ) → ((refusal_in r ≡ 18) × (place_in r ≡ p)) ↔ Lowest (RaisedOver ch dh) p
  pub promise : refusal_in r ≡ 0 → PanelPromise ch dh (rows (take (place_in r) top') (take (place_in r) bot'))

-- Req 07, of the number r. Rules out: a tangled channel refused (accepted); its last, empty scan not counted
-- (promise)
pub record LooksEntry (ch : Channel) (r : ℕ) : Type 0 where
  pub answer : r ≡ entry_number (looks_told (looks_answer ch))
  pub decoded : Decoded (looks_told (looks_answer ch)) r
  pub accepted : (refusal_in r ≡ 0) ↔ Escapes ch
  pub promise : refusal_in r ≡ 0 → LooksPromise ch (place_in r)

-- Rules out: straight nets or parked pins counted among the n (ceiling_read); a ceiling of n times n (ceiling_read)
pub record CeilingEntry (ch : Channel) (r : ℕ) : Type 0 where
  pub answer : r ≡ entry_number (looks_told (ceiling_answer ch))
  pub decoded : Decoded (looks_told (ceiling_answer ch)) r
  pub accepted : (refusal_in r ≡ 0) ↔ Escapes ch
  pub ceiling_read : refusal_in r ≡ 0 → place_in r ≡ ceiling (length (spanning ch))

-- Demand 2, of the number r answered for a board that is not refused: 11 before 12 before 13, each at its lowest place
pub record FaultNumbers (ch : Channel) (l : Layout) (r : ℕ) : Type 0 where
  pub short : (p : ℕ) → ((refusal_in r ≡ 11) × (place_in r ≡ p)) ↔ Lowest (ShortPin ch l) p
  pub opened : (p : ℕ) → ((refusal_in r ≡ 12) × (place_in r ≡ p))
      ↔ (((q : ℕ) → ShortPin ch l q → ⊥) × Lowest (OpenPin ch l) p)
  pub floating : (i : ℕ) → ((refusal_in r ≡ 13) × (place_in r ≡ i))
      ↔ (((q : ℕ) → ShortPin ch l q → ⊥) × ((q : ℕ) → OpenPin ch l q → ⊥) × Lowest (FloatingPiece ch l) i)

-- Rules out: a judge that always says good (passes); a later short, or its place for its number (places); scratch made
-- shorter (kept)
pub record JudgeEntry (ch : Channel) (board scratch : List ℕ) (r : ℕ) (scratch' : List ℕ) : Type 0 where
  pub answer : r ≡ entry_number (judge_told (judge_answer ch board (length scratch)))
  pub decoded : Decoded (judge_told (judge_answer ch board (length scratch))) r
  pub passes : (refusal_in r ≡ 0) ↔ Passable ch board (length scratch)
  pub places : judge_refusal ch board (length scratch) ≡ none → FaultNumbers ch (file_layout board) r
  pub kept : length scratch' ≡ length scratch

-- Rules out: a blank for more tracks than any holds, or none for fewer (refused)
pub record BlankEntry (tracks r : ℕ) : Type 0 where
  pub answer : r ≡ entry_number (blank_told (blank_answer tracks))
  pub decoded : Decoded (blank_told (blank_answer tracks)) r
  pub refused : (refusal_in r ≡ 14) ↔ (512 < tracks)

-- Req 03, of the number r. Rules out: the last entry that holds the tracks, and 16 told of a bad table (promise)
pub record OwnBlankEntry (table : List ℕ) (tracks r : ℕ) : Type 0 where
  pub answer : r ≡ entry_number (blank_told (own_answer table tracks))
  pub decoded : Decoded (blank_told (own_answer table tracks)) r
  pub promise : OwnPromise table tracks (refusal_in r) (place_in r)
