-- Demand 2 as statements: what is promised of the judge's finding, over layouts and over board files of any bytes.
use Rattle.std.specs.Prelude.{ℕ, pred, ◌+◌, ◌≤◌, ◌<◌, ◌≡◌, List, ◌↔◌}
use Rattle.std.proofs.Math.Option.{none, some}
use Rattle.std.proofs.Math.ListN.{get_elem?}
use Rattle.lists.specs.Lists.{Lowest}
use Rattle.refusal.specs.declared.Refusal.TheVariants.{ShortTray}
use Rattle.refusal.specs.Trays.{scratch_tray}
use Rattle.grid.specs.declared.Piece.{Piece}
use Rattle.grid.specs.Pieces.{Layout}
use Rattle.channel.specs.Channel.{Channel, widest, width}
use Rattle.channel.specs.Answers.{Escapes}
use Rattle.wiring.specs.Pins.{Pin, net_of, IsPin, pin_at}
use Rattle.wiring.specs.Layouts.{Good, AllOnGrid, pin, copper, Joined}
use Rattle.boardfile.specs.Open.{open_refusal, file_width, file_count, file_layout}
use Rattle.judge.specs.declared.Fault.TheVariants.{Short, Open, Floating}
use Rattle.judge.specs.declared.JudgeAnswer.{JudgeAnswer}
use Rattle.judge.specs.declared.JudgeAnswer.TheVariants.{Faulty, Refused}
use Rattle.judge.specs.Finding.{finding}
use Rattle.judge.specs.Answers.{judge_answer, judge_told}

-- 11: the pin at position p is "joined to an earlier pin of another net"
pub record ShortPin (ch : Channel) (l : Layout) (p : ℕ) : Type 0 where
  pub earlier : ℕ
  pub before : earlier < p
  pub on_board : p ≤ width ch + width ch
  pub is_pin : IsPin ch (pin_at ch p)
  pub earlier_is_pin : IsPin ch (pin_at ch earlier)
  pub other : net_of ch (pin_at ch earlier) ≡ net_of ch (pin_at ch p) → ⊥
  pub joined : Joined ch l (pin (pin_at ch p)) (pin (pin_at ch earlier))

-- 12: the pin at position p is "not joined to its net's first pin"
pub record OpenPin (ch : Channel) (l : Layout) (p : ℕ) : Type 0 where
  pub first : ℕ
  pub on_board : p ≤ width ch + width ch
  pub is_pin : IsPin ch (pin_at ch p)
  pub first_of_net : Lowest (λ q. net_of ch (pin_at ch q) ≡ net_of ch (pin_at ch p)) first
  pub apart : Joined ch l (pin (pin_at ch p)) (pin (pin_at ch first)) → ⊥

-- 13: the piece in place i, from 1, is "joined to no pin"
pub record FloatingPiece (ch : Channel) (l : Layout) (i : ℕ) : Type 0 where
  pub counted : 0 < i
  pub piece : Piece
  pub place : get_elem? l.pieces (pred i) ≡ some piece
  pub loose : (x : Pin) → IsPin ch x → Joined ch l (copper piece) (pin x) → ⊥

-- the finding, exactly: 11 before 12 before 13, each at its lowest place
pub record JudgePromise (ch : Channel) (l : Layout) : Type 0 where
  pub passes : (finding ch l ≡ none) ↔ Good ch l
  pub short : (p : ℕ) → (finding ch l ≡ some (Short p)) ↔ Lowest (ShortPin ch l) p
  pub opened : (p : ℕ) → (finding ch l ≡ some (Open p))
      ↔ (((q : ℕ) → ShortPin ch l q → ⊥) × Lowest (OpenPin ch l) p)
  pub floating : (i : ℕ) → (finding ch l ≡ some (Floating i))
      ↔ (((q : ℕ) → ShortPin ch l q → ⊥) × ((q : ℕ) → OpenPin ch l q → ⊥) × Lowest (FloatingPiece ch l) i)

-- Of the answer to a board that is not refused: 11 before 12 before 13, each at its lowest place
pub record FaultsAnswered (ch : Channel) (l : Layout) (r : JudgeAnswer) : Type 0 where
  pub short : (p : ℕ) → (r ≡ Faulty (Short p)) ↔ Lowest (ShortPin ch l) p
  pub opened : (p : ℕ) → (r ≡ Faulty (Open p)) ↔ (((q : ℕ) → ShortPin ch l q → ⊥) × Lowest (OpenPin ch l) p)
  pub floating : (i : ℕ) → (r ≡ Faulty (Floating i))
      ↔ (((q : ℕ) → ShortPin ch l q → ⊥) × ((q : ℕ) → OpenPin ch l q → ⊥) × Lowest (FloatingPiece ch l) i)

abbrev pub Demand2 : Type 0
Demand2 = (ch : Channel) (l : Layout) → Escapes ch → AllOnGrid ch l → JudgePromise ch l

-- what a board must be for the judge to pass it
pub record Passable (ch : Channel) (board : List ℕ) (scratch : ℕ) : Type 0 where
  pub room : scratch_tray ≤ scratch
  pub escapes : Escapes ch
  pub opens : open_refusal board ≡ none
  pub same_width : file_width board ≡ width ch
  pub good : Good ch (file_layout board)

-- Req 10: "The judge is to work in 5,119, one for each possible piece and pin, and give the same finding for every
-- board. Refusal 1 for scratch follows." A board file counts at most 4,095 pieces; two rows have at most 1,024 pins
pub record ScratchPromise : Type 0 where
  pub one_each : scratch_tray ≡ widest + widest + 4095
  pub enough : (ch : Channel) (board : List ℕ) → Escapes ch → width ch + width ch + file_count board ≤ scratch_tray
  pub short : (ch : Channel) (board : List ℕ) (scratch : ℕ) → scratch < scratch_tray
      → judge_answer ch board scratch ≡ Refused (ShortTray 5119)
  pub same : (ch : Channel) (board : List ℕ) (scratch : ℕ) → scratch_tray ≤ scratch
      → judge_answer ch board scratch ≡ judge_answer ch board scratch_tray

-- on bytes: "The judge passes a board exactly when .."
abbrev pub Demand2OnBytes : Type 0
Demand2OnBytes = (ch : Channel) (board : List ℕ) (scratch : ℕ)
    → ((judge_told (judge_answer ch board scratch)).number ≡ 0) ↔ Passable ch board scratch
