-- What the parts of the reader's code answer, over the automaton of Reader.
use Rattle.std.specs.Prelude.{ℕ, suc, ◌+◌, ◌-◌, ◌*◌, ◌≤◌, ◌<◌, min, ◌≡◌, List, [], ◌∷◌, map, cond, ◌↔◌, length, get_or, take, drop, eqb, Option, Some, None, Result, Ok, Err}
use Rattle.lists.specs.Lists.{within, overlay}
use Rattle.refusal.specs.declared.Refusal.{Refusal}
use Rattle.refusal.specs.declared.Refusal.TheVariants.{Garbled}
use Rattle.refusal.specs.Trays.{row_tray}
use Rattle.channel.specs.Channel.{highest_net, widest}
use Rattle.pinlist.specs.declared.number.Number.{Number}
use Rattle.pinlist.specs.declared.number.NumberAt.{NumberAt}
use Rattle.pinlist.specs.declared.line.Line.{Line}
use Rattle.pinlist.specs.declared.line.Stuck.{Stuck}
use Rattle.pinlist.specs.Reader as reader
use Rattle.pinlist.specs.Reader.{Stand, due, on, closed, stuck, line_step, read_text}
use Rattle.pinlist.specs.Answers.{read_answer, top_after, bot_after}
use Rattle.pinlist.specs.Form.{GarbledAt}
use Rattle.pinlist.specs.Promise.{ReadExactly}

abbrev pub number_to : ℕ → ℕ → Number
number_to value next = record { value = value; next = next }

abbrev pub line_to : ℕ → ℕ → Line
line_to count next = record { count = count; next = next }

abbrev pub stuck_at : ℕ → Stuck
stuck_at place = record { 0 = place }

-- a number over the highest net's is kept as one more than that: it is refused, whatever it is
abbrev pub kept : ℕ → ℕ
kept n = min n (suc highest_net)

-- the digits from a place on, behind a number that is kept as v
unfoldable pub digits_behind : ℕ → ℕ → List ℕ → Option Number
digits_behind v k [] = Some (number_to v k)
digits_behind v k (b ∷ bs) =
    let r = digits_behind (kept (v * 10 + (b - 48))) (suc k) bs in
    cond (within 48 b 57) r (Some (number_to v k))

unfoldable pub number_from : ℕ → List ℕ → Option Number
number_from k [] = None
number_from k (b ∷ bs) =
    cond (eqb b 48) (Some (number_to 0 (suc k))) (cond (within 49 b 57) (digits_behind (b - 48) (suc k) bs) None)

-- the number that begins at a place of the text
abbrev pub number_read : List ℕ → ℕ → Option Number
number_read text at = number_from at (drop at text)

-- the place behind the spaces from a place on
unfoldable pub spaces_end : ℕ → List ℕ → ℕ
spaces_end k [] = k
spaces_end k (b ∷ bs) = let r = spaces_end (suc k) bs in cond (eqb b 0x20) r k

-- what it means: from k on just spaces stand up to e, and none stands there
pub record RunOfSpaces (text : List ℕ) (k e : ℕ) : Type 0 where
  pub later : k ≤ e
  pub spaces : (i : ℕ) → k ≤ i → i < e → get_or text i 0 ≡ 0x20
  pub no_more : e < length text → get_or text e 0 ≡ 0x20 → ⊥

-- SCOPE, Req 01: "The number reader therefore answers from the end of a run of spaces". Rules out: a place inside the
-- run (run); a number that begins elsewhere (number).
pub record NumberFound (text : List ℕ) (at : ℕ) (r : NumberAt) : Type 0 where
  pub from : r.from ≡ spaces_end at (drop at text)
  pub run : RunOfSpaces text at r.from
  pub number : r.number ≡ number_read text r.from

-- how many bytes of the word stand at the front of the text
unfoldable pub shared : List ℕ → List ℕ → ℕ
shared [] text = 0
shared (w ∷ ws) [] = 0
shared (w ∷ ws) (b ∷ bs) = let r = suc (shared ws bs) in cond (eqb b w) r 0

-- a line read by the automaton from a stand on: its numbers and the place behind it, or the place where it is broken
pub data Lined : Type 0 where
  lined : List ℕ → ℕ → Lined
  broken : ℕ → Lined

unfoldable pub line_from : Stand → List ℕ → ℕ → List ℕ → Lined
line_from s ns k [] = broken k
line_from s ns k (b ∷ bs) =
    elim (line_step s ns b)
    [ on s' ns' ↦ line_from s' ns' (suc k) bs | closed ns' ↦ lined ns' (suc k) | stuck ↦ broken k ]

-- behind a carriage return: a line of so many numbers ends with the line feed, or is broken
unfoldable pub feed_read : ℕ → ℕ → List ℕ → Result Line Stuck
feed_read count k [] = Err (stuck_at k)
feed_read count k (b ∷ bs) = cond (eqb b 0x0A) (Ok (line_to count (suc k))) (Err (stuck_at k))

unfoldable pub line_read : Lined → Result Line Stuck
line_read (lined ns k) = Ok (line_to (length ns) k)
line_read (broken k) = Err (stuck_at k)

-- what reading a line into a row answers and leaves: of a whole line the row's front is its first 512 numbers
pub record LineDone (word text : List ℕ) (at : ℕ) (row : List ℕ) (r : Result Line Stuck) (row' : List ℕ) : Type 0 where
  pub answer : r ≡ line_read (line_from (due word) [] at (drop at text))
  pub held : (ns : List ℕ) (k : ℕ) → line_from (due word) [] at (drop at text) ≡ lined ns k
      → row' ≡ overlay (take widest (map kept ns)) row

unfoldable pub text_read : reader.TextRead → Result (ℕ × ℕ) Stuck
text_read (reader.rows top bot) = Ok ((length top), (length bot))
text_read (reader.garbled n) = Err (stuck_at n)

-- what reading a whole text into two arrays answers and leaves
pub record Parsed (input top bot : List ℕ) (r : Result (ℕ × ℕ) Stuck) (top' bot' : List ℕ) : Type 0 where
  pub answer : r ≡ text_read (read_text input)
  pub top_held : (ts bs : List ℕ) → read_text input ≡ reader.rows ts bs → top' ≡ overlay (take widest (map kept ts)) top
  pub bot_held : (ts bs : List ℕ) → read_text input ≡ reader.rows ts bs → bot' ≡ overlay (take widest (map kept bs)) bot

-- What `read` answers, and what the lent rows then hold. Rules out: a place one too large for garbled (garbled); rows
-- written before the check (top_held, bot_held); refusal 5 before 4 (answer).
pub record ReadDone (input top bot : List ℕ) (r : Result ℕ Refusal) (top' bot' : List ℕ) : Type 0 where
  pub answer : r ≡ read_answer input (length top) (length bot)
  pub top_held : top' ≡ top_after input top bot
  pub bot_held : bot' ≡ bot_after input top bot
  -- demand 1: the rows read are those of exactly the texts of the form, and every other text is garbled at its place
  pub exactly : ReadExactly input
  pub garbled : row_tray ≤ length top → row_tray ≤ length bot → (n : ℕ)
      → (r ≡ Err (Garbled n)) ↔ GarbledAt input n
