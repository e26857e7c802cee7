-- What the functions that join the elements on lines ask.
use Rattle.std.specs.Prelude.{ℕ, ◌+◌, ◌≤◌, ◌<◌, ◌≡◌, List, Bool, length, get_or}
use Rattle.std.proofs.Math.Option.{none}
use Rattle.classes.specs.declared.Range.{Range}
use Rattle.classes.specs.Halves.{half}
use Rattle.classes.specs.Forest.{Forest}
use Rattle.classes.specs.Lines.{RangesFit, Chained}
use Rattle.channel.specs.Channel.{Channel, widest, width}
use Rattle.channel.specs.Answers.{Escapes}
use Rattle.boardfile.specs.Open.{open_refusal, file_width, file_tracks, file_count}
use Rattle.judge.specs.Ranges.{range_on}

-- rows that escape the refusals, and a file of their width that opens and has t tracks
pub record Judgeable (ch : Channel) (board : List ℕ) (t : ℕ) : Type 0 where
  pub escapes : Escapes ch
  pub opens : open_refusal board ≡ none
  pub same_width : file_width board ≡ width ch
  pub tracks : t ≡ file_tracks board

-- a board file and its tracks, and the channel that it is judged against
pub record Case : Type 0 where
  pub channel : Channel
  pub board : List ℕ
  pub tracks : ℕ

-- its elements, counted: pin places, and pieces
abbrev pub elements : Case → ℕ
elements case = width case.channel + width case.channel + file_count case.board

-- the range of each of them
abbrev pub ranges : Bool → Case → ℕ → Range
ranges across case = range_on across case.channel case.tracks case.board

-- a forest with a number for each of them
pub record ElementsIn (case : Case) (s : List ℕ) : Type 0 where
  pub count : length s ≡ elements case
  pub some : 0 < length s
  pub forest : Forest s

-- each element's line has a head, and all heads are 0
pub record ChainReady (case : Case) (across : Bool) (heads s : List ℕ) : Type 0 where
  pub elements : ElementsIn case s
  pub lined : (i : ℕ) → i < length s → (ranges across case i).line < length heads
  pub blank : (l : ℕ) → get_or heads l 0 ≡ 0

-- a line with a head; the chains stand in the forest, and no range is entered
pub record LineReady (case : Case) (across : Bool) (heads : List ℕ) (line : ℕ) (starts s : List ℕ) : Type 0 where
  pub elements : ElementsIn case s
  pub fits : RangesFit (ranges across case) (length s) (length heads) (length starts)
  pub chained : Chained (ranges across case) (length s) heads s
  pub real : (0 < line) × (line < length heads)
  pub blank : (a : ℕ) → get_or starts a 0 ≡ 0
  pub few : length starts < half

-- a head for each line and a place for each start, all 0
pub record LinesReady (case : Case) (across : Bool) (heads starts s : List ℕ) : Type 0 where
  pub elements : ElementsIn case s
  pub fits : RangesFit (ranges across case) (length s) (length heads) (length starts)
  pub headed : (l : ℕ) → get_or heads l 0 ≡ 0
  pub blank : (a : ℕ) → get_or starts a 0 ≡ 0
  pub some : 0 < length heads
  pub few : (length heads < half) × (length starts < half)

-- no more lines and places than columns and one
pub record JoinReady (case : Case) (across : Bool) (lines places : ℕ) (s : List ℕ) : Type 0 where
  pub elements : ElementsIn case s
  pub fits : RangesFit (ranges across case) (length s) lines places
  pub some : 0 < lines
  pub few : (lines ≤ widest + 1) × (places ≤ widest + 1)
