-- Elements on lines: each lies on one line, or on none, and covers a range of its places.
use Rattle.std.specs.Prelude.{ℕ, zero, suc, ◌≤◌, ◌<◌, ◌≡◌, List, cond, ◌⊎◌, length, get_or, eqb}
use Rattle.classes.specs.declared.Range.{Range}
use Rattle.classes.specs.Halves.{low_half, high_half}
use Rattle.classes.specs.Forest.{Forest, root_of, second_of, Same, Grown, Respects}

-- both lie on one line, which is not 0, and have a place in common
pub record Overlap (a b : Range) : Type 0 where
  pub same : a.line ≡ b.line
  pub real : 0 < a.line
  pub first : a.start < b.past
  pub second : b.start < a.past

-- the ranges of n elements: each on one of the lines below `lines`, not empty, and on the places below `places`
pub record RangesFit (R : ℕ → Range) (n lines places : ℕ) : Type 0 where
  pub lined : (i : ℕ) → i < n → (R i).line < lines
  pub wide : (i : ℕ) → i < n → (R i).start < (R i).past
  pub placed : (i : ℕ) → i < n → (R i).past ≤ places

-- the last of the first i elements on line l, counted from 1; 0 if there is none
unfoldable pub last_on : (ℕ → Range) → ℕ → ℕ → ℕ
last_on R l zero = 0
last_on R l (suc i) = cond (eqb (R i).line l) (suc i) (last_on R l i)

-- the chains of the first n elements: each line's head, and after each element the one before it on its line
pub record Chained (R : ℕ → Range) (n : ℕ) (heads s : List ℕ) : Type 0 where
  pub firsts : (l : ℕ) → l < length heads → get_or heads l 0 ≡ last_on R l n
  pub nexts : (i : ℕ) → i < n → second_of s i ≡ last_on R (R i).line i

-- the number v stands at place a for the range of an element on line l: its element, and the first place past it
pub record EntryOf (R : ℕ → Range) (l n a v : ℕ) : Type 0 where
  pub inside : low_half v < n
  pub line : (R (low_half v)).line ≡ l
  pub start : (R (low_half v)).start ≡ a
  pub past : (R (low_half v)).past ≡ high_half v

-- labels of elements that are the same wherever two on line l overlap
abbrev pub AlikeOn : (ℕ → Range) → ℕ → ℕ → (ℕ → ℕ) → Type 0
AlikeOn R l n label =
    (e f : ℕ) → e < n → f < n → (R e).line ≡ l → Overlap (R e) (R f) → label e ≡ label f

-- the elements on line l from x on are entered in `starts`: at each place stands the range that reaches furthest of
-- those that start there, of the same class as all of them; and only elements that overlap were joined
pub record Entered (R : ℕ → Range) (l x : ℕ) (starts s₀ s : List ℕ) : Type 0 where
  pub grown : Grown s₀ s
  pub real : (a : ℕ) → (get_or starts a 0 ≡ 0) ⊎ EntryOf R l (length s₀) a (get_or starts a 0)
  pub seen : (e : ℕ) → e < length s₀ → x ≤ e → (R e).line ≡ l
      → Same s e (low_half (get_or starts (R e).start 0)) × ((R e).past ≤ high_half (get_or starts (R e).start 0))
  pub only : (label : ℕ → ℕ) → Respects label s₀ → AlikeOn R l (length s₀) label → Respects label s

-- all that overlap on the lines from 1 to before k are joined, and no others
pub record LinesJoined (R : ℕ → Range) (k : ℕ) (s₀ s : List ℕ) : Type 0 where
  pub grown : Grown s₀ s
  pub links : (e f : ℕ) → e < length s₀ → f < length s₀ → (R e).line < k → Overlap (R e) (R f) → Same s e f
  pub only : (label : ℕ → ℕ) → Respects label s₀ → ((l : ℕ) → l < k → AlikeOn R l (length s₀) label) → Respects label s

-- elements that overlap anywhere have one label
abbrev pub Alike : (ℕ → Range) → ℕ → (ℕ → ℕ) → Type 0
Alike R n label = (e f : ℕ) → e < n → f < n → Overlap (R e) (R f) → label e ≡ label f

-- all that overlap are joined, and no others
pub record AllJoined (R : ℕ → Range) (s s' : List ℕ) : Type 0 where
  pub forest : Forest s'
  pub size : length s' ≡ length s
  pub grows : (a b : ℕ) → a < length s → b < length s → Same s a b → Same s' a b
  pub links : (e f : ℕ) → e < length s → f < length s → Overlap (R e) (R f) → Same s' e f
  pub only : (label : ℕ → ℕ) → Respects label s → Alike R (length s) label → Respects label s'

-- the chains are made in the second halves, and the classes are as they were
pub record ChainsMade (R : ℕ → Range) (s heads' s' : List ℕ) : Type 0 where
  pub chained : Chained R (length s) heads' s'
  pub forest : Forest s'
  pub size : length s' ≡ length s
  pub roots : (i : ℕ) → i < length s → root_of s' i ≡ root_of s i
