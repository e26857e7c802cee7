-- The marks of a draft after a net arrived, after it left, and after all nets were taken off: that net's are set in
-- its columns or taken away, and every other mark is as it was. The memory keeps its length, and its words stay words
-- of 64 bits.
use Rattle.std.specs.Prelude.{ℕ, ◌+◌, ◌/◌, ◌%◌, ◌^◌, ◌≤◌, ◌<◌, ◌≡◌, List, Bool, true, false, not, ◌&&◌, ◌||◌, length, get_or, drop, eqb}
use native.Mathlib.Omega.{arith}
use Rattle.std.proofs.Common.{le_of_eq, sym, ◌∙◌, eqb→eq, pow_pos}
use Rattle.std.proofs.Math.Path.{ap, ap₂}
use Rattle.std.proofs.Math.Bool.{cond, and-false, or-false, and-true, and_assoc}
use Rattle.std.proofs.lemmas.List.{length-replicate}
use Rattle.std.proofs.Math.ListN.{get_or-append}
use Rattle.std.specs.Int.Bits.{bit_and, or_lt, xor_lt, and_lt}
use Rattle.std.proofs.Math.Pow.{pow-lt}
use Rattle.lists.specs.Lists.{within, overlay}
use Rattle.lists.specs.Tests.{same_test, T→true, →within, and_left, and_right, and_both, eq→T}
use Rattle.lists.specs.Arrays.{length-map-from, get_or-numbered}
use Rattle.lists.specs.Counts.{get_or-zeros}
use Rattle.lists.specs.Overlays.{length-overlay}
use Rattle.refusal.specs.Trays.{draft_tray}
use Rattle.channel.specs.Channel.{widest}
use Rattle.draft.specs.Marks.{LongDraft, InDraft}
use Rattle.draft.specs.Marks.{
  is_set,
  with_mark,
  without_mark,
  word_of,
  marked,
  is_word_of,
  changed,
  zeros,
  arrived_in,
  left_from,
  cleared,
}
use Rattle.draft.specs.History.{Empty}
use Rattle.draft.specs.BitLaws.{set-marked, set-unmarked, zero-unset}

-- the words of the draft are words of 64 bits
abbrev pub Words64 : List ℕ → Type 0
Words64 words = (i : ℕ) → i < draft_tray → get_or words i 0 < 2 ^ 64

-- where the mark of a net in a column is
word-inside : (c m : ℕ) → InDraft m c → word_of c m < draft_tray
word-inside c m h = omega arith

-- two nets have the same word in a column and the same digit in it only if they are the same net
same-mark : (m n : ℕ) → eqb (m % 64) (n % 64) && eqb (m / 64) (n / 64) ≡ eqb m n
same-mark m n =
    same_test (eqb (m % 64) (n % 64) && eqb (m / 64) (n / 64)) (eqb m n)
    (λ t. let low = eqb→eq (m % 64) (n % 64) (and_left (eqb (m % 64) (n % 64)) (eqb (m / 64) (n / 64)) t) in
    let high = eqb→eq (m / 64) (n / 64) (and_right (eqb (m % 64) (n % 64)) (eqb (m / 64) (n / 64)) t) in
    eq→T m n (omega arith))
    (λ t. let e = eqb→eq m n t in
    and_both (eqb (m % 64) (n % 64)) (eqb (m / 64) (n / 64)) (eq→T (m % 64) (n % 64) (omega arith))
    (eq→T (m / 64) (n / 64) (omega arith)))

-- the memory after a change: its length, its words and its marks
module _ (f : ℕ → ℕ) (n first last : ℕ) (words : List ℕ) where
  pub length-changed : length (changed f n first last words) ≡ length words
  unfolding changed
  length-changed = length-map-from _ (length words)

  pub word-changed : (i : ℕ) → i < length words → get_or (changed f n first last words) i 0
      ≡ cond (is_word_of n first last i) (f (get_or words i 0)) (get_or words i 0)
  unfolding changed
  word-changed i h = get_or-numbered _ (length words) i h

  -- a mark stands in the word as it was, or as the change made it
  marked-changed : (c m : ℕ) → LongDraft words → InDraft m c → marked (changed f n first last words) c m
      ≡ is_set (cond (eqb (m / 64) (n / 64) && within first c last) (f (get_or words (word_of c m) 0))
      (get_or words (word_of c m) 0)) (m % 64)
  unfolding marked
  marked-changed c m long inside =
      let column : word_of c m / 8 + 1 ≡ c = omega arith in
      let part : word_of c m % 8 ≡ m / 64 = omega arith in
      let here = word-inside c m inside in
      ap (λ (w : ℕ). is_set w (m % 64)) (word-changed (word_of c m) (omega arith)
      ∙ ap₂ (λ (k d : ℕ). cond (eqb k (n / 64) && within first d last) (f (get_or words (word_of c m) 0))
      (get_or words (word_of c m) 0)) part column)

-- a mark that is set, or taken away, where a test passes
set-where : (b : Bool) (k j w : ℕ) → is_set (cond b (with_mark k w) w) j ≡ is_set w j || (eqb j k && b)
set-where true k j w = set-marked k j w ∙ ap (λ (t : Bool). is_set w j || t) (sym (and-true (eqb j k)))
set-where false k j w =
    sym (or-false (is_set w j)) ∙ ap (λ (t : Bool). is_set w j || t) (sym (and-false (eqb j k)))

unset-where : (b : Bool) (k j w : ℕ) → is_set (cond b (without_mark k w) w) j ≡ is_set w j && not (eqb j k && b)
unset-where true k j w = set-unmarked k j w ∙ ap (λ (t : Bool). is_set w j && not t) (sym (and-true (eqb j k)))
unset-where false k j w =
    sym (and-true (is_set w j)) ∙ ap (λ (t : Bool). is_set w j && not t) (sym (and-false (eqb j k)))

-- the place of a mark is its net's, and the test of the column is left
own-mark : (m n : ℕ) (b : Bool) → eqb (m % 64) (n % 64) && (eqb (m / 64) (n / 64) && b) ≡ eqb m n && b
own-mark m n b =
    sym (and_assoc (eqb (m % 64) (n % 64)) (eqb (m / 64) (n / 64)) b) ∙ ap (λ (t : Bool). t && b) (same-mark m n)

pub marked-arrived : (n first last : ℕ) (words : List ℕ) (c m : ℕ) → LongDraft words → InDraft m c
    → marked (arrived_in n first last words) c m ≡ (marked words c m || (eqb m n && within first c last))
unfolding marked
marked-arrived n first last words c m long inside =
    marked-changed (with_mark (n % 64)) n first last words c m long inside
    ∙ (set-where (eqb (m / 64) (n / 64) && within first c last) (n % 64) (m % 64) (get_or words (word_of c m) 0)
    ∙ ap (λ (t : Bool). marked words c m || t) (own-mark m n (within first c last)))

pub marked-left : (n : ℕ) (words : List ℕ) (c m : ℕ) → LongDraft words → InDraft m c
    → marked (left_from n words) c m ≡ (marked words c m && not (eqb m n))
unfolding marked
marked-left n words c m long inside =
    marked-changed (without_mark (n % 64)) n 1 widest words c m long inside
    ∙ (unset-where (eqb (m / 64) (n / 64) && within 1 c widest) (n % 64) (m % 64) (get_or words (word_of c m) 0)
    ∙ ap (λ (t : Bool). marked words c m && not t) (own-mark m n (within 1 c widest)
    ∙ (ap (λ (t : Bool). eqb m n && t) (T→true (within 1 c widest) (→within 1 c widest (omega arith) (omega arith)))
    ∙ and-true (eqb m n))))

-- words without a mark, and the first words of the memory set to them
pub length-zeros : (size : ℕ) → length (zeros size) ≡ size
unfolding zeros
length-zeros size = length-replicate size 0

pub zeros-at : (size i : ℕ) → get_or (zeros size) i 0 ≡ 0
unfolding zeros
zeros-at size i = get_or-zeros size i

zeros-front : (size i : ℕ) (words : List ℕ) → i < size → get_or (overlay (zeros size) words) i 0 ≡ 0
zeros-front size i words h =
    let long = length-zeros size in
    get_or-append (zeros size) (drop (length (zeros size)) words) 0 i (omega arith) ∙ zeros-at size i

zeros-length : (size : ℕ) (words : List ℕ) → size ≤ length words → length (overlay (zeros size) words) ≡ length words
zeros-length size words h = let long = length-zeros size in length-overlay (zeros size) words (omega arith)

-- the memory keeps its length
pub length-arrived : (n first last : ℕ) (words : List ℕ) → length (arrived_in n first last words) ≡ length words
length-arrived n first last words = length-changed (with_mark (n % 64)) n first last words

pub length-left : (n : ℕ) (words : List ℕ) → length (left_from n words) ≡ length words
length-left n words = length-changed (without_mark (n % 64)) n 1 widest words

pub length-cleared : (words : List ℕ) → LongDraft words → length (cleared words) ≡ length words
length-cleared words long = zeros-length draft_tray words long

pub cleared-empty : (words : List ℕ) → LongDraft words → Empty (cleared words)
cleared-empty words long =
    let same = length-cleared words long in
    record { long = omega arith; zeros = λ i h. zeros-front draft_tray i words h }

pub zeros-empty : Empty (zeros draft_tray)
zeros-empty =
    let long = length-zeros draft_tray in
    record { long = le_of_eq (sym long); zeros = λ i h. zeros-at draft_tray i }

-- an empty draft has no mark
pub marked_empty : (words : List ℕ) (c m : ℕ) → Empty words → InDraft m c → marked words c m ≡ false
unfolding marked
marked_empty words c m empty inside =
    ap (λ (w : ℕ). is_set w (m % 64)) (empty.zeros (word_of c m) (word-inside c m inside)) ∙ zero-unset (m % 64)

pub marked-cleared : (words : List ℕ) (c m : ℕ) → LongDraft words → InDraft m c → marked (cleared words) c m ≡ false
marked-cleared words c m long inside = marked_empty (cleared words) c m (cleared-empty words long) inside

-- the words stay words of 64 bits
changed-64 : (f : ℕ → ℕ) (n first last : ℕ) (words : List ℕ) → LongDraft words
    → ((w : ℕ) → w < 2 ^ 64 → f w < 2 ^ 64) → Words64 words → Words64 (changed f n first last words)
changed-64 f n first last words long fits sized i h =
    rw (word-changed f n first last words i (omega arith)) (go (is_word_of n first last i))
  where
    go : (b : Bool) → cond b (f (get_or words i 0)) (get_or words i 0) < 2 ^ 64
    go true = fits (get_or words i 0) (sized i h)
    go false = sized i h

mark-64 : (n : ℕ) → 2 ^ (n % 64) < 2 ^ 64
mark-64 n = pow-lt (let h : n % 64 < 64 = omega arith in h)

pub arrived-64 : (n first last : ℕ) (words : List ℕ) → LongDraft words → Words64 words
    → Words64 (arrived_in n first last words)
arrived-64 n first last words long sized =
    changed-64 (with_mark (n % 64)) n first last words long
    (λ w h. unfold with_mark in or_lt 64 w (2 ^ (n % 64)) h (mark-64 n)) sized

pub left-64 : (n : ℕ) (words : List ℕ) → LongDraft words → Words64 words → Words64 (left_from n words)
left-64 n words long sized =
    changed-64 (without_mark (n % 64)) n 1 widest words long
    (λ w h. unfold without_mark in xor_lt 64 w (bit_and w (2 ^ (n % 64))) h
    (and_lt 64 w (2 ^ (n % 64)) h (mark-64 n))) sized

pub empty-64 : (words : List ℕ) → Empty words → Words64 words
empty-64 words empty i h = rw (empty.zeros i h) (pow_pos 64)

pub cleared-64 : (words : List ℕ) → LongDraft words → Words64 (cleared words)
cleared-64 words long = empty-64 (cleared words) (cleared-empty words long)
