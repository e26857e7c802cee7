-- SCOPE, Req 14: "Each column keeps the set of nets over it, one mark a net, and its density is the number of marks."
-- The memory is a list of 64-bit words, eight to a column, of which the words of 512 columns are used: those of column
-- c, counted from 1, begin at place (c - 1) * 8, counted from 0, and net n's mark is digit n % 64 of the (n / 64)th of
-- them.
use Rattle.std.specs.Prelude.{ℕ, ◌+◌, ◌-◌, ◌*◌, ◌/◌, ◌%◌, ◌^◌, ◌≤◌, List, [], ◌∷◌, map, Bool, cond, ◌&&◌, length, get_or, set, take, drop, replicate, eqb}
use Rattle.std.specs.Int.Bits.{bit_and, bit_or, bit_xor}
use Rattle.std.specs.Int.Count.{ones}
use Rattle.lists.specs.Lists.{any_of, from, up_to, greatest, within, overlay}
use Rattle.refusal.specs.Trays.{draft_tray}
use Rattle.channel.specs.Channel.{highest_net, widest}

-- digit k of a word is set
unfoldable pub is_set : ℕ → ℕ → Bool
is_set w k = eqb (w / 2 ^ k % 2) 1

-- a word with digit k set, and with it taken away
unfoldable pub with_mark : ℕ → ℕ → ℕ
with_mark k w = bit_or w (2 ^ k)

unfoldable pub without_mark : ℕ → ℕ → ℕ
without_mark k w = bit_xor w (bit_and w (2 ^ k))

-- a memory that has the words of 512 columns, a column, and a net number with a column
abbrev pub LongDraft : List ℕ → Type 0
LongDraft words = draft_tray ≤ length words

abbrev pub IsColumn : ℕ → Type 0
IsColumn c = (1 ≤ c) × (c ≤ widest)

abbrev pub InDraft : ℕ → ℕ → Type 0
InDraft n c = (n ≤ highest_net) × IsColumn c

-- where column c has the word with net n's mark
abbrev pub word_of : ℕ → ℕ → ℕ
word_of c n = (c - 1) * 8 + n / 64

-- net n is marked in column c
unfoldable pub marked : List ℕ → ℕ → ℕ → Bool
marked words c n = is_set (get_or words (word_of c n) 0) (n % 64)

-- net n is marked in some column
unfoldable pub is_here : List ℕ → ℕ → Bool
is_here words n = any_of (λ c. marked words c n) (up_to widest)

-- the marks in words: their set digits
unfoldable pub marks_of : List ℕ → ℕ
marks_of [] = 0
marks_of (w ∷ ws) = ones w + marks_of ws

abbrev pub column_words : List ℕ → ℕ → List ℕ
column_words words c = take 8 (drop ((c - 1) * 8) words)

-- "Asked for a column, the draft answers its count, 0 outside 1 to 512"
unfoldable pub count_of : List ℕ → ℕ → ℕ
count_of words c = cond (within 1 c widest) (marks_of (column_words words c)) 0

-- "asked for the whole, the greatest"
unfoldable pub greatest_of : List ℕ → ℕ
greatest_of words = greatest (map (count_of words) (up_to widest))

-- the memory, net n's word in column c changed so
abbrev pub changed_at : (ℕ → ℕ) → ℕ → ℕ → List ℕ → List ℕ
changed_at f n c words = set words (word_of c n) (f (get_or words (word_of c n) 0))

-- place i has the word with net n's mark of a column from first to last
abbrev pub is_word_of : ℕ → ℕ → ℕ → ℕ → Bool
is_word_of n first last i = eqb (i % 8) (n / 64) && within first (i / 8 + 1) last

-- the memory, net n's word in each column from first to last changed so, and every other word as it was
unfoldable pub changed : (ℕ → ℕ) → ℕ → ℕ → ℕ → List ℕ → List ℕ
changed f n first last words =
    map (λ i. cond (is_word_of n first last i) (f (get_or words i 0)) (get_or words i 0)) (from 0 (length words))

-- so many words without a mark
unfoldable pub zeros : ℕ → List ℕ
zeros m = replicate m 0

-- the memory after net n arrived, after it left, and after all nets were taken off
abbrev pub arrived_in : ℕ → ℕ → ℕ → List ℕ → List ℕ
arrived_in n first last words = changed (with_mark (n % 64)) n first last words

abbrev pub left_from : ℕ → List ℕ → List ℕ
left_from n words = changed (without_mark (n % 64)) n 1 widest words

abbrev pub cleared : List ℕ → List ℕ
cleared words = overlay (zeros draft_tray) words
