-- The numbers in a case's bytes, and when its bytes make a question.
use Rattle.std.specs.Prelude.{ℕ, ◌+◌, ◌-◌, ◌*◌, ◌/◌, List, map, Bool, cond, ◌&&◌, length, get_or, take, drop, ltb, leb, min}
use Rattle.std.specs.List.{range_with_len}
use Rattle.lists.specs.Lists.{from, all_of}

-- the number in two bytes, most significant first
abbrev pub pair_of : ℕ → ℕ → ℕ
pair_of high low = high * 256 + low

-- the number at a byte, 0 where its two bytes are not there
unfoldable pub number_at : List ℕ → ℕ → ℕ
number_at bytes at = cond (ltb (length bytes) (at + 2)) 0 (pair_of (get_or bytes at 0) (get_or bytes (at + 1) 0))

-- so many numbers from a byte on
abbrev pub numbers_at : List ℕ → ℕ → ℕ → List ℕ
numbers_at bytes at count = map (λ i. number_at bytes (at + 2 * i)) (range_with_len 0 count)

-- the most numbers of a row in a case
abbrev pub row_room : ℕ
row_room = 1024

-- how many numbers of TOP, and then of BOT, are there and have room, in rows that may lack bytes or be longer
abbrev pub top_fitting : List ℕ → ℕ
top_fitting bytes = min (min (number_at bytes 0) (length bytes / 2 - 1)) row_room

abbrev pub bot_fitting : List ℕ → ℕ
bot_fitting bytes = min (length bytes / 2 - 1 - top_fitting bytes) row_room

-- two rows, of which TOP has a numbers and BOT b
abbrev pub rows_fit : ℕ → ℕ → ℕ → ℕ → Bool
rows_fit a b top bot = leb a top && leb b bot

-- the length of TOP in two bytes, then all numbers of both rows, two bytes each
unfoldable pub rows_whole : List ℕ → Bool
rows_whole bytes =
    let a = number_at bytes 0 in
    let all = (length bytes - 2) / 2 in
    leb 2 (length bytes) && (leb a all && rows_fit a (all - a) row_room row_room)

-- the length of the rows' bytes in two bytes, the rows, and what goes with them
unfoldable pub beside_whole : List ℕ → Bool
beside_whole bytes =
    let size = number_at bytes 0 in
    leb 2 (length bytes) && (leb (2 + size) (length bytes) && rows_whole (take size (drop 2 bytes)))

-- so many calls on a draft, each of a kind up to 4
unfoldable pub calls_whole : List ℕ → ℕ → Bool
calls_whole bytes count = all_of (λ i. leb (number_at bytes (2 + 8 * i)) 4) (from 0 count)

-- a question about a draft: how many words are lent, at most 4,104, and the calls
unfoldable pub draft_whole : List ℕ → Bool
draft_whole bytes =
    leb 2 (length bytes) && (leb (number_at bytes 0) 4104 && calls_whole bytes ((length bytes - 2) / 8))
