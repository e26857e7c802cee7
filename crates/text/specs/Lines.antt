-- SCOPE, "Judge, blanks, programs": "Fields are parted by one space, lines end in one line feed"; and a text put into
-- a buffer.
use Rattle.std.specs.Prelude.{ℕ, ◌+◌, ◌≡◌, List, [], ◌∷◌, ◌++◌, length}
use Prim.Native.String.{String}
use Rattle.std.proofs.lemmas.List.Edits.{sets}
use Rattle.lists.specs.Lists.{each}
use Rattle.lists.specs.Bytes.{bytes, decimal}

-- a number behind its space
abbrev pub field : ℕ → List ℕ
field n = 0x20 ∷ decimal n

-- a word and numbers
unfoldable pub line_of : List ℕ → List ℕ → List ℕ
line_of word numbers = word ++ (each field numbers ++ (0x0A ∷ []))

abbrev pub line : String → List ℕ → List ℕ
line word numbers = line_of (bytes word) numbers

-- a text put into a buffer at a place: what the buffer then holds, and the place behind the text
pub record Put (before : List ℕ) (at : ℕ) (text after : List ℕ) (behind : ℕ) : Type 0 where
  pub place : behind ≡ at + length text
  pub stored : after ≡ sets before at text
