-- Texts as bytes: a word as it is written, and a number in base ten.
use Rattle.std.specs.Prelude.{ℕ, zero, suc, ◌+◌, ◌/◌, ◌%◌, List, [], ◌∷◌, ◌++◌, cond, ltb}
use Prim.Native.String as S
use Prim.Native.String.{String}
use Prim.Native.Char.{code}

-- the bytes of a text in ASCII
unfoldable pub bytes : String → List ℕ
bytes S.[] = []
bytes (S.◌∷◌ c s) = code c ∷ bytes s

-- the digits of n in base ten, at most `fuel` of them
unfoldable pub digits_of : ℕ → ℕ → List ℕ
digits_of zero n = []
digits_of (suc fuel) n =
    let front = digits_of fuel (n / 10) in
    let more = front ++ ((48 + n % 10) ∷ []) in
    cond (ltb n 10) ((48 + n) ∷ []) more

-- SCOPE, "Pin list": a number is 0 or has no leading zero. No number has more digits than its value plus one
abbrev pub decimal : ℕ → List ℕ
decimal n = digits_of (suc n) n
