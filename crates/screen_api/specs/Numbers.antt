-- The one number that an entry for C answers, and what C reads in it.
use Rattle.std.specs.Prelude.{ℕ, ◌+◌, ◌*◌, ◌/◌, ◌%◌, min, ◌≡◌, List, [], ◌∷◌}
use Rattle.refusal.specs.Refusals.{Told}

-- one value, or two in 16 bits each
unfoldable pub packed : List ℕ → ℕ
packed [] = 0
packed (v ∷ []) = v
packed (v ∷ (w ∷ ws)) = v * 65536 + w

-- the number of the refusal or fault in the upper 32 bits (0 for a success), the place or the values in the lower; what
-- is over 2^32 - 1 is shown as 2^32 - 1
unfoldable pub entry_number : Told → ℕ
entry_number told = told.number * 4294967296 + min (packed told.values) 4294967295

-- the number of the refusal or fault, and its place or the value
unfoldable pub refusal_in : ℕ → ℕ
refusal_in r = r / 4294967296

unfoldable pub place_in : ℕ → ℕ
place_in r = r % 4294967296

-- the values of a routed channel
unfoldable pub tracks_in : ℕ → ℕ
tracks_in r = r % 65536

unfoldable pub pieces_in : ℕ → ℕ
pieces_in r = r % 4294967296 / 65536

-- what C reads in r is just what was answered, a place over 2^32 - 1 aside
pub record Decoded (told : Told) (r : ℕ) : Type 0 where
  pub number : refusal_in r ≡ told.number
  pub place : place_in r ≡ min (packed told.values) 4294967295
