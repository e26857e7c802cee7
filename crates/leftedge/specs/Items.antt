-- SCOPE, "Filling tracks": what the fill is told of the items that it places, and what it says of them. Nets are one
-- kind of item (see Nets).
use Rattle.std.specs.Prelude.{ℕ, List, [], ◌∷◌, map, Bool, true, cond, eqb}
use Rattle.std.proofs.Math.Option.{Option, none, some}
use Rattle.lists.specs.Lists.{any_of, all_of}
use Rattle.channel.specs.Constraints.{Drop}

-- the items in the order of the scan; whether one fits on a track after another; the steps down from each, lowest
-- column first
pub record Items : Type 0 where
  pub order : List ℕ
  pub fits_after : ℕ → ℕ → Bool
  pub drops : ℕ → List Drop

-- the items directly below n
abbrev pub items_below : Items → ℕ → List ℕ
items_below it n = map (λ d. d.lower) (it.drops n)

-- an item with its track
pub record Place : Type 0 where
  pub item : ℕ
  pub track : ℕ

unfoldable pub is_placed : List Place → ℕ → Bool
is_placed ps n = any_of (λ p. eqb p.item n) ps

-- the track of an item, 0 if it has none
unfoldable pub track_of : List Place → ℕ → ℕ
track_of [] n = 0
track_of (p ∷ ps) n = let r = track_of ps n in cond (eqb p.item n) p.track r

-- "its first column exceeds the last column of the net placed before it on this track, if any"
unfoldable pub fits : Items → Option ℕ → ℕ → Bool
fits it none n = true
fits it (some m) n = it.fits_after m n

-- "all nets directly below it are placed"
unfoldable pub clear_below : Items → List Place → ℕ → Bool
clear_below it ps n = all_of (is_placed ps) (items_below it n)
