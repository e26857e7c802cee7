-- The numbers of a table of columns or of tracks: what stands at a place, and what a store there changes.
use Rattle.std.specs.Prelude.{ℕ, ◌≡◌, refl, Bool, true, false, cond, ltb, eqb, List, map, length, get_or, set, replicate}
use Rattle.std.specs.Ordering.{is_lt, nat_cmp}
use Rattle.std.proofs.Common.{Less, Equal, Greater}
use Rattle.std.proofs.lemmas.List.{map-set, length-map}
use Rattle.std.proofs.Math.ListN.{get_or-map}
use Rattle.grid.specs.declared.Track.{Track}
use Rattle.grid.specs.declared.Column.{Column}
use Rattle.grid.specs.Pieces.{column, track}

unfoldable pub column_numbers : List Column → List ℕ
column_numbers cs = map (λ (c : Column). c.0) cs

unfoldable pub track_numbers : List Track → List ℕ
track_numbers ks = map (λ (k : Track). k.0) ks

pub column-at : (cs : List Column) (n : ℕ) → get_or (column_numbers cs) n 0 ≡ (get_or cs n (column 0)).0
unfolding column_numbers
column-at cs n = get_or-map (λ (c : Column). c.0) cs n (column 0)

pub column-set : (cs : List Column) (n : ℕ) (c : Column) → column_numbers (set cs n c) ≡ set (column_numbers cs) n c.0
unfolding column_numbers
column-set cs n c = map-set (λ (c : Column). c.0) cs n c

pub columns-long : (cs : List Column) → length (column_numbers cs) ≡ length cs
unfolding column_numbers
columns-long cs = length-map cs (λ (c : Column). c.0)

pub track-at : (ks : List Track) (n : ℕ) → get_or (track_numbers ks) n 0 ≡ (get_or ks n (track 0)).0
unfolding track_numbers
track-at ks n = get_or-map (λ (k : Track). k.0) ks n (track 0)

pub track-set : (ks : List Track) (n : ℕ) (k : Track) → track_numbers (set ks n k) ≡ set (track_numbers ks) n k.0
unfolding track_numbers
track-set ks n k = map-set (λ (k : Track). k.0) ks n k

pub tracks-long : (ks : List Track) → length (track_numbers ks) ≡ length ks
unfolding track_numbers
tracks-long ks = length-map ks (λ (k : Track). k.0)

-- what `<` answers of two columns, tracks, rows or nets, of their numbers
pub order-lt : (a b : ℕ) → is_lt (nat_cmp a b) ≡ ltb a b
order-lt a b = go (ltb a b) (eqb a b)
  where
    go : (less same : Bool) → is_lt (cond less Less (cond same Equal Greater)) ≡ less
    go true same = refl
    go false true = refl
    go false false = refl

-- tables that hold 0 everywhere
pub columns-none : column_numbers (replicate 512 (column 0)) ≡ replicate 512 0
unfolding column_numbers
columns-none = refl

pub tracks-none : track_numbers (replicate 512 (track 0)) ≡ replicate 512 0
unfolding track_numbers
tracks-none = refl
