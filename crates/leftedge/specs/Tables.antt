-- The tables by item number over which the code fills tracks: what they tell of items, and what the code's parts ask
-- and leave. Any items that tables tell of so are filled by the same code and by the same laws.
use Rattle.std.specs.Prelude.{ℕ, ◌≤◌, ◌<◌, ◌≡◌, ◌↔◌, Bool, cond, ◌&&◌, ◌||◌, length, take, get_or, T, ltb, eqb}
use mathlib.Core.List.{List, [], Memᴰ}
use Rattle.lists.specs.Lists.{Distinct}
use Rattle.items.specs.Steps.{waiting, Stepped}
use Rattle.leftedge.specs.declared.tracks.FillEnd.{FillEnd}
use Rattle.leftedge.specs.declared.tracks.FillEnd.TheVariants as ends
use Rattle.leftedge.specs.declared.tracks.ItemsFilled.{ItemsFilled}
use Rattle.leftedge.specs.declared.tracks.Scanned.{Scanned}
use Rattle.leftedge.specs.Items.{Items, items_below, Place, is_placed, track_of}
use Rattle.leftedge.specs.Fill.{Scan, Filling, filled, stuck}
use Rattle.leftedge.specs.Looks.{item_looks}
use Rattle.leftedge.specs.Invariants.{Orderly}

-- the net of an item; one past the end of the table is a net of its own
unfoldable pub net_at : List ℕ → ℕ → ℕ
net_at nets n = cond (ltb n (length nets)) (get_or nets n 0) n

-- whether an item that starts in column `start` may follow on a track one that ends in column `end`: past that column,
-- or in it where both are of one net
unfoldable pub may_follow : ℕ → ℕ → ℕ → ℕ → Bool
may_follow end of start net = ltb end start || (eqb end start && eqb of net)

-- which item fits after which, by their columns and nets; and the places in which each stands below another
pub record Tabled (it : Items) (first last nets us head next : List ℕ) : Type 0 where
  pub stepped : Stepped (items_below it) it.order us head next
  pub fits : (m n : ℕ) → Memᴰ m it.order → Memᴰ n it.order → (m ≡ n → ⊥)
      → it.fits_after m n ≡ may_follow (get_or last m 0) (net_at nets m) (get_or first n 0) (net_at nets n)
  pub starts : (n : ℕ) → Memᴰ n it.order → 0 < get_or first n 0
  pub number : (n : ℕ) → Memᴰ n it.order → (n < length first) × (n < length last) × (n < length head)

-- what is held when `ps` are placed: how many steps below each item lead to unplaced ones, and each item's track
pub record Held (it : Items) (ps : List Place) (under tracks : List ℕ) : Type 0 where
  pub waits : (n : ℕ) → get_or under n 0 ≡ waiting (is_placed ps) (items_below it n)
  pub tracked : (n : ℕ) → n < length tracks → get_or tracks n 0 ≡ track_of ps n
  pub number : (n : ℕ) → Memᴰ n it.order → (n < length under) × (n < length tracks)

-- where a scan begins: the first `count` of `left` are different items that are not placed
pub record ScanBegins (it : Items) (ps : List Place) (first last nets us head next under left : List ℕ) (count : ℕ)
    (tracks : List ℕ) : Type 0 where
  pub tabled : Tabled it first last nets us head next
  pub held : Held it ps under tracks
  pub few : count ≤ length left
  pub items : (n : ℕ) → Memᴰ n (take count left) → Memᴰ n it.order
  pub distinct : Distinct (take count left)
  pub fresh : (n : ℕ) → Memᴰ n (take count left) → T (is_placed ps n) → ⊥

pub record ScanFrom (first last nets us head next under left : List ℕ) (count : ℕ) (tracks : List ℕ) : Type 0 where
  pub it : Items
  pub ps : List Place
  pub begins : ScanBegins it ps first last nets us head next under left count tracks

-- What `scan_track` leaves of a scan s of the items `unplaced`. Rules out: an item placed in the column where its
-- neighbour ends (held); an item that is left out of those left (count); one that is counted only where it is placed
-- (looks).
pub record ScanDone (it : Items) (unplaced : List ℕ) (s : Scan) (r : Scanned) (under' left' tracks' : List ℕ)
    : Type 0 where
  pub count : r.rest ≡ length s.left
  pub looks : r.looks ≡ length unplaced
  pub left : take r.rest left' ≡ s.left
  pub held : Held it s.placed under' tracks'

-- where a fill begins: the first `count` of `left` are the items in the order of the scan, and none is placed
pub record FillBegins (it : Items) (first last nets us head next under left : List ℕ) (count : ℕ) (tracks : List ℕ)
    : Type 0 where
  pub orderly : Orderly it
  pub tabled : Tabled it first last nets us head next
  pub held : Held it [] under tracks
  pub order : take count left ≡ it.order
  pub counted : count ≡ length it.order
  pub fits : count ≤ length left
  pub few : count < 4294967296

pub record FillFrom (first last nets us head next under left : List ℕ) (count : ℕ) (tracks : List ℕ) : Type 0 where
  pub it : Items
  pub begins : FillBegins it first last nets us head next under left count tracks

-- how a fill ends, in numbers: the tracks, or the items left
unfoldable pub end_of : Filling → FillEnd
end_of (filled t ps) = ends.Placed t
end_of (stuck left) = ends.Stuck (length left)

-- What `fill_items` answers and leaves. Rules out: a fill that puts all items on its first track (placed); one that is
-- stuck and shows other items as left (left); one that does not count its last, empty scan (looks).
pub record FillEnds (it : Items) (f : Filling) (r : ItemsFilled) (left' tracks' : List ℕ) : Type 0 where
  pub end : r.end ≡ end_of f
  pub looks : r.looks ≡ item_looks it
  pub placed : (t : ℕ) (ps : List Place) → f ≡ filled t ps → (n : ℕ) → n < length tracks'
      → get_or tracks' n 0 ≡ track_of ps n
  pub left : (ls : List ℕ) → f ≡ stuck ls → take (length ls) left' ≡ ls
  pub unplaced : (ls : List ℕ) → f ≡ stuck ls → (n : ℕ) → Memᴰ n it.order
      → (get_or tracks' n 0 ≡ 0) ↔ Memᴰ n ls
