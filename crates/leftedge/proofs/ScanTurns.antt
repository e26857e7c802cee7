-- The scan of a track item by item, over the tables: what is left so far stands at the front, and the scan of what is
-- ahead makes the rest.
use Rattle.std.specs.Prelude.{ℕ, ◌+◌, ◌≤◌, ◌<◌, ◌≡◌, Bool, true, false, ◌&&◌, get_or, set, T, eqb}
use Rattle.std.proofs.Math.Numerals.{add-one}
use native.Mathlib.Omega.{arith}
use Rattle.std.proofs.Math.Path.{refl, sym, ap}
use Rattle.std.proofs.Common.{◌∙◌, drop-cons, drop-set-lt, length-take-le, get_or-take, get_or-set_same, lt-ltb}
use mathlib.Core.List.Memᴰ
use mathlib.Core.List.{List, ◌∷◌, ◌++◌, map, append_assoc, append-nil, Memᴰ}
use Rattle.std.proofs.Math.Logic.{⊎_elim}
use Rattle.std.proofs.Math.Bool.{and_comm}
use Rattle.std.proofs.Math.Option.{Option, none, some}
use Rattle.std.proofs.Math.ListN.{length, take, drop, length-set, length-take, drop_of_length-le}
use Rattle.std.proofs.Math.Seq.{take-set-lt, take-suc-set, get_or-set_other}
use Rattle.lists.specs.Lists.{at, any_of, Distinct}
use Rattle.lists.specs.Tests.{fails→false, equal?, eq→T, or_left}
use Rattle.lists.specs.Pigeonhole.{distinct_head, distinct_tail}
use Rattle.lists.specs.Counts.{lowered, lowered-length}
use Rattle.items.specs.Chains.{Chained}
use Rattle.items.specs.Steps.{Rises, CanLower}
use Rattle.items.specs.StepLaws.{waiting-all, can-lower, lowered-waits}
use Rattle.leftedge.specs.declared.tracks.Scanned.{Scanned}
use Rattle.leftedge.specs.Items.{Items, items_below, Place, is_placed, fits, clear_below}
use Rattle.leftedge.specs.Fill.{Scan, scan}
use Rattle.leftedge.specs.TrackLaws.{place, track-new, track-old, placed-cases}
use Rattle.leftedge.specs.Tables.{net_at, may_follow, Held, ScanBegins, ScanDone}

-- a scan that has left some items before
abbrev after-left : List ℕ → Scan → Scan
after-left xs s = record { placed = s.placed; left = xs ++ s.left }

-- after i items, each counted in `looks`: `rest` of them are left, and stand at the front; `before` is the last placed
-- on this track
pub record SoFar (it : Items) (ps₀ : List Place) (first nets under₀ left₀ : List ℕ) (count : ℕ) (tracks₀ : List ℕ)
    (k : ℕ) (under left tracks : List ℕ) (end net rest looks i : ℕ) : Type 0 where
  pub before : Option ℕ
  pub ps : List Place
  pub long : (length under ≡ length under₀) × (length left ≡ length left₀) × (length tracks ≡ length tracks₀)
  pub near : (rest ≤ i) × (i ≤ count)
  pub counted : looks ≡ i
  pub whole : scan it k none ps₀ (take count left₀)
      ≡ after-left (take rest left) (scan it k before ps (drop i (take count left)))
  pub held : Held it ps under tracks
  pub distinct : Distinct (drop i (take count left))
  pub fresh : (n : ℕ) → Memᴰ n (drop i (take count left)) → Memᴰ n it.order × (T (is_placed ps n) → ⊥)
  pub ends : (n : ℕ) → Memᴰ n it.order → (T (is_placed ps n) → ⊥)
      → fits it before n ≡ may_follow end net (get_or first n 0) (net_at nets n)

module _ {it : Items} {ps₀ : List Place} {first last nets us head next under₀ left₀ : List ℕ} {count : ℕ}
    {tracks₀ : List ℕ} (b : ScanBegins it ps₀ first last nets us head next under₀ left₀ count tracks₀) where
  pub starts : (k : ℕ) → SoFar it ps₀ first nets under₀ left₀ count tracks₀ k under₀ left₀ tracks₀ 0 0 0 0 0
  unfolding fits may_follow
  starts k =
      record {
        before = none;
        ps = ps₀;
        long = (refl, refl, refl);
        near = omega arith;
        counted = refl;
        whole = refl;
        held = b.held;
        distinct = b.distinct;
        fresh = λ n m. (b.items n m, b.fresh n m);
        ends = λ n m f. rw (lt-ltb 0 (get_or first n 0) (b.tabled.starts n m));
      }

  module _ {k : ℕ} {under left tracks : List ℕ} {end net rest looks i : ℕ}
      (s : SoFar it ps₀ first nets under₀ left₀ count tracks₀ k under left tracks end net rest looks i) where
    -- no item is ahead
    pub all_seen : count ≤ i → {r : Scanned} → (r.rest ≡ rest) × (r.looks ≡ looks)
        → ScanDone it (take count left₀) (scan it k none ps₀ (take count left₀)) r under left tracks
    unfolding scan
    all_seen past {r} is =
        rw (s.whole, drop_of_length-le (take count left) {i = i} (omega (arith, length-take count left)), append-nil)
        (record {
          count = is.0 ∙ sym (length-take-le rest left (omega arith));
          looks = is.1 ∙ (s.counted ∙ (omega arith ∙ sym (length-take-le count left₀ b.few)));
          left = ap (λ (j : ℕ). take j left) is.0;
          held = s.held;
        })

    module _ (more : i < count) where
      abbrev n : ℕ
      n = get_or left i 0

      abbrev ns : List ℕ
      ns = drop (i + 1) (take count left)

      ahead : drop i (take count left) ≡ n ∷ ns
      ahead =
          let inside : i < length (take count left) = omega (arith, length-take count left) in
          rw (add-one i, drop-cons (take count left) i 0, get_or-take)

      item : Memᴰ n it.order
      item = (s.fresh n (rw ahead (Memᴰ.head refl))).0

      -- every table has a place for the item of this turn
      pub in_tables : (i < length left) × (rest ≤ i) × (n < length first) × (n < length last) × (n < length head)
          × (n < length under) × (n < length tracks)
      in_tables =
          let t = b.tabled.number n item in let h = s.held.number n item in
          (omega arith, s.near.0, t.0, t.1, t.2, h.0, h.1)

      free : T (is_placed s.ps n) → ⊥
      free = (s.fresh n (rw ahead (Memᴰ.head refl))).1

      unplaced : is_placed s.ps n ≡ false
      unplaced = fails→false (is_placed s.ps n) free

      rises : Rises (items_below it) us next (get_or head n 0) n
      rises = b.tabled.stepped.rises n item

      abbrev now : List Place
      now = place n k ∷ s.ps

      pub may-lower : CanLower us next (get_or head n 0) under
      unfolding is_placed any_of
      may-lower =
          can-lower (is_placed s.ps) (is_placed now) n unplaced (λ m. refl) (items_below it) us next _ rises under
          s.held.waits

      -- the test of the code, and it is that of the scan
      abbrev chosen : Bool
      chosen = eqb (get_or under n 0) 0 && may_follow end net (get_or first n 0) (net_at nets n)

      test : fits it s.before n && clear_below it s.ps n ≡ chosen
      unfolding clear_below
      test =
          and_comm (fits it s.before n) (clear_below it s.ps n)
          ∙ rw (s.ends n item free, s.held.waits n, waiting-all)

      pub takes : chosen ≡ true → (under' : List ℕ)
          → ((cs : List ℕ) → Chained next (get_or head n 0) cs → under' ≡ lowered (map (at us) cs) under)
          → (net' : ℕ) → net' ≡ net_at nets n
          → SoFar it ps₀ first nets under₀ left₀ count tracks₀ k under' left (set tracks n k) (get_or last n 0) net' rest
          (looks + 1) (i + 1)
      unfolding fits scan is_placed any_of
      takes taken under' lowers net' same =
          record {
            before = some n;
            ps = now;
            long = (length-under ∙ s.long.0, s.long.1, length-set tracks n k ∙ s.long.2);
            near = omega arith;
            counted = ap (λ (j : ℕ). j + 1) s.counted;
            whole = s.whole ∙ ap (after-left (take rest left)) (rw (ahead, test, taken));
            held =
                record {
                  waits = λ m. rw under-now (lowered-waits (is_placed s.ps) (is_placed now) n unplaced (λ m. refl)
                      (items_below it) us next _ rises under s.held.waits m);
                  tracked = λ m h. ⊎_elim
                      (λ e. rw e (get_or-set_same tracks n k 0 in_tables.6 ∙ sym (track-new n k s.ps)))
                      (λ apart. get_or-set_other tracks n m k 0 apart
                      ∙ (s.held.tracked m (rw length-set at h) ∙ sym (track-old n k s.ps m apart))) (equal? m n);
                  number = λ m h. rw (length-under, length-set) (s.held.number m h);
                };
            distinct = distinct_tail n ns (rw ahead at s.distinct);
            fresh = λ m h. let f = s.fresh m (rw ahead (Memᴰ.tail h)) in (
              f.0,
              λ t. ⊎_elim (λ e. distinct_head n ns (rw ahead at s.distinct) (Memᴰ.cast (sym e) h)) f.1
                  (placed-cases n k s.ps m t),
            );
            ends = λ m h f. rw same (b.tabled.fits n m item h
                (λ e. f (or_left (eqb n m) (is_placed s.ps m) (eq→T n m e))));
          }
        where
          under-now : under' ≡ lowered (map (at us) rises.places) under
          under-now = lowers rises.places rises.chained

          length-under : length under' ≡ length under
          length-under = rw under-now (lowered-length (map (at us) rises.places) under)

      pub leaves : chosen ≡ false
          → SoFar it ps₀ first nets under₀ left₀ count tracks₀ k under (set left rest n) tracks end net (rest + 1)
          (looks + 1) (i + 1)
      unfolding scan
      leaves passed =
          record {
            before = s.before;
            ps = s.ps;
            long = (s.long.0, length-set left rest n ∙ s.long.1, s.long.2);
            near = omega arith;
            counted = ap (λ (j : ℕ). j + 1) s.counted;
            whole = let fits : rest < length left = omega (arith, in_tables) in
                s.whole ∙ rw (ahead, test, passed, still, add-one rest, take-suc-set, append_assoc);
            held = s.held;
            distinct = rw still (distinct_tail n ns (rw ahead at s.distinct));
            fresh = λ m h. s.fresh m (rw ahead (Memᴰ.tail (rw still at h)));
            ends = s.ends;
          }
        where
          still : drop (i + 1) (take count (set left rest n)) ≡ ns
          still =
              let near : rest < count = omega arith in
              let past : rest < i + 1 = omega arith in rw (take-set-lt, drop-set-lt)
