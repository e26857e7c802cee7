-- The fill track by track, over the tables: what is placed and left so far, and the fill that is still to come.
use Rattle.std.specs.Prelude.{ℕ, suc, ◌+◌, ◌≤◌, ◌<◌, refl, cond, get_or, take, eqb}
use Rattle.std.proofs.Common.{add-one, arith, ◌∙◌, length-take, eq-eqb, ne_eqb}
use Rattle.std.proofs.Math.Path.{◌≡◌, sym, ap}
use mathlib.Core.List.{List, [], ◌∷◌, Memᴰ}
use Rattle.std.proofs.Math.Option.{Option, none}
use Rattle.std.proofs.Math.ListN.{length}
use Rattle.lists.specs.Orders.{sublist-member, sublist-length, sublist-distinct}
use Rattle.leftedge.specs.declared.tracks.FillEnd.TheVariants as ends
use Rattle.leftedge.specs.declared.tracks.ItemsFilled.{ItemsFilled}
use Rattle.leftedge.specs.declared.tracks.Scanned.{Scanned}
use Rattle.leftedge.specs.Items.{Items, Place, track_of}
use Rattle.leftedge.specs.Fill.{Scan, scan, stuck, or_else, fill_from, fill_items}
use Rattle.leftedge.specs.Looks.{looks_from, item_looks, ceiling}
use Rattle.leftedge.proofs.LookLaws.{ceiling-rises, looks-few, looks-track}
use Rattle.leftedge.proofs.ScanLaws.{Trace, trace, scan-sublist}
use Rattle.leftedge.proofs.ScanLaws as steps
use Rattle.leftedge.proofs.FillLaws.{Settled, nothing_placed, settled-next, more-fuel}
use Rattle.leftedge.specs.Tables.{Held, ScanBegins, ScanDone, FillBegins, FillEnds, end_of}

-- a scan that leaves as many items as it looked at placed none
scan-same : {it : Items} {k : ℕ} {before : Option ℕ} {ps qs : List Place} {ns left : List ℕ}
    → Trace it k before ps ns qs left → length left ≡ length ns → (qs ≡ ps) × (left ≡ ns)
scan-same steps.ends e = (refl, refl)
scan-same (steps.takes fit clear rest) e = let h = sublist-length (scan-sublist rest) in absurd (omega arith)
scan-same (steps.passes {n = n} fails rest) e =
    let r = scan-same rest (omega arith) in (r.0, ap (λ (l : List ℕ). n ∷ l) r.1)

module _ (it : Items) (done : ℕ) (ps : List Place) where
  abbrev after : List ℕ → Scan
  after ls = scan it (suc done) none ps ls

  -- the next track stays empty, or the fill goes on after it
  fill-track : (ls : List ℕ) → (length ls ≡ 0 → ⊥) → fill_from (length ls) it done ps ls
      ≡ cond (eqb (length (after ls).left) (length ls)) (stuck ls)
      (fill_from (length (after ls).left) it (suc done) (after ls).placed (after ls).left)
  unfolding fill_from or_else
  fill-track [] some_left = absurd (some_left refl)
  fill-track (n ∷ ns) some_left =
      sym (more-fuel it (suc (length (n ∷ ns))) done ps (n ∷ ns) (omega arith))
      ∙ rw (more-fuel it (length (n ∷ ns)) (suc done) (after (n ∷ ns)).placed (after (n ∷ ns)).left
      (sublist-length (scan-sublist (trace it (suc done) none ps (n ∷ ns)))))

-- `done` tracks are filled after so many `looks`; the first `rest` of `left` are left
pub record Underway (it : Items) (under left tracks : List ℕ) (rest looks done : ℕ) : Type 0 where
  pub ps : List Place
  pub counted : length (take rest left) ≡ rest
  pub goes_on : fill_items it ≡ fill_from (length (take rest left)) it done ps (take rest left)
  pub looked : item_looks it ≡ looks + looks_from (length (take rest left)) it done ps (take rest left)
  pub settled : Settled it done ps (take rest left)
  pub held : Held it ps under tracks

module _ {it : Items} {first last nets us head next under₀ left₀ : List ℕ} {count : ℕ} {tracks₀ : List ℕ}
    (b : FillBegins it first last nets us head next under₀ left₀ count tracks₀) where
  pub starts-empty : Underway it under₀ left₀ tracks₀ count 0 0
  unfolding fill_items item_looks
  starts-empty =
      record {
        ps = [];
        counted = rw b.order (sym b.counted);
        goes_on = rw b.order;
        looked = rw b.order (omega arith);
        settled = rw b.order (nothing_placed it b.orderly);
        held = b.held;
      }

  module _ {under left tracks : List ℕ} {rest looks done : ℕ} (u : Underway it under left tracks rest looks done) where
    abbrev ls : List ℕ
    ls = take rest left

    -- there are no more tracks and items than items
    pub few : done + rest < 4294967296
    few = let c = u.settled.count in let e = u.counted in omega arith

    pub scan_begins : ScanBegins it u.ps first last nets us head next under left rest tracks
    scan_begins =
        record {
          tabled = b.tabled;
          held = u.held;
          few = omega (arith, length-take rest left, u.counted);
          items = λ n m. sublist-member u.settled.sub m;
          distinct = sublist-distinct u.settled.sub b.orderly.distinct;
          fresh = λ n m t. omega (arith, u.settled.fresh n m, u.settled.sound.positive n t);
        }

    -- every item is placed
    pub placed-ends : rest ≡ 0 → {q : ItemsFilled} → (q.end ≡ ends.Placed done) × (q.looks ≡ looks)
        → FillEnds it (fill_items it) q left tracks
    unfolding fill_from or_else end_of looks_from
    placed-ends e is =
        rw (u.goes_on, e) (record {
          end = is.0;
          looks = is.1 ∙ (let l : item_looks it ≡ looks + 0 = rw e at u.looked in omega arith);
          placed = λ t ps q n h. let same : u.ps ≡ ps = cc in rw (← same) (u.held.tracked n h);
          left = λ l q. let z : ◌≡◌ {A = ℕ} 0 1 = cc in absurd (omega arith);
          unplaced = λ l q. let z : ◌≡◌ {A = ℕ} 0 1 = cc in absurd (omega arith);
        })

    -- after the scan of the next track
    module _ {r : Scanned} {under' left' tracks' : List ℕ}
        (ensures : (ps : List Place) → ScanBegins it ps first last nets us head next under left rest tracks
        → ScanDone it ls (scan it (done + 1) none ps ls) r under' left' tracks') (some_left : rest ≡ 0 → ⊥) where
      abbrev now : Scan
      now = after it done u.ps ls

      scanned : ScanDone it ls now r under' left' tracks'
      scanned = rw add-one at (ensures u.ps scan_begins)

      steps_of : Trace it (suc done) none u.ps ls now.placed now.left
      steps_of = trace it (suc done) none u.ps ls

      continues : fill_items it ≡ cond (eqb (length now.left) (length ls)) (stuck ls)
          (fill_from (length now.left) it (suc done) now.placed now.left)
      continues = u.goes_on ∙ fill-track it done u.ps ls (λ e. some_left (sym u.counted ∙ e))

      looked-on : item_looks it ≡ looks + (length ls + cond (eqb (length now.left) (length ls)) 0
          (looks_from (length now.left) it (suc done) now.placed now.left))
      looked-on = u.looked ∙ ap (λ (j : ℕ). looks + j) (looks-track it done u.ps ls)

      -- the count fits 64 bits
      pub few-looks : looks + r.looks < 18446744073709551616
      unfolding ceiling
      few-looks =
          let most = ceiling-rises {m = length it.order} {n = 4294967295} (omega (arith, b.counted, b.few)) in
          omega (arith, looked-on, looks-few it, scanned.looks)

      pub no_more : r.rest ≤ rest
      no_more = omega (arith, u.counted, scanned.count, sublist-length (scan-sublist steps_of))

      pub track-filled : (r.rest ≡ rest → ⊥) → Underway it under' left' tracks' r.rest (looks + r.looks) (done + 1)
      track-filled fewer =
          rw add-one (record {
            ps = now.placed;
            counted = rw scanned.left (sym scanned.count);
            goes_on = rw scanned.left (continues ∙ rw (ne_eqb (length now.left) (length ls) less));
            looked = rw (scanned.left, scanned.looks) (looked-on
                ∙ rw (ne_eqb (length now.left) (length ls) less) (omega arith));
            settled = rw scanned.left (settled-next it b.orderly done u.ps ls u.settled less);
            held = scanned.held;
          })
        where
          less : length now.left ≡ length ls → ⊥
          less e = fewer (scanned.count ∙ (e ∙ u.counted))

      pub stuck-ends : r.rest ≡ rest → {q : ItemsFilled} → (q.end ≡ ends.Stuck rest) × (q.looks ≡ looks + r.looks)
          → FillEnds it (fill_items it) q left' tracks'
      unfolding end_of
      stuck-ends same is =
          rw stays (record {
            end = is.0 ∙ ap ends.Stuck (sym u.counted);
            looks = let l = rw (eq-eqb (length now.left) (length ls) alike) at looked-on in
                omega (arith, is.1, scanned.looks);
            placed = λ t ps q. let z : ◌≡◌ {A = ℕ} 0 1 = cc in absurd (omega arith);
            left = λ l q. let e : ls ≡ l = cc in rw (← e) kept;
            unplaced = λ l q n m. let e : ls ≡ l = cc in
                rw (← e, track-of n m) (u.settled.known n m, u.settled.fresh n);
          })
        where
          alike : length now.left ≡ length ls
          alike = sym scanned.count ∙ (same ∙ sym u.counted)

          stays : fill_items it ≡ stuck ls
          stays = continues ∙ rw (eq-eqb (length now.left) (length ls) alike)

          kept : take (length ls) left' ≡ ls
          kept =
              ap (λ (j : ℕ). take j left') (u.counted ∙ sym same) ∙ (scanned.left ∙ (scan-same steps_of alike).1)

          track-of : (n : ℕ) → Memᴰ n it.order → get_or tracks' n 0 ≡ track_of u.ps n
          track-of n m = rw (← (scan-same steps_of alike).0) (scanned.held.tracked n (scanned.held.number n m).1)
