-- The whole fill: an invariant that holds between tracks. Each track that takes an item makes the items left fewer, so
-- the fill ends with none left or with an empty track.
use Prim.Native.Nat.{ℕ, zero, suc, ◌+◌, ◌≤◌, ◌<◌}
use Rattle.std.proofs.Common.{arith, sym, ◌∙◌, subst, inr, eqb→eq, eq-eqb, ne_eqb}
use Rattle.std.specs.Prelude.{◌≡◌, Bool, true, false, cond, ◌&&◌, length, T, eqb}
use Rattle.std.proofs.Math.Path.{refl, ap}
use mathlib.Core.List.Memᴰ
use mathlib.Core.List.{List, [], ◌∷◌, Memᴰ, Sublistᴰ}
use mathlib.Core.List.Sublistᴰ
use Rattle.std.proofs.Math.Logic.{⊎_elim}
use Rattle.std.proofs.Math.Option.{Option, none, some}
use Rattle.std.proofs.Math.Dec.{eqb_refl}
use Rattle.lists.specs.Lists.{Distinct, any_of}
use Rattle.lists.specs.Tests.{true→T, false→fails, equal?}
use Rattle.lists.specs.Orders.{member?, sublist-member, sublist-length, sublist-distinct}
use Rattle.leftedge.specs.Items.{Items, items_below, Place, is_placed, track_of, fits, clear_below}
use Rattle.leftedge.specs.Fill.{Scan, scan, Filling, filled, stuck, or_else, fill_from, fill_items}
use Rattle.leftedge.specs.Invariants.{Falls, Orderly, FilledBy, StuckWith}
use Rattle.leftedge.specs.TrackLaws.{tracked→placed, unclear→unplaced}
use Rattle.leftedge.proofs.ScanLaws.{Trace, trace, AllMet, Sound, OnTrack, Scanning, Outcome, empty, filled-by}
use Rattle.leftedge.proofs.ScanLaws.{scan-sound, scan-others, scan-sublist, scan-left, scan-known, scan-outcome}

-- what holds when `done` tracks are filled
pub record Settled (it : Items) (done : ℕ) (ps : List Place) (left : List ℕ) : Type 0 where
  pub sub : Sublistᴰ left it.order
  pub fresh : (n : ℕ) → Memᴰ n left → track_of ps n ≡ 0
  pub known : (n : ℕ) → Memᴰ n it.order → track_of ps n ≡ 0 → Memᴰ n left
  pub sound : Sound it done ps []
  pub used : (j : ℕ) → 1 ≤ j → j ≤ done → (n : ℕ) × (track_of ps n ≡ j)
  pub count : done + length left ≤ length it.order

module _ (it : Items) (orderly : Orderly it) where
  pub nothing_placed : Settled it 0 [] it.order
  unfolding track_of is_placed any_of
  nothing_placed =
      record {
        sub = Sublistᴰ.refl it.order;
        fresh = λ n h. refl;
        known = λ n h e. h;
        sound =
            record {
              positive = λ n h. absurd h;
              high = λ n. omega arith;
              real = λ n h. absurd (omega arith);
              side = λ m n apart h e. absurd (omega arith);
              lower = λ a b c h f. absurd (omega arith);
              met = λ bare n j inside l u h w. absurd (omega arith);
            };
        used = λ j l u. absurd (omega arith);
        count = omega arith;
      }

  module _ (done : ℕ) (ps : List Place) (left : List ℕ) (s : Settled it done ps left) where
    left-distinct : Distinct left
    left-distinct = sublist-distinct s.sub orderly.distinct

    -- the scan for the next track begins
    next-track : Scanning it (suc done) none ps left
    unfolding OnTrack
    next-track =
        record {
          sub = s.sub;
          fresh = s.fresh;
          sound =
              record {
                positive = sd.positive;
                high = λ n. let u = sd.high n in
                    omega arith;
                real = sd.real;
                side = sd.side;
                lower = sd.lower;
                met = met;
              };
          on_track = none_yet;
          earlier = λ m n e h. absurd (none_yet m e);
        }
      where
        sd : Sound it done ps []
        sd = s.sound

        none_yet : (m : ℕ) → track_of ps m ≡ suc done → ⊥
        none_yet m e = let u = sd.high m in omega arith

        met : AllMet it (suc done) ps left
        met bare n j inside l u h w =
            ⊎_elim (λ e. ⊎_elim (λ z. absurd (h e (s.known n inside z)))
            (λ z. let v = sd.high n in absurd (omega arith)) w)
            (λ less. sd.met bare n j inside l (omega arith) (λ q x. Memᴰ.not-nil x) w) (equal? j (suc done))

    -- a scan that placed an item leaves one track more filled
    settle : (qs : List Place) (rest : List ℕ) → Trace it (suc done) none ps left qs rest → (n : ℕ)
        → track_of qs n ≡ suc done → length rest < length left → Settled it (suc done) qs rest
    settle qs rest t n on fewer =
        record {
          sub = Sublistᴰ.trans (scan-sublist t) s.sub;
          fresh = scan-left t left-distinct s.fresh;
          known = known;
          sound = scan-sound it orderly (suc done) (omega arith) t next-track;
          used = used;
          count = let c = s.count in omega arith;
        }
      where
        known : (m : ℕ) → Memᴰ m it.order → track_of qs m ≡ 0 → Memᴰ m rest
        known m inside e =
            scan-known t (omega arith) left-distinct m (⊎_elim (λ h. h)
            (λ out. s.known m inside (sym (scan-others t m out) ∙ e)) (member? m left)) e

        used : (j : ℕ) → 1 ≤ j → j ≤ suc done → (m : ℕ) × (track_of qs m ≡ j)
        used j l u =
            ⊎_elim (λ e. (n, on ∙ sym e)) (λ less. let r = s.used j l (omega arith) in let k = r.1 in
            (r.0, scan-others t r.0 (λ h. let z = s.fresh r.0 h in absurd (omega arith)) ∙ r.1))
            (equal? j (suc done))

    -- the next track, where it takes an item
    pub settled-next : (length (scan it (suc done) none ps left).left ≡ length left → ⊥)
        → Settled it (suc done) (scan it (suc done) none ps left).placed (scan it (suc done) none ps left).left
    settled-next fewer = go (scan-outcome steps left-distinct)
      where
        after : Scan
        after = scan it (suc done) none ps left

        steps : Trace it (suc done) none ps left after.placed after.left
        steps = trace it (suc done) none ps left

        go : Outcome it (suc done) none ps left after.placed after.left
            → Settled it (suc done) after.placed after.left
        go (empty same fails) = absurd (fewer same)
        go (filled-by m on less) = settle after.placed after.left steps m on less

    -- a track that stays empty: no item left is clear below
    blocked : ((n : ℕ) → Memᴰ n left → T (fits it none n && clear_below it ps n) → ⊥) → (n : ℕ) → Memᴰ n left
        → (b c : ℕ) × Falls it n b c × Memᴰ b left
    unfolding fits
    blocked fails n h =
        let r = unclear→unplaced it ps n (λ t. fails n h t) in
        let zero-track : track_of ps r.0 ≡ 0 = ⊎_elim (λ e. e)
        (λ above. absurd (r.3 (tracked→placed ps r.0 (omega arith)))) (equal? (track_of ps r.0) 0) in (
          r.0,
          r.1,
          r.2,
          s.known r.0 (orderly.inside n r.0 r.1 (sublist-member s.sub h) r.2)
              zero-track,
        )

  all_placed : (t : ℕ) (ps : List Place) → Settled it t ps [] → FilledBy it t ps
  all_placed t ps s =
      record {
        tracked = λ n h. (tracked n h, sd.high n);
        untracked =
            λ n out. ⊎_elim (λ e. e) (λ above. absurd (out (sd.real n (omega arith)))) (equal? (track_of ps n) 0);
        used = λ k l u. let r = s.used k l u in let e = r.1 in (r.0, sd.real r.0 (omega arith), r.1);
        few = let c = s.count in omega arith;
        side = λ m n hm hn apart e. sd.side m n apart (tracked m hm) e;
        lower = λ a b c h f. (sd.lower a b c (tracked a h) f).1;
        pressed =
            λ bare n j h l u. let v = sd.high n in let r =
            sd.met bare n j h l (omega arith) (λ q x. Memᴰ.not-nil x) (inr u) in let e = r.1 in
            (r.0, sd.real r.0 (omega arith), r.1, r.2, r.3);
      }
    where
      sd : Sound it t ps []
      sd = s.sound

      tracked : (n : ℕ) → Memᴰ n it.order → 1 ≤ track_of ps n
      tracked n h =
          ⊎_elim (λ e. absurd (Memᴰ.not-nil (s.known n h e))) (λ above. omega arith) (equal? (track_of ps n) 0)

  -- what each of the two ends of a fill promises
  abbrev Ends : Filling → Type 0
  Ends (filled t ps) = FilledBy it t ps
  Ends (stuck left) = StuckWith it left

  fill-ends : (fuel done : ℕ) (ps : List Place) (left : List ℕ) → length left ≤ fuel → Settled it done ps left
      → Ends (fill_from fuel it done ps left)
  unfolding fill_from or_else
  fill-ends zero done ps [] enough s = all_placed done ps s
  fill-ends zero done ps (n ∷ ns) enough s = absurd (omega arith)
  fill-ends (suc fuel) done ps [] enough s = all_placed done ps s
  fill-ends (suc fuel) done ps (n ∷ ns) enough s =
      go (eqb (length after.left) (length left)) refl (scan-outcome steps (left-distinct done ps left s))
      (λ h k. fill-ends fuel (suc done) after.placed after.left h k)
    where
      left : List ℕ
      left = n ∷ ns

      after : Scan
      after = scan it (suc done) none ps left

      further : Filling
      further = fill_from fuel it (suc done) after.placed after.left

      steps : Trace it (suc done) none ps left after.placed after.left
      steps = trace it (suc done) none ps left

      go : (b : Bool) → eqb (length after.left) (length left) ≡ b
          → Outcome it (suc done) none ps left after.placed after.left
          → (length after.left ≤ fuel → Settled it (suc done) after.placed after.left → Ends further)
          → Ends (cond b (stuck left) further)
      go true e (empty same fails) rest =
          record {
            some_left = omega arith;
            items = λ m h. sublist-member s.sub h;
            distinct = left-distinct done ps left s;
            blocked = blocked done ps left s fails;
          }
      go true e (filled-by m on fewer) rest =
          let q = eqb→eq (length after.left) (length left) (true→T _ e) in absurd (omega arith)
      go false e (empty same fails) rest =
          absurd (false→fails _ e (subst (λ (x : ℕ). T (eqb (length after.left) x)) same
          (eqb_refl (length after.left))))
      go false e (filled-by m on fewer) rest =
          rest (omega arith) (settle done ps left s after.placed after.left steps m on fewer)

  fill-items-ends : Ends (fill_items it)
  unfolding fill_items
  fill-items-ends = fill-ends (length it.order) 0 [] it.order (omega arith) nothing_placed

pub fill-filled : (it : Items) → Orderly it → (t : ℕ) (ps : List Place) → fill_items it ≡ filled t ps → FilledBy it t ps
fill-filled it orderly t ps e = subst (λ (f : Filling). Ends it orderly f) e (fill-items-ends it orderly)

pub fill-stuck : (it : Items) → Orderly it → (left : List ℕ) → fill_items it ≡ stuck left → StuckWith it left
fill-stuck it orderly left e = subst (λ (f : Filling). Ends it orderly f) e (fill-items-ends it orderly)

same-fuel : (it : Items) (f g done : ℕ) (ps : List Place) (left : List ℕ) → length left ≤ f → f ≤ g
    → fill_from g it done ps left ≡ fill_from f it done ps left
unfolding fill_from or_else
same-fuel it zero zero done ps left enough more = refl
same-fuel it zero (suc g) done ps [] enough more = refl
same-fuel it zero (suc g) done ps (n ∷ ns) enough more = absurd (omega arith)
same-fuel it (suc f) zero done ps left enough more = absurd (omega arith)
same-fuel it (suc f) (suc g) done ps left enough more =
    let s = scan it (suc done) none ps left in
    let h = sublist-length (scan-sublist (trace it (suc done) none ps left)) in
    ⊎_elim (λ e. rw (eq-eqb (length s.left) (length left) e))
    (λ less. let on = same-fuel it f g (suc done) s.placed s.left (omega (arith, less)) (omega arith) in
    rw (ne_eqb (length s.left) (length left) less, on)) (equal? (length s.left) (length left))

-- more fuel than items changes nothing
pub more-fuel : (it : Items) (fuel done : ℕ) (ps : List Place) (left : List ℕ) → length left ≤ fuel
    → fill_from fuel it done ps left ≡ fill_from (length left) it done ps left
more-fuel it fuel done ps left enough = same-fuel it (length left) fuel done ps left (omega arith) enough

module _ (a b : Items) (same-order : a.order ≡ b.order)
    (same-fits : (m n : ℕ) → Memᴰ m a.order → Memᴰ n a.order → a.fits_after m n ≡ b.fits_after m n)
    (same-below : (n : ℕ) → Memᴰ n a.order → items_below a n ≡ items_below b n) where
  scan-alike : (k : ℕ) (before : Option ℕ) (ps : List Place) (ns : List ℕ)
      → ((n : ℕ) → Memᴰ n a.order → fits a before n ≡ fits b before n)
      → ((n : ℕ) → Memᴰ n ns → Memᴰ n a.order) → scan a k before ps ns ≡ scan b k before ps ns
  unfolding scan fits clear_below
  scan-alike k before ps [] like inside = refl
  scan-alike k before ps (n ∷ ns) like inside =
      let here = inside n (Memᴰ.head refl) in
      let there : ((m : ℕ) → Memᴰ m ns → Memᴰ m a.order) = λ m h. inside m (Memᴰ.tail h) in
      rw (
        like n here,
        same-below n here,
        scan-alike k (some n) (record { item = n; track = k } ∷ ps) ns (λ m h. same-fits n m here h) there,
        scan-alike k before ps ns like there,
      )

  from-alike : (fuel done : ℕ) (ps : List Place) (left : List ℕ)
      → ((n : ℕ) → Memᴰ n left → Memᴰ n a.order)
      → fill_from fuel a done ps left ≡ fill_from fuel b done ps left
  unfolding fill_from fits
  from-alike zero done ps left inside = refl
  from-alike (suc fuel) done ps left inside =
      rw (
        scan-alike (suc done) none ps left (λ n h. refl) inside,
        from-alike fuel (suc done) (scan b (suc done) none ps left).placed (scan b (suc done) none ps left).left
            (λ n h. inside n (sublist-member (scan-sublist (trace b (suc done) none ps left)) h)),
      )

  -- items that are alike fill alike: the same order, and on its members the same fits and the same items below
  pub fill-alike : fill_items a ≡ fill_items b
  unfolding fill_items
  fill-alike =
      from-alike (length a.order) 0 [] a.order (λ n h. h)
      ∙ ap (λ (l : List ℕ). fill_from (length l) b 0 [] l) same-order
