-- One scan for a track: an invariant that holds while the unplaced items are looked at, one by one, and so holds when
-- none is left to look at.
use Rattle.std.specs.Prelude.{ℕ, suc, ◌≤◌, ◌<◌, ◌≡◌, refl, ◌⊎◌, Bool, false, cond, ◌&&◌, length}
use Rattle.std.proofs.Common.{arith, sym, ◌∙◌, ap, subst₂}
use Rattle.std.proofs.Math.Path.{subst}
use mathlib.Core.List.Memᴰ
use mathlib.Core.List.{List, [], ◌∷◌, Memᴰ}
use mathlib.Core.List.{Sublistᴰ}
use Rattle.std.proofs.Math.Logic.{inl, inr, ⊎_elim}
use Rattle.std.proofs.Math.Bool.{true}
use Rattle.std.proofs.Math.Option.{Option, none, some}
use Rattle.std.proofs.Math.Dec.{T}
use Rattle.lists.specs.Lists.{Distinct}
use Rattle.lists.specs.Tests.{true→T, false→fails, and_left, and_right, and_both, equal?}
use Rattle.lists.specs.Pigeonhole.{distinct_head, distinct_tail}
use Rattle.lists.specs.Orders.{sublist-member, sublist-tail, sublist-length, sublist-distinct}
use Rattle.leftedge.specs.Items.{Items, Place, is_placed, track_of, fits, clear_below}
use Rattle.leftedge.specs.Fill.{Scan, scan}
use Rattle.leftedge.specs.Invariants.{Falls, Before, Orderly}
use Rattle.leftedge.specs.TrackLaws.{place, track-new, track-old, placed-cases, clear→placed, nothing-below→clear}
use Rattle.leftedge.specs.TrackLaws.{sublist-before}

-- the steps of a scan: from the item placed before, what is placed and the items to look at, to what is placed and left
-- at its end
pub data Trace (it : Items) (k : ℕ) : Option ℕ → List Place → List ℕ → List Place → List ℕ → Type 0 where
  ends : {before : Option ℕ} {ps : List Place} → Trace it k before ps [] ps []
  takes : {before : Option ℕ} {ps qs : List Place} {n : ℕ} {ns left : List ℕ} → T (fits it before n)
      → T (clear_below it ps n) → Trace it k (some n) (place n k ∷ ps) ns qs left → Trace it k before ps (n ∷ ns) qs left
  passes : {before : Option ℕ} {ps qs : List Place} {n : ℕ} {ns left : List ℕ}
      → (T (fits it before n && clear_below it ps n) → ⊥) → Trace it k before ps ns qs left
      → Trace it k before ps (n ∷ ns) qs (n ∷ left)

pub trace : (it : Items) (k : ℕ) (before : Option ℕ) (ps : List Place) (ns : List ℕ)
    → Trace it k before ps ns (scan it k before ps ns).placed (scan it k before ps ns).left
unfolding scan
trace it k before ps [] = ends
trace it k before ps (n ∷ ns) =
    go (fits it before n && clear_below it ps n) refl (trace it k (some n) (place n k ∷ ps) ns) (trace it k before ps ns)
  where
    test : Bool
    test = fits it before n && clear_below it ps n

    go : (b : Bool) → test ≡ b → {s r : Scan} → Trace it k (some n) (place n k ∷ ps) ns s.placed s.left
        → Trace it k before ps ns r.placed r.left
        → Trace it k before ps (n ∷ ns) (cond b s (record { placed = r.placed; left = n ∷ r.left })).placed
        (cond b s (record { placed = r.placed; left = n ∷ r.left })).left
    go true e taken passed =
        let t = true→T test e in
        takes (and_left (fits it before n) (clear_below it ps n) t)
        (and_right (fits it before n) (clear_below it ps n) t) taken
    go false e taken passed = passes (false→fails test e) passed

-- on track j there is an item that stands before n in the order and after which n does not fit
abbrev pub Met : Items → List Place → ℕ → ℕ → Type 0
Met it ps j n = (m : ℕ) × (track_of ps m ≡ j) × Before m n it.order × (T (it.fits_after m n) → ⊥)

-- where nothing is below anything, each item has met such an item on each track that it was looked at for and not
-- placed on; `ns` are not yet looked at for track k
abbrev pub AllMet : Items → ℕ → List Place → List ℕ → Type 0
AllMet it k ps ns =
    ((n : ℕ) → it.drops n ≡ []) → (n j : ℕ) → Memᴰ n it.order → 1 ≤ j → j ≤ k → (j ≡ k → Memᴰ n ns → ⊥)
    → (track_of ps n ≡ 0) ⊎ (j < track_of ps n) → Met it ps j n

-- what holds of the places on tracks 1 to k while the items `ns` are not yet looked at for track k
pub record Sound (it : Items) (k : ℕ) (ps : List Place) (ns : List ℕ) : Type 0 where
  pub positive : (n : ℕ) → T (is_placed ps n) → 1 ≤ track_of ps n
  pub high : (n : ℕ) → track_of ps n ≤ k
  pub real : (n : ℕ) → 1 ≤ track_of ps n → Memᴰ n it.order
  pub side : (m n : ℕ) → (m ≡ n → ⊥) → 1 ≤ track_of ps m → track_of ps m ≡ track_of ps n
      → T (it.fits_after m n) ⊎ T (it.fits_after n m)
  pub lower : (a b c : ℕ) → 1 ≤ track_of ps a → Falls it a b c → (1 ≤ track_of ps b) × (track_of ps b < track_of ps a)
  pub met : AllMet it k ps ns

-- `before` is the item placed last on track k, and fits after all others there
unfoldable pub OnTrack : Items → ℕ → List Place → Option ℕ → Type 0
OnTrack it k ps none = (m : ℕ) → track_of ps m ≡ k → ⊥
OnTrack it k ps (some b) = (track_of ps b ≡ k) × ((m : ℕ) → track_of ps m ≡ k → (m ≡ b) ⊎ T (it.fits_after m b))

-- what holds within a scan
pub record Scanning (it : Items) (k : ℕ) (before : Option ℕ) (ps : List Place) (ns : List ℕ) : Type 0 where
  pub sub : Sublistᴰ ns it.order
  pub fresh : (n : ℕ) → Memᴰ n ns → track_of ps n ≡ 0
  pub sound : Sound it k ps ns
  pub on_track : OnTrack it k ps before
  pub earlier : (m n : ℕ) → track_of ps m ≡ k → Memᴰ n ns → Before m n it.order

module _ (it : Items) (orderly : Orderly it) (k : ℕ) (first : 1 ≤ k) where
  -- an item that fits after the one placed before fits after all on this track
  fits-after-all : (before : Option ℕ) (ps : List Place) (n : ℕ)
      → ((m : ℕ) → 1 ≤ track_of ps m → Memᴰ m it.order) → OnTrack it k ps before → T (fits it before n)
      → (m : ℕ) → track_of ps m ≡ k → T (it.fits_after m n)
  unfolding OnTrack fits
  fits-after-all none ps n real on f m e = absurd (on m e)
  fits-after-all (some b) ps n real on f m e =
      ⊎_elim (λ q. subst (λ (x : ℕ). T (it.fits_after x n)) (sym q) f)
      (λ h. orderly.chained m b n (real b (let t = on.0 in omega arith)) h f) (on.1 m e)

  module _ (before : Option ℕ) (ps : List Place) (n : ℕ) (ns : List ℕ) (s : Scanning it k before ps (n ∷ ns)) where
    n-fresh : track_of ps n ≡ 0
    n-fresh = s.fresh n (Memᴰ.head refl)

    others : (m : ℕ) → Memᴰ m ns → m ≡ n → ⊥
    others m h e = distinct_head n ns (sublist-distinct s.sub orderly.distinct) (Memᴰ.cast (sym e) h)

    looked : (m j : ℕ) → (m ≡ n → ⊥) → (j ≡ k → Memᴰ m ns → ⊥) → j ≡ k → Memᴰ m (n ∷ ns) → ⊥
    looked m j apart h e x = ⊎_elim apart (h e) (Memᴰ.cases_cons x)

    -- an item that is clear below and yet not placed does not fit after the one placed before
    stopped : (before' : Option ℕ) → OnTrack it k ps before' → (T (fits it before' n && clear_below it ps n) → ⊥)
        → T (clear_below it ps n) → Met it ps k n
    unfolding OnTrack fits
    stopped none on fails clear = absurd (fails (and_both true (clear_below it ps n) tt clear))
    stopped (some b) on fails clear = (
      b,
      on.0,
      s.earlier b n on.0 (Memᴰ.head refl),
      λ t.
          fails (and_both (it.fits_after b n) (clear_below it ps n) t clear),
    )

    -- n is passed over
    pass : (T (fits it before n && clear_below it ps n) → ⊥) → Scanning it k before ps ns
    pass fails =
        record {
          sub = sublist-tail s.sub;
          fresh = λ m h. s.fresh m (Memᴰ.tail h);
          sound =
              record {
                positive = sd.positive;
                high = sd.high;
                real = sd.real;
                side = sd.side;
                lower = sd.lower;
                met = met;
              };
          on_track = s.on_track;
          earlier = λ l m e h. s.earlier l m e (Memᴰ.tail h);
        }
      where
        sd : Sound it k ps (n ∷ ns)
        sd = s.sound

        met : AllMet it k ps ns
        met bare m j inside l u h w =
            ⊎_elim (λ e. ⊎_elim (λ q. subst₂ (λ (x y : ℕ). Met it ps x y) (sym q) (sym e)
            (stopped before s.on_track fails (nothing-below→clear it ps n (bare n))))
            (λ less. sd.met bare m j inside l u (λ q. absurd (less q)) w) (equal? j k))
            (λ apart. sd.met bare m j inside l u (looked m j apart h) w)
            (equal? m n)

    -- n is placed
    module _ (fit : T (fits it before n)) (clear : T (clear_below it ps n)) where
      abbrev now : List Place
      now = place n k ∷ ps

      at_n : (m : ℕ) → m ≡ n → track_of now m ≡ k
      at_n m e = ap (track_of now) e ∙ track-new n k ps

      kept-track : (m : ℕ) → 1 ≤ track_of ps m → track_of now m ≡ track_of ps m
      kept-track m h = track-old n k ps m (λ e. let z = n-fresh in let q = ap (track_of ps) e in omega arith)

      met-still : (j m : ℕ) → 1 ≤ j → Met it ps j m → Met it now j m
      met-still j m l r = let t = r.1 in (r.0, kept-track r.0 (omega arith) ∙ r.1, r.2, r.3)

      after-all : (m : ℕ) → track_of ps m ≡ k → T (it.fits_after m n)
      after-all = fits-after-all before ps n s.sound.real s.on_track fit

      -- an item with a track now is n, or had that track
      was : (m : ℕ) → (m ≡ n) ⊎ (track_of now m ≡ track_of ps m)
      was m = ⊎_elim inl (λ apart. inr (track-old n k ps m apart)) (equal? m n)

      side : (l m : ℕ) → (l ≡ m → ⊥) → 1 ≤ track_of now l → track_of now l ≡ track_of now m
          → T (it.fits_after l m) ⊎ T (it.fits_after m l)
      side l m apart h e =
          ⊎_elim (λ p. ⊎_elim (λ q. absurd (apart (p ∙ sym q)))
          (λ q. inr (subst (λ (x : ℕ). T (it.fits_after m x)) (sym p) (after-all m (sym q ∙ (sym e ∙ at_n l p)))))
          (was m))
          (λ p.
          ⊎_elim (λ q. inl (subst (λ (x : ℕ). T (it.fits_after l x)) (sym q) (after-all l (sym p ∙ (e ∙ at_n m q)))))
          (λ q. s.sound.side l m apart (omega arith) (cc)) (was m))
          (was l)

      lower : (a b c : ℕ) → 1 ≤ track_of now a → Falls it a b c → (1 ≤ track_of now b) × (track_of now b < track_of now a)
      lower a b c h f =
          ⊎_elim (λ e. let g : Falls it n b c = subst (λ (x : ℕ). Falls it x b c) e f in
          let p = s.sound.positive b (clear→placed it ps n b c clear g) in
          let u = s.sound.high b in
          let less : (track_of ps b ≡ k → ⊥) = λ q. orderly.apart n b c g (after-all b q) in
          let t = kept-track b p in
          let w = at_n a e in
          omega arith)
          (λ q. let r = s.sound.lower a b c (omega arith) f in let t = kept-track b r.0 in omega arith)
          (was a)

      met : AllMet it k now ns
      met bare m j inside l u h w =
          met-still j m l (⊎_elim (λ e. let t = at_n m e in
          let less : j < k = ⊎_elim (λ z. absurd (omega arith)) (λ z. omega arith) w in
          s.sound.met bare m j inside l u (λ q. absurd (omega arith)) (inl (ap (track_of ps) e ∙ n-fresh)))
          (λ apart. let t = track-old n k ps m apart in s.sound.met bare m j inside l u (looked m j apart h)
          (⊎_elim (λ z. inl (omega arith)) (λ z. inr (omega arith)) w))
          (equal? m n))

      take : Scanning it k (some n) now ns
      unfolding OnTrack
      take =
          record {
            sub = sublist-tail s.sub;
            fresh = λ m h. track-old n k ps m (others m h) ∙ s.fresh m (Memᴰ.tail h);
            sound = record {
              positive =
                  λ m h. ⊎_elim (λ e. let t = at_n m e in omega arith)
                  (λ t. let p = s.sound.positive m t in let q = kept-track m p in omega arith)
                  (placed-cases n k ps m h);
              high =
                  λ m. ⊎_elim (λ e. let t = at_n m e in omega arith) (λ q. let u = s.sound.high m in omega arith)
                  (was m);
              real =
                  λ m h. ⊎_elim (λ e. Memᴰ.cast e (sublist-member s.sub (Memᴰ.head refl)))
                  (λ q. s.sound.real m (omega arith)) (was m);
              side = side;
              lower = lower;
              met = met;
            };
            on_track = (track-new n k ps, λ m e. ⊎_elim inl (λ q. inr (after-all m (sym q ∙ e))) (was m));
            earlier =
                λ l m e h. ⊎_elim (λ q. subst (λ (x : ℕ). Before x m it.order) (sym q) (sublist-before s.sub h))
                (λ q. s.earlier l m (sym q ∙ e) (Memᴰ.tail h)) (was l);
          }

  -- at the end of a scan all items are looked at
  pub scan-sound : {before : Option ℕ} {ps qs : List Place} {ns left : List ℕ} → Trace it k before ps ns qs left
      → Scanning it k before ps ns → Sound it k qs []
  scan-sound ends s = s.sound
  scan-sound (takes {before = before} {ps = ps} {n = n} {ns = ns} fit clear rest) s =
      scan-sound rest (take before ps n ns s fit clear)
  scan-sound (passes {before = before} {ps = ps} {n = n} {ns = ns} fails rest) s =
      scan-sound rest (pass before ps n ns s fails)

-- an item that is not looked at keeps its track
pub scan-others : {it : Items} {k : ℕ} {before : Option ℕ} {ps qs : List Place} {ns left : List ℕ}
    → Trace it k before ps ns qs left → (m : ℕ) → (Memᴰ m ns → ⊥) → track_of qs m ≡ track_of ps m
scan-others ends m h = refl
scan-others {k = k} (takes {ps = ps} {n = n} fit clear rest) m h =
    scan-others rest m (λ x. h (Memᴰ.tail x)) ∙ track-old n k ps m (λ e. h (Memᴰ.head e))
scan-others (passes fails rest) m h = scan-others rest m (λ x. h (Memᴰ.tail x))

pub scan-sublist : {it : Items} {k : ℕ} {before : Option ℕ} {ps qs : List Place} {ns left : List ℕ}
    → Trace it k before ps ns qs left → Sublistᴰ left ns
scan-sublist ends = Sublistᴰ.slnil
scan-sublist (takes fit clear rest) = Sublistᴰ.cons (scan-sublist rest)
scan-sublist (passes fails rest) = Sublistᴰ.cons-cons refl (scan-sublist rest)

-- an item left has no track
pub scan-left : {it : Items} {k : ℕ} {before : Option ℕ} {ps qs : List Place} {ns left : List ℕ}
    → Trace it k before ps ns qs left → Distinct ns → ((m : ℕ) → Memᴰ m ns → track_of ps m ≡ 0)
    → (m : ℕ) → Memᴰ m left → track_of qs m ≡ 0
scan-left ends d h m x = h m x
scan-left {k = k} (takes {ps = ps} {n = n} {ns = ns} fit clear rest) d h m x =
    scan-left rest (distinct_tail n ns d) (λ l y. track-old n k ps l (λ e. distinct_head n ns d (Memᴰ.cast (sym e) y))
    ∙ h l (Memᴰ.tail y)) m x
scan-left (passes {n = n} {ns = ns} fails rest) d h m x =
    ⊎_elim (λ e. scan-others rest m (λ y. distinct_head n ns d (Memᴰ.cast (sym e) y)) ∙ h m (Memᴰ.head e))
    (scan-left rest (distinct_tail n ns d) (λ l y. h l (Memᴰ.tail y)) m) (Memᴰ.cases_cons x)

-- an item looked at that has no track is left
pub scan-known : {it : Items} {k : ℕ} {before : Option ℕ} {ps qs : List Place} {ns left : List ℕ}
    → Trace it k before ps ns qs left → 1 ≤ k → Distinct ns
    → (m : ℕ) → Memᴰ m ns → track_of qs m ≡ 0 → Memᴰ m left
scan-known ends l d m x e = x
scan-known {k = k} (takes {ps = ps} {n = n} {ns = ns} fit clear rest) l d m x e =
    ⊎_elim (λ q. let o = scan-others rest m (λ y. distinct_head n ns d (Memᴰ.cast (sym q) y)) in
    let t = ap (track_of (place n k ∷ ps)) q ∙ track-new n k ps in absurd (omega arith))
    (λ y. scan-known rest l (distinct_tail n ns d) m y e) (Memᴰ.cases_cons x)
scan-known (passes {n = n} {ns = ns} fails rest) l d m x e =
    ⊎_elim Memᴰ.head (λ y. Memᴰ.tail (scan-known rest l (distinct_tail n ns d) m y e))
    (Memᴰ.cases_cons x)

-- a scan places nothing, and each item fails; or it places an item, and fewer are left
pub data Outcome (it : Items) (k : ℕ) (before : Option ℕ) (ps : List Place) (ns : List ℕ) (qs : List Place)
    (left : List ℕ) : Type 0 where
  empty : length left ≡ length ns → ((n : ℕ) → Memᴰ n ns → T (fits it before n && clear_below it ps n) → ⊥)
      → Outcome it k before ps ns qs left
  filled-by : (n : ℕ) → track_of qs n ≡ k → length left < length ns → Outcome it k before ps ns qs left

pub scan-outcome : {it : Items} {k : ℕ} {before : Option ℕ} {ps qs : List Place} {ns left : List ℕ}
    → Trace it k before ps ns qs left → Distinct ns → Outcome it k before ps ns qs left
scan-outcome ends d = empty refl (λ n x t. Memᴰ.not-nil x)
scan-outcome {k = k} (takes {ps = ps} {n = n} {ns = ns} fit clear rest) d =
    filled-by n (scan-others rest n (distinct_head n ns d) ∙ track-new n k ps)
    (let h = sublist-length (scan-sublist rest) in omega arith)
scan-outcome {it} {k} {before} {ps} {qs} (passes {n = n} {ns = ns} {left = left} fails rest) d =
    go (scan-outcome rest (distinct_tail n ns d))
  where
    go : Outcome it k before ps ns qs left → Outcome it k before ps (n ∷ ns) qs (n ∷ left)
    go (empty e h) =
        empty (ap suc e)
        (λ m x t. ⊎_elim (λ q. fails (subst (λ (y : ℕ). T (fits it before y && clear_below it ps y)) q t)) (λ y. h m y t)
        (Memᴰ.cases_cons x))
    go (filled-by m e h) = filled-by m e (omega arith)
