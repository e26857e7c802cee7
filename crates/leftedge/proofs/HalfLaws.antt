-- Items in two halves, the second of which always fits after the first (SCOPE, Req 09: two lists on one panel). A scan
-- does on the first half what it does there alone, and then on the second what it does there alone, since whatever was
-- placed of the first half, the second fits after it. So each item gets the track that it gets alone, and the tracks
-- are the larger of both.
use Rattle.std.specs.Prelude.{ℕ, zero, suc, max, ◌+◌, ◌≤◌, ◌<◌, ◌≡◌, ◌⊎◌, ◌&&◌, length, eqb}
use Rattle.std.proofs.Common.{arith, sym, ◌∙◌, ap, subst, inl, inr, ⊎_elim, length-append, eqb→eq, eq-eqb, ne_eqb}
use Rattle.std.proofs.Math.Path.{refl}
use mathlib.Core.List.Memᴰ
use mathlib.Core.List.{List, [], ◌∷◌, ◌++◌, map, append-nil, Memᴰ}
use Rattle.std.proofs.Math.Option.{Option, none, some}
use Rattle.std.proofs.lemmas.List.{length-map}
use Rattle.std.proofs.Math.Dec.{T}
use Rattle.lists.specs.Lists.{any_of}
use Rattle.lists.specs.Tests.{T→true, fails→false, and_both, same_test, eq→T, equal?}
use Rattle.lists.specs.Tallies.{all_map}
use Rattle.lists.specs.Orders.{sublist-member, sublist-length}
use Rattle.leftedge.specs.Items.{Items, items_below, Place, is_placed, track_of, fits, clear_below}
use Rattle.leftedge.specs.Fill.{Scan, scan, Filling, filled, stuck, or_else, fill_from, fill_items}
use Rattle.leftedge.specs.Invariants.{Orderly}
use Rattle.leftedge.specs.TrackLaws.{place}
use Rattle.leftedge.proofs.ScanLaws.{Trace, ends, takes, passes, trace, scan-sublist}

-- the items of `a` stand among those of `it` under the numbers that `f` gives them: there they fit as they do alone,
-- and have the same items below them
pub record PartOf (it a : Items) (f : ℕ → ℕ) : Type 0 where
  pub apart : (m n : ℕ) → f m ≡ f n → m ≡ n
  pub fits : (m n : ℕ) → Memᴰ m a.order → Memᴰ n a.order → it.fits_after (f m) (f n) ≡ a.fits_after m n
  pub below : (n : ℕ) → Memᴰ n a.order → items_below it (f n) ≡ map f (items_below a n)

-- the items of `it` are those of `a` and then those of `b`; no number is of both, and each of the second half fits
-- after each of the first
pub record Halves (it a b : Items) (f g : ℕ → ℕ) : Type 0 where
  pub order : it.order ≡ map f a.order ++ map g b.order
  pub first : PartOf it a f
  pub second : PartOf it b g
  pub disjoint : (m n : ℕ) → Memᴰ m a.order → Memᴰ n b.order → f m ≡ g n → ⊥
  pub after : (m n : ℕ) → Memᴰ m a.order → Memᴰ n b.order → T (it.fits_after (f m) (g n))

-- what comes of the fill of both halves, where each alone fills t₁ and t₂ tracks
pub record AsAlone (it a b : Items) (f g : ℕ → ℕ) (t₁ t₂ : ℕ) (ps₁ ps₂ : List Place) : Type 0 where
  pub places : List Place
  pub fills : fill_items it ≡ filled (max t₁ t₂) places
  pub of-first : (n : ℕ) → Memᴰ n a.order → track_of places (f n) ≡ track_of ps₁ n
  pub of-second : (n : ℕ) → Memᴰ n b.order → track_of places (g n) ≡ track_of ps₂ n

-- m is placed here as n is placed there
record Like (ps : List Place) (m : ℕ) (qs : List Place) (n : ℕ) : Type 0 where
  placed : is_placed ps m ≡ is_placed qs n
  track : track_of ps m ≡ track_of qs n

like-none : (m n : ℕ) → Like [] m [] n
unfolding is_placed any_of track_of
like-none m n = record { placed = refl; track = refl }

like-chain : {ps qs rs : List Place} {l m n : ℕ} → Like ps l qs m → Like qs m rs n → Like ps l rs n
like-chain p q = record { placed = p.placed ∙ q.placed; track = p.track ∙ q.track }

like-new : {ps qs : List Place} {x y : ℕ} (m n k : ℕ) → eqb m x ≡ eqb n y → Like ps x qs y
    → Like (place m k ∷ ps) x (place n k ∷ qs) y
unfolding is_placed any_of track_of
like-new m n k e l = record { placed = rw (e, l.placed); track = rw (e, l.track) }

like-old : (ps : List Place) (m k x : ℕ) → (m ≡ x → ⊥) → Like (place m k ∷ ps) x ps x
unfolding is_placed any_of track_of
like-old ps m k x apart = record { placed = rw (ne_eqb m x apart); track = rw (ne_eqb m x apart) }

-- each item of a part is placed as it is alone
abbrev Shows : Items → (ℕ → ℕ) → List Place → List Place → Type 0
Shows a f ps qs = (n : ℕ) → Memᴰ n a.order → Like ps (f n) qs n

abbrev Inside : List ℕ → Items → Type 0
Inside ns a = (n : ℕ) → Memᴰ n ns → Memᴰ n a.order

-- where a scan of the whole stands when it has looked at the items `ns` of a part, of which a scan of the part alone
-- leaves `left` and places qs. Whatever items follow, it goes on from `last` and `places`; other items are placed as
-- they were; and what fitted before and fits after each item of the part still fits
record Moved (it a : Items) (f : ℕ → ℕ) (k : ℕ) (before : Option ℕ) (ps : List Place) (ns : List ℕ) (qs : List Place)
    (left : List ℕ) : Type 0 where
  last : Option ℕ
  places : List Place
  goes_on : (ys rest : List ℕ) (rs : List Place) → Trace it k last places ys rs rest
      → Trace it k before ps (map f ns ++ ys) rs (map f left ++ rest)
  shown : Shows a f places qs
  others : (m : ℕ) → ((n : ℕ) → Memᴰ n a.order → f n ≡ m → ⊥) → Like places m ps m
  free : (y : ℕ) → T (fits it before y) → ((n : ℕ) → Memᴰ n a.order → T (it.fits_after (f n) y))
      → T (fits it last y)

module _ {it a : Items} {f : ℕ → ℕ} (part : PartOf it a f) (orderly : Orderly a) where
  shows-new : (n k : ℕ) {ps qs : List Place} → Shows a f ps qs → Shows a f (place (f n) k ∷ ps) (place n k ∷ qs)
  shows-new n k s m h =
      like-new (f n) n k (same_test (eqb (f n) (f m)) (eqb n m)
      (λ t. eq→T n m (part.apart n m (eqb→eq (f n) (f m) t))) (λ t. eq→T (f n) (f m) (ap f (eqb→eq n m t)))) (s m h)

  clear-same : {ps qs : List Place} (n : ℕ) → Memᴰ n a.order → Shows a f ps qs
      → clear_below it ps (f n) ≡ clear_below a qs n
  unfolding clear_below
  clear-same {ps} {qs} n h s =
      rw (part.below n h) (all_map f (is_placed ps) (is_placed qs) (items_below a n) (λ m x. (s m (below m x)).placed))
    where
      below : (m : ℕ) → Memᴰ m (items_below a n) → Memᴰ m a.order
      below m x =
          let r = Memᴰ.of_map (λ d. d.lower) (a.drops n) x in
          rw (← r.2) (orderly.inside n r.0.lower r.0.column h r.1)

  -- what fits on a track after the items placed before fits there as it does alone; then a scan does with the part as
  -- it does alone
  part-scan : {k : ℕ} {before : Option ℕ} {ps₁ qs : List Place} {ns left : List ℕ} → Trace a k before ps₁ ns qs left
      → (before' : Option ℕ) (ps : List Place) → Inside ns a → Shows a f ps ps₁
      → ((n : ℕ) → Memᴰ n a.order → fits it before' (f n) ≡ fits a before n)
      → Moved it a f k before' ps ns qs left
  unfolding fits
  part-scan ends before' ps inside s like =
      record {
        last = before';
        places = ps;
        goes_on = λ ys rest rs t. t;
        shown = s;
        others = λ m h. record { placed = refl; track = refl };
        free = λ y t h. t;
      }
  part-scan {k} (takes {n = n} fit clear steps) before' ps inside s like =
      let here = inside n (Memᴰ.head refl) in
      let fit' : T (fits it before' (f n)) = rw (like n here) fit in
      let clear' : T (clear_below it ps (f n)) = rw (clear-same n here s) clear in
      let r = part-scan steps (some (f n)) (place (f n) k ∷ ps) (λ m h. inside m (Memᴰ.tail h)) (shows-new n k s)
      (λ m h. part.fits n m here h) in
      record {
        last = r.last;
        places = r.places;
        goes_on = λ ys rest rs t. takes fit' clear' (r.goes_on ys rest rs t);
        shown = r.shown;
        others = λ m h. like-chain (r.others m h) (like-old ps (f n) k m (h n here));
        free = λ y t h. r.free y (h n here) h;
      }
  part-scan (passes {n = n} fails steps) before' ps inside s like =
      let here = inside n (Memᴰ.head refl) in
      let fails' : (T (fits it before' (f n) && clear_below it ps (f n)) → ⊥) =
      rw (like n here, clear-same n here s) fails in
      let r = part-scan steps before' ps (λ m h. inside m (Memᴰ.tail h)) s like in
      record {
        last = r.last;
        places = r.places;
        goes_on = λ ys rest rs t. passes fails' (r.goes_on ys rest rs t);
        shown = r.shown;
        others = r.others;
        free = r.free;
      }

-- the steps of a scan tell what it comes to
trace-scan : {it : Items} {k : ℕ} {before : Option ℕ} {ps qs : List Place} {ns left : List ℕ}
    → Trace it k before ps ns qs left → scan it k before ps ns ≡ record { placed = qs; left = left }
unfolding scan
trace-scan ends = refl
trace-scan {it} {before = before} {ps = ps} (takes {n = n} fit clear steps) =
    rw (T→true (fits it before n && clear_below it ps n) (and_both (fits it before n) (clear_below it ps n) fit clear))
    (trace-scan steps)
trace-scan {it} {before = before} {ps = ps} (passes {n = n} fails steps) =
    rw (fails→false (fits it before n && clear_below it ps n) fails, trace-scan steps)

-- a track that takes an item
fill-next : {it : Items} {done : ℕ} {ps qs : List Place} {left rest : List ℕ} (fuel : ℕ)
    → Trace it (suc done) none ps left qs rest → length rest < length left
    → fill_from (suc fuel) it done ps left ≡ fill_from fuel it (suc done) qs rest
unfolding fill_from or_else
fill-next {left = []} fuel steps fewer = absurd (omega arith)
fill-next {left = n ∷ ns} {rest} fuel steps fewer =
    rw (trace-scan steps, ne_eqb (length rest) (length (n ∷ ns)) (λ e. omega arith))

fill_none : (fuel : ℕ) (it : Items) (done : ℕ) (ps : List Place) → fill_from fuel it done ps [] ≡ filled done ps
unfolding fill_from or_else
fill_none zero it done ps = refl
fill_none (suc fuel) it done ps = refl

-- the tracks of a fill that ends with t tracks and the places rs, from where `done` are filled; after its end it rests
data Runs (a : Items) (t : ℕ) (rs : List Place) : ℕ → List Place → List ℕ → Type 0 where
  rests : {done : ℕ} → t ≤ done → Runs a t rs done rs []
  fills : {done : ℕ} {ps qs : List Place} {left rest : List ℕ} → Trace a (suc done) none ps left qs rest
      → length rest < length left → done < t → Runs a t rs (suc done) qs rest → Runs a t rs done ps left

rests-here : (a : Items) {t done : ℕ} {ps rs : List Place} → filled done ps ≡ filled t rs
    → Runs a t rs done ps [] × (done ≤ t)
rests-here a {t} {done} {ps} {rs} e =
    let here : done ≡ t = cc in
    let same : rs ≡ ps = cc in
    (subst (λ (l : List Place). Runs a t rs done l []) same (rests (omega arith)), omega arith)

stuck-filled : {A : Type 0} {left : List ℕ} {t : ℕ} {rs : List Place} → stuck left ≡ filled t rs → A
stuck-filled e = let z : ◌≡◌ {A = ℕ} 0 1 = cc in absurd (omega arith)

fill→runs : (a : Items) {t : ℕ} {rs : List Place} (fuel done : ℕ) (ps : List Place) (left : List ℕ)
    → fill_from fuel a done ps left ≡ filled t rs → Runs a t rs done ps left × (done ≤ t)
unfolding fill_from or_else
fill→runs a zero done ps [] e = rests-here a e
fill→runs a zero done ps (n ∷ ns) e = stuck-filled e
fill→runs a (suc fuel) done ps [] e = rests-here a e
fill→runs a {t} {rs} (suc fuel) done ps (n ∷ ns) e =
    ⊎_elim (λ same. stuck-filled (rw (eq-eqb (length s.left) (length (n ∷ ns)) same) at e))
    (λ less. go less (fill→runs a fuel (suc done) s.placed s.left
    (rw (ne_eqb (length s.left) (length (n ∷ ns)) less) at e))) (equal? (length s.left) (length (n ∷ ns)))
  where
    s : Scan
    s = scan a (suc done) none ps (n ∷ ns)

    steps : Trace a (suc done) none ps (n ∷ ns) s.placed s.left
    steps = trace a (suc done) none ps (n ∷ ns)

    go : (length s.left ≡ length (n ∷ ns) → ⊥) → Runs a t rs (suc done) s.placed s.left × (suc done ≤ t)
        → Runs a t rs done ps (n ∷ ns) × (done ≤ t)
    go less r =
        let fewer = sublist-length (scan-sublist steps) in
        (fills steps (omega (arith, less)) (omega arith) r.0, omega arith)

-- the next track of a fill: it takes an item, unless none is left
record Next (a : Items) (t : ℕ) (rs : List Place) (done : ℕ) (ps : List Place) (left : List ℕ) : Type 0 where
  placed : List Place
  rest : List ℕ
  steps : Trace a (suc done) none ps left placed rest
  fewer : ((length rest < length left) × (done < t)) ⊎ ((length rest ≡ 0) × (length left ≡ 0))
  runs : Runs a t rs (suc done) placed rest

next-track : {a : Items} {t : ℕ} {rs : List Place} {done : ℕ} {ps : List Place} {left : List ℕ}
    → Runs a t rs done ps left → Next a t rs done ps left
next-track {t = t} {rs} {done} (rests low) =
    let later : t ≤ suc done = omega arith in
    record { placed = rs; rest = []; steps = ends; fewer = inr (refl, refl); runs = rests later }
next-track (fills {qs = qs} {rest = rest} steps fewer high run) =
    record { placed = qs; rest = rest; steps = steps; fewer = inl (fewer, high); runs = run }

-- the next track of two fills takes an item of one or the other
progress : {a b : Items} {t₁ t₂ done : ℕ} {ps₁ ps₂ rs₁ rs₂ : List Place} {ns₁ ns₂ : List ℕ}
    (n₁ : Next a t₁ rs₁ done ps₁ ns₁) (n₂ : Next b t₂ rs₂ done ps₂ ns₂) → (length ns₁ + length ns₂ ≡ 0 → ⊥)
    → (length n₁.rest + length n₂.rest < length ns₁ + length ns₂) × (done < max t₁ t₂)
progress n₁ n₂ some_left =
    ⊎_elim (λ p. ⊎_elim (λ q. omega arith) (λ q. omega arith) n₂.fewer)
    (λ p. ⊎_elim (λ q. omega arith) (λ q. absurd (some_left (omega arith))) n₂.fewer) n₁.fewer

-- a part where `done` tracks of the whole are filled: the items `ns` of it are left, as they are alone
record Half (a : Items) (f : ℕ → ℕ) (t : ℕ) (rs : List Place) (done : ℕ) (ps : List Place) (ns : List ℕ) : Type 0 where
  alone : List Place
  runs : Runs a t rs done alone ns
  inside : Inside ns a
  shown : Shows a f ps alone

half-begins : (a : Items) (f : ℕ → ℕ) {t : ℕ} {rs : List Place} → fill_items a ≡ filled t rs
    → Half a f t rs 0 [] a.order
unfolding fill_items
half-begins a f e =
    record {
      alone = [];
      runs = (fill→runs a (length a.order) 0 [] a.order e).0;
      inside = λ n x. x;
      shown = λ n x. like-none (f n) n;
    }

half-ends : {a : Items} {f : ℕ → ℕ} {t : ℕ} {rs : List Place} {done : ℕ} {ps : List Place} → Half a f t rs done ps []
    → Shows a f ps rs × (t ≤ done)
half-ends {a} {f} {t} {rs} {done} {ps} p = go p.runs p.shown
  where
    go : {qs : List Place} → Runs a t rs done qs [] → Shows a f ps qs → Shows a f ps rs × (t ≤ done)
    go (rests low) s = (s, low)
    go (fills steps fewer high run) s = absurd (omega arith)

half-next : {a : Items} {f : ℕ → ℕ} {t : ℕ} {rs : List Place} {done : ℕ} {ps qs : List Place} {ns : List ℕ}
    (p : Half a f t rs done ps ns) (n : Next a t rs done p.alone ns) → Shows a f qs n.placed
    → Half a f t rs (suc done) qs n.rest
half-next p n s =
    record {
      alone = n.placed;
      runs = n.runs;
      inside = λ m x. p.inside m (sublist-member (scan-sublist n.steps) x);
      shown = s;
    }

-- a scan of both halves: it does on each what is done there alone
record Joined (it a b : Items) (f g : ℕ → ℕ) (k : ℕ) (ps : List Place) (ns₁ ns₂ : List ℕ) (qs₁ qs₂ : List Place)
    (left₁ left₂ : List ℕ) : Type 0 where
  places : List Place
  steps : Trace it k none ps (map f ns₁ ++ map g ns₂) places (map f left₁ ++ map g left₂)
  first : Shows a f places qs₁
  second : Shows b g places qs₂

-- a fill of both halves that ends with t tracks
record FilledBoth (a b : Items) (f g : ℕ → ℕ) (t : ℕ) (rs₁ rs₂ : List Place) (whole : Filling) : Type 0 where
  places : List Place
  fills : whole ≡ filled t places
  first : Shows a f places rs₁
  second : Shows b g places rs₂

module _ {it a b : Items} {f g : ℕ → ℕ} (h : Halves it a b f g) (orderly₁ : Orderly a) (orderly₂ : Orderly b) where
  -- the second half starts its scan as on an empty track, since each of its items fits after each of the first half
  join-scans : {k : ℕ} {ps ps₁ ps₂ qs₁ qs₂ : List Place} {ns₁ ns₂ left₁ left₂ : List ℕ}
      → Trace a k none ps₁ ns₁ qs₁ left₁ → Trace b k none ps₂ ns₂ qs₂ left₂ → Inside ns₁ a → Inside ns₂ b
      → Shows a f ps ps₁ → Shows b g ps ps₂ → Joined it a b f g k ps ns₁ ns₂ qs₁ qs₂ left₁ left₂
  unfolding fits
  join-scans {k} {ps} {qs₁ = qs₁} {qs₂} {ns₁} {ns₂} {left₁} {left₂} steps₁ steps₂ in₁ in₂ s₁ s₂ =
      record {
        places = q.places;
        steps =
            p.goes_on (map g ns₂) (map g left₂) q.places
            (simp append-nil at (q.goes_on [] [] q.places ends));
        first = λ m x. like-chain (q.others (f m) (λ n y e. h.disjoint m n x y (sym e))) (p.shown m x);
        second = q.shown;
      }
    where
      p : Moved it a f k none ps ns₁ qs₁ left₁
      p = part-scan h.first orderly₁ steps₁ none ps in₁ s₁ (λ n x. refl)

      q : Moved it b g k p.last p.places ns₂ qs₂ left₂
      q =
          part-scan h.second orderly₂ steps₂ p.last p.places in₂
          (λ n x. like-chain (p.others (g n) (λ m y. h.disjoint m n y x)) (s₂ n x))
          (λ n x. T→true (fits it p.last (g n)) (p.free (g n) tt (λ m y. h.after m n y x)))

  module _ {t₁ t₂ : ℕ} {rs₁ rs₂ : List Place} where
    all_rest : {ps : List Place} (ns₁ ns₂ : List ℕ) (fuel done : ℕ) → length ns₁ + length ns₂ ≡ 0 → done ≤ max t₁ t₂
        → Half a f t₁ rs₁ done ps ns₁ → Half b g t₂ rs₂ done ps ns₂
        → FilledBoth a b f g (max t₁ t₂) rs₁ rs₂ (fill_from fuel it done ps (map f ns₁ ++ map g ns₂))
    all_rest {ps} [] [] fuel done none_left high p q =
        let r = half-ends p in
        let s = half-ends q in
        let all : done ≡ max t₁ t₂ = omega arith in
        record {
          places = ps;
          fills = fill_none fuel it done ps ∙ ap (λ (t : ℕ). filled t ps) all;
          first = r.0;
          second = s.0;
        }
    all_rest [] (n ∷ ns) fuel done none_left high p q = absurd (omega arith)
    all_rest (m ∷ ms) ns fuel done none_left high p q = absurd (omega arith)

    -- each track takes an item of a half that has not ended; a half that has ended rests until the other ends too
    join-fills : (ns₁ ns₂ : List ℕ) (fuel done : ℕ) {ps : List Place} → length ns₁ + length ns₂ ≤ fuel
        → done ≤ max t₁ t₂ → Half a f t₁ rs₁ done ps ns₁ → Half b g t₂ rs₂ done ps ns₂
        → FilledBoth a b f g (max t₁ t₂) rs₁ rs₂ (fill_from fuel it done ps (map f ns₁ ++ map g ns₂))
    join-fills ns₁ ns₂ zero done enough high p q = all_rest ns₁ ns₂ zero done (omega arith) high p q
    join-fills ns₁ ns₂ (suc fuel) done enough high p q =
        ⊎_elim (λ none_left. all_rest ns₁ ns₂ (suc fuel) done none_left high p q) (λ some_left.
        let n₁ = next-track p.runs in
        let n₂ = next-track q.runs in
        let j = join-scans n₁.steps n₂.steps p.inside q.inside p.shown q.shown in
        let on = progress n₁ n₂ some_left in
        let r = join-fills n₁.rest n₂.rest fuel (suc done) (omega arith) on.1 (half-next p n₁ j.first)
        (half-next q n₂ j.second) in
        record {
          places = r.places;
          fills = fill-next fuel j.steps (simp (length-append, length-map) on.0) ∙ r.fills;
          first = r.first;
          second = r.second;
        }) (equal? (length ns₁ + length ns₂) 0)

pub halves-filled : {it a b : Items} {f g : ℕ → ℕ} → Halves it a b f g → Orderly a → Orderly b → {t₁ t₂ : ℕ}
    {ps₁ ps₂ : List Place} → fill_items a ≡ filled t₁ ps₁ → fill_items b ≡ filled t₂ ps₂
    → AsAlone it a b f g t₁ t₂ ps₁ ps₂
unfolding fill_items
halves-filled {it} {a} {b} {f} {g} h orderly₁ orderly₂ {t₁} {t₂} {ps₁} {ps₂} e₁ e₂ =
    record {
      places = r.places;
      fills = ap (λ (l : List ℕ). fill_from (length l) it 0 [] l) h.order ∙ r.fills;
      of-first = λ n x. (r.first n x).track;
      of-second = λ n x. (r.second n x).track;
    }
  where
    ns : List ℕ
    ns = map f a.order ++ map g b.order

    r : FilledBoth a b f g (max t₁ t₂) ps₁ ps₂ (fill_from (length ns) it 0 [] ns)
    r =
        join-fills h orderly₁ orderly₂ a.order b.order (length ns) 0
        (simp (length-append, length-map) (omega arith)) (omega arith) (half-begins a f e₁) (half-begins b g e₂)
