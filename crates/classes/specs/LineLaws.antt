-- A line's elements, entered and swept: those whose ranges overlap are joined, and no others.
use Rattle.std.specs.Prelude.{ℕ, suc, max, ◌≤◌, ◌<◌, ◌≡◌, List, ◌⊎◌, length, get_or}
use Rattle.std.proofs.Common.{arith, sym, ◌∙◌, ap, inl, inr, ⊎_elim, get_or-set_same, get_or-set_other}
use Rattle.std.proofs.Math.Decide.{dec_lt}
use Rattle.lists.specs.Tests.{equal?}
use Rattle.classes.specs.declared.Range.{Range}
use Rattle.classes.specs.Halves.{half, low_half, high_half, number_of, low-number, low_same, high-number}
use Rattle.classes.specs.Halves.{high-none, high-grows}
use Rattle.classes.specs.Forest.{Forest, root_of, Same, Grown, Respects}
use Rattle.classes.specs.GrowLaws.{grown-itself, grown-chained, kept-grown, joins-grown, joins-same}
use Rattle.classes.specs.GrowLaws.{kept-respects, joins-respects}
use Rattle.classes.specs.Sweep.{Sweepable, Enters, Swept}
use Rattle.classes.specs.Lines.{Overlap, RangesFit, EntryOf, AlikeOn, Entered, LinesJoined}

-- a number that reaches past a place is not 0
high-real : (x v : ℕ) → x < high_half v → 0 < v
unfolding high_half
high-real x v h = omega arith

pub entered-none : (R : ℕ → Range) (l : ℕ) (starts s : List ℕ) → Forest s → ((a : ℕ) → get_or starts a 0 ≡ 0)
    → Entered R l (length s) starts s s
entered-none R l starts s f h =
    record {
      grown = grown-itself f;
      real = λ a. inl (h a);
      seen = λ e k m q. absurd (omega arith);
      only = λ label r alike. r;
    }

-- an element entered where v stands: its class is joined to that of v's element, if v is not 0
record Into (v e : ℕ) (s s' : List ℕ) : Type 0 where
  grown : Grown s s'
  linked : 0 < v → Same s' (low_half v) e
  only : (label : ℕ → ℕ) → Respects label s → (0 < v → label (low_half v) ≡ label e) → Respects label s'

into : {e start past : ℕ} {starts s starts' s' : List ℕ} → Enters e start past starts s starts' s' → e < length s
    → (get_or starts start 0 ≡ 0)
    ⊎ ((start < high_half (get_or starts start 0)) × (low_half (get_or starts start 0) < length s))
    → Into (get_or starts start 0) e s s'
into t l (inl z) =
    let h = ap high_half z ∙ high-none in
    let k = t.apart (λ q. omega arith) in
    record {
      grown = kept-grown k;
      linked = λ p. absurd (omega arith);
      only = λ label r same. kept-respects label k r;
    }
into {start = start} {starts = starts} t l (inr p) =
    let j = t.joins p.0 in
    record {
      grown = joins-grown j;
      linked = λ q. joins-same j p.1 l;
      only =
          λ label r same.
          joins-respects label j p.1 l r (same (high-real start (get_or starts start 0) p.0));
    }

-- the places after an element is entered
record Stored (e start past : ℕ) (starts starts' : List ℕ) : Type 0 where
  most : get_or starts' start 0 ≡ max (get_or starts start 0) (number_of e past)
  other : (a : ℕ) → (a ≡ start → ⊥) → get_or starts' a 0 ≡ get_or starts a 0

entry-stored : {e start past : ℕ} {starts s starts' s' : List ℕ} → Enters e start past starts s starts' s'
    → start < length starts → Stored e start past starts starts'
entry-stored {e} {start} {past} {starts} t h =
    let m = max (get_or starts start 0) (number_of e past) in
    rw t.stored (record {
      most = get_or-set_same starts start m 0 h;
      other = λ a n. get_or-set_other starts start a m 0 n;
    })

-- which of two numbers is the greater
greater : (v w m : ℕ) → m ≡ max v w → ((m ≡ v) × (0 < v)) ⊎ (m ≡ w)
greater v w m q = elim (dec_lt w v) [
  | yes k ↦ inl (omega arith)
  | no k ↦ inr (omega arith)
]

-- the greater of two numbers has the one that reaches further: both elements are of its class
record Furthest (v e past m : ℕ) (s : List ℕ) : Type 0 where
  same : Same s e (low_half m)
  reach : (past ≤ high_half m) × (high_half v ≤ high_half m)

furthest : (v e past m : ℕ) (s : List ℕ) → e < half → (0 < v → Same s (low_half v) e) → m ≡ max v (number_of e past)
    → Furthest v e past m s
furthest v e past m s small linked q =
    let hi = high-number e past small in
    let hv = high-grows v m (omega arith) in
    let hw = high-grows (number_of e past) m (omega arith) in
    record {
      same =
          ⊎_elim (λ (p : (m ≡ v) × (0 < v)). sym (ap (λ (x : ℕ). root_of s (low_half x)) p.0 ∙ linked p.1))
          (λ (p : m ≡ number_of e past). ap (root_of s) (sym (ap low_half p ∙ low-number e past small)))
          (greater v (number_of e past) m q);
      reach = omega arith;
    }

module _ {R : ℕ → Range} {l n : ℕ} where
  entry-made : (e : ℕ) → e < n → e < half → (R e).line ≡ l → EntryOf R l n (R e).start (number_of e (R e).past)
  entry-made e h small on =
      let q = low-number e (R e).past small in
      record {
        inside = omega arith;
        line = ap (λ (j : ℕ). (R j).line) q ∙ on;
        start = ap (λ (j : ℕ). (R j).start) q;
        past = ap (λ (j : ℕ). (R j).past) q ∙ sym (high-number e (R e).past small);
      }

  -- the element of an entry meets what starts in its range
  entry-meets : {lines places a v : ℕ} → RangesFit R n lines places → EntryOf R l n a v → 0 < l → (f : ℕ) → f < n
      → (R f).line ≡ l → a ≤ (R f).start → (R f).start < high_half v → Overlap (R (low_half v)) (R f)
  entry-meets fit q pos f h on low high =
      let w = fit.wide f h in
      record { same = q.line ∙ sym on; real = omega arith; first = omega arith; second = omega arith }

  entry-reaches : {lines places a v : ℕ} → RangesFit R n lines places → EntryOf R l n a v → a < high_half v
  entry-reaches {v = v} fit q = let w = fit.wide (low_half v) q.inside in omega arith

  -- the places after an element is entered: each is free or has an entry
  real-next : {starts starts' : List ℕ} (e : ℕ) → e < n → e < half → (R e).line ≡ l
      → Stored e (R e).start (R e).past starts starts'
      → ((a : ℕ) → (get_or starts a 0 ≡ 0) ⊎ EntryOf R l n a (get_or starts a 0)) → (a : ℕ)
      → (get_or starts' a 0 ≡ 0) ⊎ EntryOf R l n a (get_or starts' a 0)
  real-next {starts} {starts'} e h small on t real a =
      ⊎_elim (λ (p : a ≡ (R e).start). rw p (⊎_elim (λ (q : (m ≡ v) × (0 < v)). rw q.0 (real (R e).start))
      (λ (q : m ≡ w). rw q (inr (entry-made e h small on))) (greater v w m t.most)))
      (λ k. rw (t.other a k) (real a)) (equal? a (R e).start)
    where
      v : ℕ
      v = get_or starts (R e).start 0

      m : ℕ
      m = get_or starts' (R e).start 0

      w : ℕ
      w = number_of e (R e).past

-- the element that stands for a place is one of the forest's
entry-inside : {R : ℕ → Range} {l x : ℕ} {starts s₀ s : List ℕ} → Entered R l x starts s₀ s → 0 < length s₀ → (a : ℕ)
    → low_half (get_or starts a 0) < length s₀
entry-inside h p a =
    ⊎_elim (λ z. let q = ap low_half z ∙ low_same 0 (omega arith) in omega arith) (λ q. q.inside) (h.real a)

entry_at : {R : ℕ → Range} {l x : ℕ} {starts s₀ s : List ℕ} → Entered R l x starts s₀ s → (a : ℕ)
    → 0 < get_or starts a 0 → EntryOf R l (length s₀) a (get_or starts a 0)
entry_at h a p = ⊎_elim (λ z. absurd (omega arith)) (λ q. q) (h.real a)

abbrev SeenAt : (ℕ → Range) → List ℕ → List ℕ → ℕ → Type 0
SeenAt R starts s f =
    Same s f (low_half (get_or starts (R f).start 0)) × ((R f).past ≤ high_half (get_or starts (R f).start 0))

seen-grown : (R : ℕ → Range) (starts s s' : List ℕ) (f : ℕ) → Grown s s' → f < length s
    → low_half (get_or starts (R f).start 0) < length s → SeenAt R starts s f → SeenAt R starts s' f
seen-grown R starts s s' f g h k q = (g.grows f (low_half (get_or starts (R f).start 0)) h k q.0, q.1)

-- the element e of line l is entered
pub entered-next : (R : ℕ → Range) (l e lines places : ℕ) (starts s₀ s starts' s' : List ℕ)
    → RangesFit R (length s₀) lines places → length starts ≡ places → Entered R l (suc e) starts s₀ s
    → e < length s₀ → 0 < l → (R e).line ≡ l
    → Enters e (R e).start (R e).past starts s starts' s' → Entered R l e starts' s₀ s'
entered-next R l e lines places starts s₀ s starts' s' fit size h le pos on t =
    record {
      grown = grown-chained h.grown t'.grown;
      real = real-next e le small.1 on stored h.real;
      seen = λ f lf x q. ⊎_elim (seen_here f lf x q) (seen_other f lf x q) (equal? (R f).start start);
      only = λ label r alike. t'.only label (h.only label r alike) (alike-here label alike);
    }
  where
    start : ℕ
    start = (R e).start

    v : ℕ
    v = get_or starts start 0

    m : ℕ
    m = get_or starts' start 0

    stored : Stored e start (R e).past starts starts'
    stored = let a = fit.wide e le in let b = fit.placed e le in entry-stored t (omega arith)

    small : (length s ≡ length s₀) × (e < half)
    small = let z = h.grown.size in let k = h.grown.forest.small in omega arith

    t' : Into v e s s'
    t' =
        into t (omega (arith, small)) (⊎_elim inl (λ (q : EntryOf R l (length s₀) start v).
        inr (entry-reaches fit q, omega (arith, small, q.inside))) (h.real start))

    far : Furthest v e (R e).past m s'
    far = furthest v e (R e).past m s' small.1 t'.linked stored.most

    before : (f : ℕ) → f < length s₀ → e < f → (R f).line ≡ l → SeenAt R starts s' f
    before f lf x q =
        let b = entry-inside h (omega arith) (R f).start in
        seen-grown R starts s s' f t'.grown (omega (arith, small)) (omega (arith, small))
        (h.seen f lf (omega arith) q)

    seen_here : (f : ℕ) → f < length s₀ → e ≤ f → (R f).line ≡ l → (R f).start ≡ start → SeenAt R starts' s' f
    seen_here f lf x q p =
        ⊎_elim (λ (z : f ≡ e). rw z (far.same, far.reach.0))
        (λ n. let k : Same s' f (low_half v) × ((R f).past ≤ high_half v) = rw p at (before f lf (omega arith) q) in
        let a = fit.wide f lf in
        let b = far.reach in
        rw p (k.0 ∙ t'.linked (high-real 0 v (omega arith)) ∙ far.same, omega arith)) (equal? f e)

    seen_other : (f : ℕ) → f < length s₀ → e ≤ f → (R f).line ≡ l → ((R f).start ≡ start → ⊥) → SeenAt R starts' s' f
    seen_other f lf x q n =
        let d : (f ≡ e → ⊥) = λ z. n (ap (λ (j : ℕ). (R j).start) z) in
        rw (stored.other (R f).start n) (before f lf (omega arith) q)

    alike-here : (label : ℕ → ℕ) → AlikeOn R l (length s₀) label → 0 < v → label (low_half v) ≡ label e
    alike-here label alike p =
        let q = entry_at h start p in
        alike (low_half v) e q.inside le q.line
        (entry-meets fit q pos e le on (omega arith) (entry-reaches fit q))

-- no element of line l stands between
pub entered-skip : (R : ℕ → Range) (l x y : ℕ) (starts s₀ s : List ℕ) → Entered R l x starts s₀ s
    → ((e : ℕ) → y ≤ e → e < x → (R e).line ≡ l → ⊥) → Entered R l y starts s₀ s
entered-skip R l x y starts s₀ s h none =
    record {
      grown = h.grown;
      real = h.real;
      seen =
          λ e k m q. elim (dec_lt e x) [
            | yes d ↦ absurd (none e m d q)
            | no d ↦ h.seen e k (omega arith) q
          ];
      only = h.only;
    }

pub entered-sweepable : (R : ℕ → Range) (l x : ℕ) (starts s₀ s : List ℕ) → Entered R l x starts s₀ s → 0 < length s₀
    → Sweepable starts s
entered-sweepable R l x starts s₀ s h p =
    let z = h.grown.size in
    record {
      forest = h.grown.forest;
      inside = λ a k. let q = entry-inside h p a in omega arith;
    }

pub lines_none : (R : ℕ → Range) (s : List ℕ) → Forest s → LinesJoined R 1 s s
lines_none R s f =
    record {
      grown = grown-itself f;
      links = λ e f' h h' k o. absurd (omega arith);
      only = λ label r alike. r;
    }

-- one more line is entered and swept
pub lines_next : (R : ℕ → Range) (l lines places : ℕ) (starts s₀ s₁ s₂ starts' s₃ : List ℕ)
    → RangesFit R (length s₀) lines places → 0 < l → length starts ≡ places → LinesJoined R l s₀ s₁
    → Entered R l 0 starts s₁ s₂ → Swept starts s₂ starts' s₃ → LinesJoined R (suc l) s₀ s₃
lines_next R l lines places starts s₀ s₁ s₂ starts' s₃ fit pos size h t w =
    record {
      grown = grown-chained h.grown up;
      links =
          λ e f he hf k o. elim (dec_lt (R e).line l) [
            | yes d ↦ up.grows e f (omega (arith, z)) (omega (arith, z)) (h.links e f he hf d o)
            | no d ↦ linked e f he hf (omega arith) (omega (arith, o.same)) o.first o.second
          ];
      only =
          λ label r alike. let here = alike l (omega arith) in
          w.only label (t.only label (h.only label r (λ k m. alike k (omega arith))) (rw (sym z) at here))
          (labels label here);
    }
  where
    up : Grown s₁ s₃
    up = grown-chained t.grown w.grown

    z : length s₁ ≡ length s₀
    z = h.grown.size

    entry : (a : ℕ) → 0 < get_or starts a 0 → EntryOf R l (length s₀) a (get_or starts a 0)
    entry a p = rw z at (entry_at t a p)

    seen : (e : ℕ) → e < length s₀ → (R e).line ≡ l → SeenAt R starts s₃ e
    seen e he on =
        let g = t.grown.size in
        let b = entry-inside t (omega (arith, z)) (R e).start in
        seen-grown R starts s₂ s₃ e w.grown (omega (arith, z)) (omega arith)
        (t.seen e (omega (arith, z)) (omega arith) on)

    rising : (e f : ℕ) → e < length s₀ → f < length s₀ → (R e).line ≡ l → (R f).line ≡ l → (R e).start ≤ (R f).start
        → (R f).start < (R e).past → Same s₃ e f
    rising e f he hf on on' low high =
        let k = seen e he on in
        let k' = seen f hf on' in
        let a = fit.wide f hf in
        let b = fit.placed f hf in
        let p = high-real 0 (get_or starts (R f).start 0) (omega arith) in
        k.0 ∙ w.links (R e).start (R f).start low (omega arith) (omega arith) p ∙ sym k'.0

    linked : (e f : ℕ) → e < length s₀ → f < length s₀ → (R e).line ≡ l → (R f).line ≡ l → (R e).start < (R f).past
        → (R f).start < (R e).past → Same s₃ e f
    linked e f he hf on on' first second =
        elim (dec_lt (R f).start (R e).start) [
          | yes k ↦ sym (rising f e hf he on' on (omega arith) first)
          | no k ↦ rising e f he hf on on' (omega arith) second
        ]

    labels : (label : ℕ → ℕ) → AlikeOn R l (length s₀) label → (a b : ℕ) → a < b → b < length starts
        → b < high_half (get_or starts a 0) → 0 < get_or starts b 0
        → label (low_half (get_or starts a 0)) ≡ label (low_half (get_or starts b 0))
    labels label alike a b k k' high p =
        let q = entry a (high-real b (get_or starts a 0) high) in
        let q' = entry b p in
        alike (low_half (get_or starts a 0)) (low_half (get_or starts b 0)) q.inside q'.inside q.line
        (entry-meets fit q pos (low_half (get_or starts b 0)) q'.inside q'.line (omega arith) (omega arith))
