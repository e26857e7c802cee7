-- The sweep, place by place: of what starts before a place, all that reaches it is of one class with what reaches
-- furthest.
use Rattle.std.specs.Prelude.{ℕ, max, ◌+◌, ◌≤◌, ◌<◌, ◌≡◌, refl, List, ◌⊎◌, length, get_or, set}
use Rattle.std.proofs.Common.{arith, below_more, sym, ◌∙◌, ap, inl, inr, ⊎_elim, length-set, get_or-set_same, get_or-set_other}
use Rattle.std.proofs.Math.Decide.{dec_lt}
use Rattle.std.proofs.Math.ListN.{get_or-eq_default}
use Rattle.lists.specs.Tests.{equal?}
use Rattle.classes.specs.Halves.{low_half, high_half, low-none, high-times, high-grows}
use Rattle.classes.specs.Forest.{Same, Grown, Respects}
use Rattle.classes.specs.Sweep.{Sweepable, Passes, Swept, OneLabel}
use Rattle.classes.specs.GrowLaws.{grown-itself, grown-chained, kept-grown, joins-grown, joins-same}
use Rattle.classes.specs.GrowLaws.{kept-respects, joins-respects}

-- what the sweep has done before place i, with the number of what reaches furthest
pub record SweptTo (T s₀ : List ℕ) (i furthest : ℕ) (T' s : List ℕ) : Type 0 where
  pub grown : Grown s₀ s
  pub size : length T' ≡ length T
  pub cleared : (a : ℕ) → a < i → get_or T' a 0 ≡ 0
  pub ahead : (a : ℕ) → i ≤ a → get_or T' a 0 ≡ get_or T a 0
  pub held : (furthest ≡ 0) ⊎ ((a : ℕ) × (a < i) × (get_or T a 0 ≡ furthest))
  pub behind : (a : ℕ) → a < i → high_half (get_or T a 0) ≤ high_half furthest
  pub reaches : (a : ℕ) → a < i → i < high_half (get_or T a 0) → Same s (low_half (get_or T a 0)) (low_half furthest)
  pub links : (a b : ℕ) → a ≤ b → b < i → b < high_half (get_or T a 0) → 0 < get_or T b 0
      → Same s (low_half (get_or T a 0)) (low_half (get_or T b 0))
  pub only : (label : ℕ → ℕ) → Respects label s₀ → OneLabel label T → Respects label s

-- what a pass does to the classes, whether or not something starts at its place
record Step (i furthest v : ℕ) (s : List ℕ) (r : ℕ) (s' : List ℕ) : Type 0 where
  pub grown : Grown s s'
  pub most : r ≡ max furthest v
  pub link : i < high_half furthest → 0 < v → Same s' (low_half furthest) (low_half v)
  pub only : (label : ℕ → ℕ) → Respects label s
      → (i < high_half furthest → 0 < v → label (low_half furthest) ≡ label (low_half v))
      → Respects label s'

step : {T s T' s' : List ℕ} (i furthest r : ℕ) → low_half furthest < length s → low_half (get_or T i 0) < length s
    → Passes i furthest T s r T' s' → Step i furthest (get_or T i 0) s r s'
step {T} {s} {s' = s'} i furthest r lf lv p = ⊎_elim free taken (equal? (get_or T i 0) 0)
  where
    free : get_or T i 0 ≡ 0 → Step i furthest (get_or T i 0) s r s'
    free e =
        let q = p.free e in
        record {
          grown = kept-grown q.1;
          most = omega arith;
          link = λ h k. absurd (omega arith);
          only = λ label h same. kept-respects label q.1 h;
        }

    taken : (get_or T i 0 ≡ 0 → ⊥) → Step i furthest (get_or T i 0) s r s'
    taken n =
        let m = p.taken n in
        elim (dec_lt i (high_half furthest)) [
          | yes h ↦ record {
            grown = joins-grown (m.joins h);
            most = m.furthest;
            link = λ h k. joins-same (m.joins h) lf lv;
            only = λ label q same. joins-respects label (m.joins h) lf lv q (same h (omega arith));
          }
          | no h ↦ record {
            grown = kept-grown (m.apart h);
            most = m.furthest;
            link = λ k _. absurd (h k);
            only = λ label q same. kept-respects label (m.apart h) q;
          }
        ]

-- before the first place nothing is done
pub swept_none : {T s₀ : List ℕ} → Sweepable T s₀ → SweptTo T s₀ 0 0 T s₀
swept_none w =
    record {
      grown = grown-itself w.forest;
      size = refl;
      cleared = λ a l. absurd (omega arith);
      ahead = λ a l. refl;
      held = inl refl;
      behind = λ a l. absurd (omega arith);
      reaches = λ a l h. absurd (omega arith);
      links = λ a b l h k p. absurd (omega arith);
      only = λ label h same. h;
    }

module _ (T s₀ : List ℕ) (i furthest : ℕ) (T' s : List ℕ) (w : Sweepable T s₀) (k : SweptTo T s₀ i furthest T' s) where
  -- each element of the first table is one of the present forest
  inside : (a : ℕ) → a < length T → low_half (get_or T a 0) < length s
  inside a l = let z = k.grown.size in let h = w.inside a l in omega arith

  -- so is that of what reaches furthest: it started at a place before, or is 0
  pub furthest-inside : i < length T → low_half furthest < length s
  furthest-inside l =
      let z = inside i l in
      ⊎_elim (λ e. let q = ap low_half e ∙ low-none in omega arith)
      (λ h. let q = ap low_half h.2 in let x = inside h.0 (omega arith) in omega arith) k.held

  -- the present table holds 0, or what the first one held
  pub swept-inside : Sweepable T' s
  swept-inside =
      record {
        forest = k.grown.forest;
        inside =
            λ a l. let z = k.size in
            let x = inside a (omega arith) in
            elim (dec_lt a i) [
              | yes h ↦ let q = ap low_half (k.cleared a h) ∙ low-none in omega arith
              | no h ↦ let q = ap low_half (k.ahead a (omega arith)) in omega arith
            ];
      }

  -- one place further
  module _ (r : ℕ) (s' : List ℕ) (l : i < length T) (p : Step i furthest (get_or T i 0) s r s') where
    -- what reaches here is still of one class with what reached furthest
    stays : (a : ℕ) → a < i → i < high_half (get_or T a 0) → Same s' (low_half (get_or T a 0)) (low_half furthest)
    stays a la h =
        p.grown.grows (low_half (get_or T a 0)) (low_half furthest) (inside a (omega arith)) (furthest-inside l)
        (k.reaches a la h)

    -- what starts here is of one class with all that reaches here
    linked : 0 < get_or T i 0 → (a : ℕ) → a < i + 1 → i < high_half (get_or T a 0)
        → Same s' (low_half (get_or T a 0)) (low_half (get_or T i 0))
    linked pos =
        below_more _ i
        (λ a la h. let q = k.behind a la in stays a la h ∙ p.link (omega arith) pos) (λ h. refl)

    next-behind : (a : ℕ) → a < i + 1 → high_half (get_or T a 0) ≤ high_half r
    next-behind =
        let m = p.most in
        let x = high-grows furthest r (omega arith) in
        below_more _ i (λ a la. let q = k.behind a la in omega arith) (high-grows (get_or T i 0) r (omega arith))

    -- where what starts here reaches no further, all that reaches here is of one class with what reached furthest
    to_held : get_or T i 0 ≤ furthest → (a : ℕ) → a < i + 1 → i < high_half (get_or T a 0)
        → Same s' (low_half (get_or T a 0)) (low_half furthest)
    to_held g =
        let x = high-grows (get_or T i 0) furthest g in
        let y = high-times (get_or T i 0) in
        below_more _ i stays (λ h. sym (p.link (omega arith) (omega arith)))

    next-reaches : (a : ℕ) → a < i + 1 → i + 1 < high_half (get_or T a 0) → Same s' (low_half (get_or T a 0)) (low_half r)
    next-reaches a la h =
        let m = p.most in
        elim (dec_lt furthest (get_or T i 0)) [
          | yes g ↦
              let e : r ≡ get_or T i 0 = omega arith in rw e (linked (omega arith) a la (omega arith))
          | no g ↦ let e : r ≡ furthest = omega arith in rw e (to_held (omega arith) a la (omega arith))
        ]

    next-held : (r ≡ 0) ⊎ ((a : ℕ) × (a < i + 1) × (get_or T a 0 ≡ r))
    next-held =
        let m = p.most in
        elim (dec_lt furthest (get_or T i 0)) [
          | yes g ↦ inr (i, omega arith, omega arith)
          | no g ↦ ⊎_elim (λ e. inl (omega arith)) (λ h. inr (h.0, omega arith, omega arith)) k.held
        ]

    next-links : (a b : ℕ) → a ≤ b → b < i + 1 → b < high_half (get_or T a 0) → 0 < get_or T b 0
        → Same s' (low_half (get_or T a 0)) (low_half (get_or T b 0))
    next-links a b h lb =
        below_more (λ b. a ≤ b → b < high_half (get_or T a 0) → 0 < get_or T b 0
        → Same s' (low_half (get_or T a 0)) (low_half (get_or T b 0))) i
        (λ b lb h q pos. p.grown.grows (low_half (get_or T a 0)) (low_half (get_or T b 0)) (inside a (omega arith))
        (inside b (omega arith)) (k.links a b h lb q pos)) (λ h q pos. linked pos a (omega arith) q) b lb h

    -- what reaches furthest started at a place before, unless it is none and so reaches nothing
    next-only : (label : ℕ → ℕ) → Respects label s₀ → OneLabel label T → Respects label s'
    next-only label resp same =
        p.only label (k.only label resp same)
        (λ h pos. ⊎_elim (λ e. let z = high-times furthest in absurd (omega arith))
        (λ (x : (a : ℕ) × (a < i) × (get_or T a 0 ≡ furthest)). rw (sym x.2) (same x.0 i x.1 l
        (let q = ap high_half x.2 in omega arith) pos)) k.held)

    next : {T'' : List ℕ} → T'' ≡ set T' i 0 → SweptTo T s₀ (i + 1) r T'' s'
    next {T''} e =
        let z = k.size in
        record {
          grown = grown-chained k.grown p.grown;
          size = ap length e ∙ length-set T' i 0 ∙ k.size;
          cleared =
              below_more _ i (λ a la. rw e (get_or-set_other T' i a 0 0 (λ q. omega arith) ∙ k.cleared a la))
              (rw e (get_or-set_same T' i 0 0 (omega arith)));
          ahead =
              λ a la. rw e (get_or-set_other T' i a 0 0 (λ q. omega arith) ∙ k.ahead a (omega arith));
          held = next-held;
          behind = next-behind;
          reaches = next-reaches;
          links = next-links;
          only = next-only;
        }

  -- a pass goes one place further
  pub swept-next : (r : ℕ) (T'' s'' : List ℕ) → i < length T → Passes i furthest T' s r T'' s''
      → SweptTo T s₀ (i + 1) r T'' s''
  swept-next r T'' s'' l q =
      let e = k.ahead i (omega arith) in
      let z = k.size in
      let p = step i furthest r (furthest-inside l) (swept-inside.inside i (omega arith)) q in
      next r s'' l (rw e at p) q.cleared

-- past the last place all is swept
pub swept-whole : {T s₀ T' s : List ℕ} {i furthest : ℕ} → SweptTo T s₀ i furthest T' s → length T ≤ i
    → Swept T s₀ T' s
swept-whole {T' = T'} {i = i} k l =
    record {
      grown = k.grown;
      links = λ a b h lb. k.links a b h (omega arith);
      only = k.only;
      clear =
          λ a. let z = k.size in
          elim (dec_lt a i) [
            | yes h ↦ k.cleared a h
            | no h ↦ get_or-eq_default T' 0 (omega arith)
          ];
    }
