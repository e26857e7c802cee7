-- A root is its own parent, and what is the same for each element and its parent is the same for the whole class.
use Prim.Native.Nat.{ℕ, zero, suc, min, max, ◌≤◌, ◌<◌}
use native.Mathlib.Omega.{arith}
use Rattle.std.proofs.Math.Decide.{dec_lt}
use Rattle.std.specs.Prelude.{◌≡◌, List, Bool, cond, length, get_or, set, eqb}
use Rattle.std.proofs.Math.Path.{refl, sym, ap, subst}
use Rattle.std.proofs.Common.{◌∙◌, get_or-set_same, get_or-set_other, eqb→eq}
use Rattle.std.proofs.Math.Logic.{⊎_elim}
use Rattle.std.proofs.Math.ListN.{length-set}
use Rattle.std.proofs.Math.Dec.{eqb_refl}
use Rattle.lists.specs.Tests.{equal?, cases, T→true, fails→false}
use Rattle.classes.specs.Halves.{half, low_half, high_half, number_of, low-number, high-number}
use Rattle.classes.specs.Forest.{parent_of, second_of, Forest, climb, root_of, hung, merged, Kept, Joins}
use Rattle.classes.specs.Forest.{Respects}

module _ (s : List ℕ) (f : Forest s) where
  -- a root stays where it is
  climb-own : (k i : ℕ) → parent_of s i ≡ i → climb s k i ≡ i
  unfolding climb
  climb-own zero i e = refl
  climb-own (suc k) i e = ap (climb s k) e ∙ climb-own k i e

  climb-root : (k i : ℕ) → i < length s → i ≤ k → parent_of s (climb s k i) ≡ climb s k i
  unfolding climb
  climb-root zero i l h = let r = f.rising i l in omega arith
  climb-root (suc k) i l h =
      let r = f.rising i l in
      ⊎_elim (λ e. ap (parent_of s) (ap (climb s k) e ∙ climb-own k i e) ∙ e ∙ sym (ap (climb s k) e ∙ climb-own k i e))
      (λ n. climb-root k (parent_of s i) (omega arith) (omega arith)) (equal? (parent_of s i) i)

  climb-below : (k i : ℕ) → i < length s → climb s k i ≤ i
  unfolding climb
  climb-below zero i l = omega arith
  climb-below (suc k) i l =
      let r = f.rising i l in let q = climb-below k (parent_of s i) (omega arith) in omega arith

  -- a root is its own parent, and is not above its elements
  pub root-own : (i : ℕ) → i < length s → parent_of s (root_of s i) ≡ root_of s i
  unfolding root_of
  root-own i l = climb-root i i l (omega arith)

  pub root_below : (i : ℕ) → i < length s → root_of s i ≤ i
  unfolding root_of
  root_below i l = climb-below i i l

  -- an element that is its own parent is its own root
  pub own_root : (i : ℕ) → parent_of s i ≡ i → root_of s i ≡ i
  unfolding root_of
  own_root i e = climb-own i i e

  -- any label that is the same for each element and its parent is that of the root
  label-climbs : (label : ℕ → ℕ) → ((i : ℕ) → i < length s → label i ≡ label (parent_of s i)) → (k i : ℕ)
      → i < length s → label i ≡ label (climb s k i)
  unfolding climb
  label-climbs label h zero i l = refl
  label-climbs label h (suc k) i l =
      let r = f.rising i l in h i l ∙ label-climbs label h k (parent_of s i) (omega arith)

  pub label-respects : (label : ℕ → ℕ) → ((i : ℕ) → i < length s → label i ≡ label (parent_of s i)) → Respects label s
  unfolding root_of
  label-respects label h i l = label-climbs label h i i l

  -- such a label is the root, if it is each root's own
  pub roots-by : (label : ℕ → ℕ) → ((i : ℕ) → i < length s → label i ≡ label (parent_of s i))
      → ((i : ℕ) → i < length s → parent_of s i ≡ i → label i ≡ i) → (i : ℕ) → i < length s → root_of s i ≡ label i
  roots-by label same own i l =
      let b = root_below i l in
      sym (label-respects label same i l ∙ own (root_of s i) (omega arith) (root-own i l))

  -- more steps than the root needs change nothing
  climb-last : (k i : ℕ) → climb s (suc k) i ≡ parent_of s (climb s k i)
  unfolding climb
  climb-last zero i = refl
  climb-last (suc k) i = climb-last k (parent_of s i)

  climb-enough : (k i : ℕ) → i < length s → i ≤ k → climb s k i ≡ climb s i i
  climb-enough zero i l h = let e : 0 ≡ i = omega arith in ap (λ (k : ℕ). climb s k i) e
  climb-enough (suc k) i l h =
      ⊎_elim (λ (e : i ≡ suc k). ap (λ (k : ℕ). climb s k i) (sym e))
      (λ n. climb-last k i ∙ climb-root k i l (omega arith) ∙ climb-enough k i l (omega arith)) (equal? i (suc k))

  root-above : (i : ℕ) → i < length s → (parent_of s i ≡ i → ⊥) → root_of s i ≡ root_of s (parent_of s i)
  unfolding root_of climb
  root-above zero l n = let r = f.rising 0 l in absurd (n (omega arith))
  root-above (suc j) l n =
      let r = f.rising (suc j) l in climb-enough j (parent_of s (suc j)) (omega arith) (omega arith)

  -- an element and its parent have one root
  pub root-parent : (i : ℕ) → i < length s → root_of s i ≡ root_of s (parent_of s i)
  root-parent i l = ⊎_elim (λ e. ap (root_of s) (sym e)) (root-above i l) (equal? (parent_of s i) i)

-- one number changed
parent-same : (s : List ℕ) (i v : ℕ) → i < length s → parent_of (set s i v) i ≡ low_half v
unfolding parent_of
parent-same s i v l = ap low_half (get_or-set_same s i v 0 l)

parent-other : (s : List ℕ) (i j v : ℕ) → (j ≡ i → ⊥) → parent_of (set s i v) j ≡ parent_of s j
unfolding parent_of
parent-other s i j v n = ap low_half (get_or-set_other s i j v 0 n)

second-same : (s : List ℕ) (i v : ℕ) → i < length s → second_of (set s i v) i ≡ high_half v
unfolding second_of
second-same s i v l = ap high_half (get_or-set_same s i v 0 l)

second-other : (s : List ℕ) (i j v : ℕ) → (j ≡ i → ⊥) → second_of (set s i v) j ≡ second_of s j
unfolding second_of
second-other s i j v n = ap high_half (get_or-set_other s i j v 0 n)

-- an element hung under another
module _ (s : List ℕ) (c p : ℕ) (l : c < length s) (small : p < half) where
  pub hung-size : length (hung s c p) ≡ length s
  unfolding hung
  hung-size = length-set s c (number_of p (high_half (get_or s c 0)))

  pub hung-parent : parent_of (hung s c p) c ≡ p
  unfolding hung
  hung-parent = parent-same s c (number_of p (high_half (get_or s c 0))) l ∙ low-number p (high_half (get_or s c 0)) small

  pub hung-other : (i : ℕ) → (i ≡ c → ⊥) → parent_of (hung s c p) i ≡ parent_of s i
  unfolding hung
  hung-other i n = parent-other s c i (number_of p (high_half (get_or s c 0))) n

  pub hung-seconds : (i : ℕ) → second_of (hung s c p) i ≡ second_of s i
  unfolding hung second_of
  hung-seconds i =
      ⊎_elim (λ (e : i ≡ c). ap (second_of (hung s c p)) e
      ∙ (second-same s c (number_of p (high_half (get_or s c 0))) l ∙ high-number p (high_half (get_or s c 0)) small)
      ∙ sym (ap (second_of s) e)) (second-other s c i (number_of p (high_half (get_or s c 0)))) (equal? i c)

  hung-by : (P : ℕ → ℕ → Type 0) → P c p → ((i : ℕ) → (i ≡ c → ⊥) → P i (parent_of s i))
      → (i : ℕ) → P i (parent_of (hung s c p) i)
  hung-by P here there i =
      ⊎_elim (λ (e : i ≡ c). subst (λ (k : ℕ). P k (parent_of (hung s c p) k)) (sym e)
      (subst (P c) (sym hung-parent) here)) (λ n. subst (P i) (sym (hung-other i n)) (there i n)) (equal? i c)

  pub hung-forest : Forest s → p ≤ c → Forest (hung s c p)
  hung-forest f h =
      record {
        small = let e = hung-size in let k = f.small in omega arith;
        rising =
            let e = hung-size in
            hung-by (λ i q. i < length (hung s c p) → q ≤ i) (λ k. h) (λ i n k. f.rising i (omega arith));
      }

  -- an element hung under a lower one of its class: nothing moves
  pub hung-kept : Forest s → p < c → root_of s p ≡ root_of s c → Kept s (hung s c p)
  hung-kept f h same =
      let e = hung-size in
      let forest = hung-forest f (omega arith) in
      record {
        forest = forest;
        size = e;
        roots =
            λ i k. roots-by (hung s c p) forest (root_of s)
            (hung-by (λ i q. i < length (hung s c p) → root_of s i ≡ root_of s q) (λ m. sym same)
            (λ i n m. root-parent s f i (omega arith)))
            (hung-by (λ i q. i < length (hung s c p) → q ≡ i → root_of s i ≡ i) (λ m q. absurd (omega arith))
            (λ i n m q. own_root s f i q)) i (omega arith);
        seconds = λ i k. hung-seconds i;
      }

  -- a root hung under one that is not above it: its class has that root
  pub hung-roots : Forest s → p ≤ c → parent_of s c ≡ c → parent_of s p ≡ p → (i : ℕ) → i < length s
      → root_of (hung s c p) i ≡ cond (eqb (root_of s i) c) p (root_of s i)
  hung-roots f h ec ep i k =
      let e = hung-size in
      roots-by (hung s c p) (hung-forest f h) label
      (hung-by (λ i q. i < length (hung s c p) → label i ≡ label q) (λ m. at-child ∙ sym at-parent)
      (λ i n m. ap relabel (root-parent s f i (omega arith))))
      (hung-by (λ i q. i < length (hung s c p) → q ≡ i → label i ≡ i) (λ m q. at-child ∙ q)
      (λ i n m q. ap relabel (own_root s f i q) ∙ untouched i n)) i (omega arith)
    where
      relabel : ℕ → ℕ
      relabel r = cond (eqb r c) p r

      label : ℕ → ℕ
      label i = relabel (root_of s i)

      at-child : label c ≡ p
      at-child = ap relabel (own_root s f c ec) ∙ ap (λ (b : Bool). cond b p c) (T→true (eqb c c) (eqb_refl c))

      untouched : (i : ℕ) → (i ≡ c → ⊥) → relabel i ≡ i
      untouched i n = ap (λ (b : Bool). cond b p i) (fails→false (eqb i c) (λ t. n (eqb→eq i c t)))

      at-parent : label p ≡ p
      at-parent =
          ap relabel (own_root s f p ep) ∙ ⊎_elim (λ e. ap (λ (b : Bool). cond b p p) e)
          (λ e. ap (λ (b : Bool). cond b p p) e) (cases (eqb p c))

pub kept-itself : {s : List ℕ} → Forest s → Kept s s
kept-itself f = record { forest = f; size = refl; roots = λ i l. refl; seconds = λ i l. refl }

pub kept-chained : {s s' s'' : List ℕ} → Kept s s' → Kept s' s'' → Kept s s''
kept-chained a b =
    let e = a.size in
    record {
      forest = b.forest;
      size = b.size ∙ e;
      roots = λ i l. b.roots i (omega arith) ∙ a.roots i l;
      seconds = λ i l. b.seconds i (omega arith) ∙ a.seconds i l;
    }

-- what a step of `find` has reached: a lower element of the same class, and the forest with its classes
pub record Higher (s₀ : List ℕ) (at higher : ℕ) (s' : List ℕ) : Type 0 where
  pub below : higher < at
  pub root : root_of s₀ higher ≡ root_of s₀ at
  pub kept : Kept s₀ s'

pub higher-up : (s₀ s : List ℕ) (at up higher : ℕ) (s' : List ℕ) → Kept s₀ s → at < length s₀ → up ≡ parent_of s at
    → (up ≡ at → ⊥) → higher ≡ parent_of s up → s' ≡ hung s at higher → Higher s₀ at higher s'
higher-up s₀ s at up higher s' k l e out e' e'' =
    let z = k.size in
    let f = k.forest in
    let small = f.small in
    let r = f.rising at (omega arith) in
    let r' = f.rising up (omega arith) in
    let same : root_of s higher ≡ root_of s at = ap (root_of s) e' ∙ sym (root-parent s f up (omega arith))
    ∙ ap (root_of s) e ∙ sym (root-parent s f at (omega arith)) in
    record {
      below = omega arith;
      root = sym (k.roots higher (omega arith)) ∙ same ∙ k.roots at l;
      kept =
          kept-chained k (subst (Kept s) (sym e'')
          (hung-kept s at higher (omega arith) (omega arith) f (omega arith) same));
    }

-- the root of a class is its own parent after the finds too
root-stays : {s s' : List ℕ} → Kept s s' → (i : ℕ) → i < length s → parent_of s' (root_of s i) ≡ root_of s i
root-stays {s} {s'} k i l =
    let z = k.size in
    ap (parent_of s') (sym (k.roots i l)) ∙ root-own s' k.forest i (omega arith) ∙ k.roots i l

module _ (s s' s'' : List ℕ) (a b lo hi : ℕ) (k : Kept s s') (la : a < length s) (lb : b < length s)
    (least : lo ≡ min (root_of s a) (root_of s b)) (most : hi ≡ max (root_of s a) (root_of s b))
    (e : s'' ≡ hung s' hi lo) where
  joins-by : parent_of s' lo ≡ lo → parent_of s' hi ≡ hi → lo ≤ hi → hi < length s → Joins s a b s''
  unfolding merged
  joins-by own own' h l =
      let z = k.size in
      let f = k.forest in
      let small = f.small in
      let size' = hung-size s' hi lo (omega arith) (omega arith) in
      subst (Joins s a b) (sym e) (record {
        forest = hung-forest s' hi lo (omega arith) (omega arith) f h;
        size = size' ∙ z;
        roots =
            λ i li. hung-roots s' hi lo (omega arith) (omega arith) f h own' own i (omega arith)
            ∙ rw (k.roots i li, least, most);
        seconds = λ i li. hung-seconds s' hi lo (omega arith) (omega arith) i ∙ k.seconds i li;
      })

  -- two roots found, and the higher hung under the lower
  pub joins-hung : Forest s → Joins s a b s''
  joins-hung f =
      let ba = root_below s f a la in
      let bb = root_below s f b lb in
      let ra = root-stays k a la in
      let rb = root-stays k b lb in
      elim (dec_lt (root_of s a) (root_of s b)) [
        | yes h ↦
            let el : lo ≡ root_of s a = omega arith in
            let eh : hi ≡ root_of s b = omega arith in
            joins-by (ap (parent_of s') el ∙ ra ∙ sym el) (ap (parent_of s') eh ∙ rb ∙ sym eh) (omega arith) (omega arith)
        | no h ↦
            let el : lo ≡ root_of s b = omega arith in
            let eh : hi ≡ root_of s a = omega arith in
            joins-by (ap (parent_of s') el ∙ rb ∙ sym el) (ap (parent_of s') eh ∙ ra ∙ sym eh) (omega arith) (omega arith)
      ]

-- what the finds of two elements leave
pub record BothFound (s : List ℕ) (a b x y : ℕ) (s' : List ℕ) : Type 0 where
  pub root₁ : x ≡ root_of s a
  pub root₂ : y ≡ root_of s b
  pub inside : (x < length s) × (y < length s) × (length s ≤ half)
  pub kept : Kept s s'

pub both_found : {s s₁ s₂ : List ℕ} (a b x y : ℕ) → Forest s → a < length s → b < length s → x ≡ root_of s a → Kept s s₁
    → y ≡ root_of s₁ b → Kept s₁ s₂ → BothFound s a b x y s₂
both_found {s} a b x y f la lb ex k ey k' =
    let ba = root_below s f a la in
    let bb = root_below s f b lb in
    let q = ey ∙ k.roots b lb in
    let small = f.small in
    record { root₁ = ex; root₂ = q; inside = omega arith; kept = kept-chained k k' }

pub joins-lower : {s s' s'' : List ℕ} (a b x y : ℕ) → Forest s → a < length s → b < length s → BothFound s a b x y s'
    → x < y → s'' ≡ hung s' y x → Joins s a b s''
joins-lower {s} {s'} {s''} a b x y f la lb h l e =
    let p = h.root₁ in
    let q = h.root₂ in
    joins-hung s s' s'' a b x y h.kept la lb (omega arith) (omega arith) e f

pub joins-upper : {s s' s'' : List ℕ} (a b x y : ℕ) → Forest s → a < length s → b < length s → BothFound s a b x y s'
    → y ≤ x → s'' ≡ hung s' x y → Joins s a b s''
joins-upper {s} {s'} {s''} a b x y f la lb h l e =
    let p = h.root₁ in
    let q = h.root₂ in
    joins-hung s s' s'' a b y x h.kept la lb (omega arith) (omega arith) e f
