-- The track of each item as places are added: a new place gives its item its track and changes no other, and an item
-- has a track exactly if it is placed.
use Rattle.std.specs.Prelude.{ℕ, ◌≤◌, ◌≡◌, refl, ◌⊎◌, Bool, true, false, cond, ◌||◌, T, eqb}
use Rattle.std.proofs.Common.{arith, sym, ap, inl, inr, ⊎_elim, eqb→eq}
use mathlib.Core.List.Memᴰ
use mathlib.Core.List.{List, [], ◌∷◌, Memᴰ, Sublistᴰ}
use Rattle.std.proofs.Math.Dec.{eqb_refl}
use Rattle.lists.specs.Lists.{any_of, all_of}
use Rattle.lists.specs.Tests.{T→true, fails→false, or_cases}
use Rattle.lists.specs.Members.{all→member}
use Rattle.lists.specs.Orders.{sublist-member, fails→member}
use Rattle.leftedge.specs.Items.{Items, Place, items_below, is_placed, track_of, clear_below}
use Rattle.leftedge.specs.Invariants.{Falls, Before}

abbrev pub place : ℕ → ℕ → Place
place n k = record { item = n; track = k }

pub track-new : (n k : ℕ) (ps : List Place) → track_of (place n k ∷ ps) n ≡ k
unfolding track_of
track-new n k ps = rw (T→true (eqb n n) (eqb_refl n))

pub track-old : (n k : ℕ) (ps : List Place) (m : ℕ) → (m ≡ n → ⊥) → track_of (place n k ∷ ps) m ≡ track_of ps m
unfolding track_of
track-old n k ps m h = rw (fails→false (eqb n m) (λ t. h (sym (eqb→eq n m t))))

pub placed-cases : (n k : ℕ) (ps : List Place) (m : ℕ) → T (is_placed (place n k ∷ ps) m) → (m ≡ n) ⊎ T (is_placed ps m)
unfolding is_placed any_of
placed-cases n k ps m h = ⊎_elim (λ t. inl (sym (eqb→eq n m t))) inr (or_cases (eqb n m) (is_placed ps m) h)

pub tracked→placed : (ps : List Place) (n : ℕ) → 1 ≤ track_of ps n → T (is_placed ps n)
unfolding track_of is_placed any_of
tracked→placed [] n h = absurd (omega arith)
tracked→placed (p ∷ ps) n h = go (eqb p.item n) h (λ k. tracked→placed ps n k)
  where
    go : (b : Bool) → 1 ≤ cond b p.track (track_of ps n) → (1 ≤ track_of ps n → T (is_placed ps n))
        → T (b || is_placed ps n)
    go true h rest = tt
    go false h rest = rest h

-- what `clear_below` tells, and what it tells where it fails
pub clear→placed : (it : Items) (ps : List Place) (a b c : ℕ) → T (clear_below it ps a) → Falls it a b c
    → T (is_placed ps b)
unfolding clear_below
clear→placed it ps a b c h m = all→member (is_placed ps) h (Memᴰ.map (λ d. d.lower) m)

pub unclear→unplaced : (it : Items) (ps : List Place) (a : ℕ) → (T (clear_below it ps a) → ⊥)
    → (b c : ℕ) × Falls it a b c × (T (is_placed ps b) → ⊥)
unfolding clear_below
unclear→unplaced it ps a h =
    let r = fails→member (is_placed ps) (items_below it a) h in
    let s = Memᴰ.of_map (λ d. d.lower) (it.drops a) r.1 in
    (s.0.lower, s.0.column, s.1, λ t. r.2 (rw s.2 at t))

pub nothing-below→clear : (it : Items) (ps : List Place) (a : ℕ) → it.drops a ≡ [] → T (clear_below it ps a)
unfolding clear_below all_of
nothing-below→clear it ps a e = rw e tt

-- the head of a sublist stands before each of its tail
pub sublist-before : {m n : ℕ} {ns ys : List ℕ} → Sublistᴰ (m ∷ ns) ys → Memᴰ n ns → Before m n ys
sublist-before (Sublistᴰ.cons {a = y} s) h =
    let r = sublist-before s h in
    record {
      front = y ∷ r.front;
      back = r.back;
      split = ap (λ (l : List ℕ). y ∷ l) r.split;
      earlier = Memᴰ.tail r.earlier;
      later = r.later;
    }
sublist-before (Sublistᴰ.cons-cons {b = y} {l₂ = ys} e s) h =
    record { front = y ∷ []; back = ys; split = refl; earlier = Memᴰ.head e; later = sublist-member s h }
