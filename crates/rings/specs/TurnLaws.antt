-- Rings turned: the same pairs begun at another of them are a ring again, and the nets of a ring being different, it
-- can be begun at each of them in one way.
use Rattle.std.specs.Prelude.{ℕ, ◌≤◌, ◌<◌, ◌≡◌, length}
use Rattle.std.proofs.Common.{arith, ◌∙◌, subst, length-append}
use Rattle.std.proofs.Math.Path.{refl, sym, ap}
use mathlib.Core.List.Memᴰ
use mathlib.Core.List.{List, [], ◌∷◌, ◌++◌, append-nil, map-append, Memᴰ}
use Rattle.std.proofs.Math.Logic.{⊎_elim}
use Rattle.std.proofs.lemmas.List.{length-map}
use Rattle.lists.specs.Lists.{head_or, least, Distinct}
use Rattle.lists.specs.Pigeonhole.{distinct_head, distinct_tail, distinct-swap}
use Rattle.channel.specs.Channel.{Channel}
use Rattle.channel.specs.Constraints.{Step, nets_of, Descends, last, next, Ring}
use Rattle.rings.specs.Promise.{Turn, Begun, Turnable}
use Rattle.lists.specs.Ends.{first_member}
use Rattle.lists.specs.Orders.{least-among, least-lower}

nets-append : (xs ys : List Step) → nets_of (xs ++ ys) ≡ nets_of xs ++ nets_of ys
nets-append xs ys = map-append (λ (s : Step). s.net) xs ys

module _ {Over : ℕ → ℕ → ℕ → Type 0} {end : ℕ} where
  -- steps that descend are some
  pub descends-some : {steps : List Step} → Descends Over end steps → 0 < length steps
  descends-some (last h) = omega arith
  descends-some (next h d) = omega arith

  -- steps that descend to where others begin, and these
  descends-join : {t : Step} {xs ys : List Step} → Descends Over t.net xs → Descends Over end (t ∷ ys)
      → Descends Over end (xs ++ (t ∷ ys))
  descends-join (last h) e = next h e
  descends-join (next h d) e = next h (descends-join d e)

  descends-part : (s t : Step) (xs ys : List Step) → Descends Over end ((s ∷ xs) ++ (t ∷ ys))
      → Descends Over t.net (s ∷ xs) × Descends Over end (t ∷ ys)
  descends-part s t [] ys (next h d) = (last h, d)
  descends-part s t (x ∷ xs) ys (next h d) = let r = descends-part x t xs ys d in (next h r.0, r.1)

-- the back of a ring, then its front
swap-ring : (ch : Channel) (front back : List Step) → Ring ch (front ++ back) → Ring ch (back ++ front)
unfolding head_or
swap-ring ch [] back r = rw append-nil r
swap-ring ch (s ∷ xs) [] r = rw append-nil at r
swap-ring ch (s ∷ xs) (t ∷ ys) r =
    let p = descends-part s t xs ys r.closed in
    let d = distinct-swap (nets_of (s ∷ xs)) (nets_of (t ∷ ys))
    (subst Distinct (nets-append (s ∷ xs) (t ∷ ys)) r.distinct) in
    record {
      distinct = subst Distinct (sym (nets-append (t ∷ ys) (s ∷ xs))) d;
      closed = descends-join p.1 p.0;
    }

module _ {steps turn : List Step} (t : Turn steps turn) where
  -- a ring turned is a ring
  pub turn-ring : {ch : Channel} → Ring ch steps → Ring ch turn
  turn-ring {ch} r =
      subst (Ring ch) (sym t.turned) (swap-ring ch t.front t.back (subst (Ring ch) t.split r))

  -- and has as many pairs
  pub turn-length : length turn ≡ length steps
  turn-length =
      let a = ap length t.turned in
      let b = ap length t.split in
      let c = length-append t.front t.back in
      let d = length-append t.back t.front in
      omega arith

  turn-back : Turn turn steps
  turn-back = record { front = t.back; back = t.front; split = t.turned; turned = t.split }

  -- and the same nets
  turn-nets : {n : ℕ} → Memᴰ n (nets_of turn) → Memᴰ n (nets_of steps)
  turn-nets {n} m = subst (λ (l : List Step). Memᴰ n (nets_of l)) (sym t.split) (swap t.front t.back
      (subst (λ (l : List Step). Memᴰ n (nets_of l)) t.turned m))
    where
      swap : (xs ys : List Step) → Memᴰ n (nets_of (ys ++ xs)) → Memᴰ n (nets_of (xs ++ ys))
      swap xs ys k = rw nets-append (⊎_elim (Memᴰ.append_right (nets_of xs)) (Memᴰ.append_left (nets_of ys))
          (Memᴰ.append_cases (nets_of ys) (rw nets-append at k)))

-- a ring has its first net
pub ring-first : {ch : Channel} {steps : List Step} → Ring ch steps → Memᴰ (head_or 0 (nets_of steps)) (nets_of steps)
ring-first {steps = steps} r =
    let some = descends-some r.closed in
    let same = length-map steps (λ (s : Step). s.net) in
    first_member (nets_of steps) (omega arith)

-- the steps turned to begin at net n
pub record TurnAt (steps : List Step) (n : ℕ) : Type 0 where
  pub turn : List Step
  pub same_pairs : Turn steps turn
  pub first : head_or 0 (nets_of turn) ≡ n

-- steps can be turned to begin at each of their nets
pub turn_at : {n : ℕ} (steps : List Step) → Memᴰ n (nets_of steps) → TurnAt steps n
turn_at {n} steps m = let r = cut steps m in
    record {
      turn = (r.1 ∷ r.2) ++ r.0;
      same_pairs = record { front = r.0; back = r.1 ∷ r.2; split = r.3; turned = refl };
      first = unfold head_or in r.4;
    }
  where
    cut : (steps : List Step) → Memᴰ n (nets_of steps)
        → (front : List Step) × (s : Step) × (back : List Step) × (steps ≡ front ++ (s ∷ back)) × (s.net ≡ n)
    cut [] m = absurd (Memᴰ.not-nil m)
    cut (s ∷ ss) m =
        ⊎_elim (λ e. ([], s, ss, refl, sym e))
        (λ k. let r = cut ss k in (s ∷ r.0, r.1, r.2, ap (λ (l : List Step). s ∷ l) r.3, r.4))
        (Memᴰ.cases_cons m)

-- a turn that begins with `step`
record Opened (steps turn : List Step) : Type 0 where
  front : List Step
  step : Step
  rest : List Step
  split : steps ≡ front ++ (step ∷ rest)
  turned : turn ≡ (step ∷ rest) ++ front

turn→opened : {steps turn : List Step} → 0 < length steps → Turn steps turn → Opened steps turn
turn→opened {steps} {turn} some t = go t.front t.back t.split t.turned
  where
    go : (front back : List Step) → steps ≡ front ++ back → turn ≡ back ++ front → Opened steps turn
    go front (s ∷ rest) p q = record { front = front; step = s; rest = rest; split = p; turned = q }
    go (s ∷ rest) [] p q =
        record {
          front = [];
          step = s;
          rest = rest;
          split = p ∙ append-nil (s ∷ rest);
          turned = q ∙ sym (append-nil (s ∷ rest));
        }
    go [] [] p q = absurd (let none = ap length p in omega arith)

opened-first : {steps turn : List Step} (o : Opened steps turn) → head_or 0 (nets_of turn) ≡ o.step.net
unfolding head_or
opened-first o = ap (λ (l : List Step). head_or 0 (nets_of l)) o.turned

-- different nets are cut at one of them in one way
cut-once : (f g : List Step) (s t : Step) (r q : List Step) → Distinct (nets_of (f ++ (s ∷ r)))
    → f ++ (s ∷ r) ≡ g ++ (t ∷ q) → s.net ≡ t.net → (f ≡ g) × (s ∷ r ≡ t ∷ q)
cut-once [] [] s t r q d e n = (refl, e)
cut-once [] (x ∷ g) s t r q d e n = absurd (distinct_head s.net (nets_of r) d (Memᴰ.cast n behind))
  where
    behind : Memᴰ t.net (nets_of r)
    behind =
        let later : r ≡ g ++ (t ∷ q) = cc in
        rw later (Memᴰ.map (λ (s : Step). s.net) (Memᴰ.append_right g (Memᴰ.head refl)))
cut-once (x ∷ f) [] s t r q d e n = absurd (distinct_head x.net (nets_of (f ++ (s ∷ r))) d (Memᴰ.cast same behind))
  where
    same : x.net ≡ s.net
    same = let first : x ≡ t = cc in ap (λ (s : Step). s.net) first ∙ sym n

    behind : Memᴰ s.net (nets_of (f ++ (s ∷ r)))
    behind = Memᴰ.map (λ (s : Step). s.net) (Memᴰ.append_right f (Memᴰ.head refl))
cut-once (x ∷ f) (y ∷ g) s t r q d e n =
    let rest = cut-once f g s t r q (distinct_tail x.net (nets_of (f ++ (s ∷ r))) d) (cc) n in
    let same = rest.0 in
    (cc, rest.1)

-- turns of a ring that begin at one net are the same
turn-once : {ch : Channel} {steps a b : List Step} → Ring ch steps → Turn steps a → Turn steps b
    → head_or 0 (nets_of a) ≡ head_or 0 (nets_of b) → a ≡ b
turn-once r p q e =
    let some = descends-some r.closed in
    let o = turn→opened some p in
    let w = turn→opened some q in
    let same = cut-once o.front w.front o.step w.step o.rest w.rest
    (subst (λ (l : List Step). Distinct (nets_of l)) o.split r.distinct) (sym o.split ∙ w.split)
    (sym (opened-first o) ∙ (e ∙ opened-first w)) in
    let front = same.0 in
    let back = same.1 in
    o.turned ∙ ((cc) ∙ sym w.turned)

-- what is begun at its lowest net begins no higher than another turn
begun-no-higher : {ch : Channel} {steps a b : List Step} → Ring ch steps → Begun steps a → Begun steps b
    → head_or 0 (nets_of a) ≤ head_or 0 (nets_of b)
begun-no-higher {b = b} r p q =
    p.lowest (head_or 0 (nets_of b)) (turn-nets (turn-back p.same_pairs)
    (turn-nets q.same_pairs (ring-first (turn-ring q.same_pairs r))))

-- every ring can be turned to begin at its lowest net, in one way, and is then a ring
pub ring-turnable : (ch : Channel) (steps : List Step) → Ring ch steps → Turnable ch steps
ring-turnable ch steps r =
    record {
      turn = t.turn;
      begun = begun;
      is_ring = turn-ring t.same_pairs r;
      only = λ other b. let low = begun-no-higher r begun b in let high = begun-no-higher r b begun in
          turn-once r b.same_pairs t.same_pairs (omega arith);
    }
  where
    t : TurnAt steps (least (nets_of steps))
    t = turn_at steps (least-among (ring-first r))

    begun : Begun steps t.turn
    begun =
        record {
          same_pairs = t.same_pairs;
          lowest = λ n m. let low = least-lower (nets_of steps) (turn-nets t.same_pairs m) in
              let e = t.first in
              omega arith;
        }
