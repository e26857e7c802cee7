-- The peeling as the code carries it: the queue has those gone, those of the present level and those ahead, end to end.
use Rattle.std.specs.Prelude.{ℕ, suc, ◌+◌, ◌-◌, ◌≤◌, ◌<◌, ◌≡◌, refl, length, get_or, eqb}
use Rattle.std.proofs.Common.{add-one, arith, sym, ◌∙◌, ap, length-append, get_or-take}
use mathlib.Core.List.Memᴰ
use mathlib.Core.List.{List, [], ◌∷◌, ◌++◌, map, append-nil, append_assoc, Memᴰ}
use Rattle.std.proofs.lemmas.List.Edits.{sets}
use Rattle.std.proofs.Math.Seq.{length-sets}
use Rattle.std.proofs.lemmas.List.{get_or_at}
use Rattle.lists.specs.Lists.{keep, at, overlay, Distinct}
use Rattle.lists.specs.Pigeonhole.{length-keep, pigeonhole}
use Rattle.lists.specs.Overlays.{length-overlay, front_of}
use Rattle.lists.specs.Stores.{sets-append, sets-overlay}
use Rattle.lists.specs.Counts.{lowered}
use Rattle.items.specs.Chains.{Chained}
use Rattle.items.specs.Steps.{Rises, Stepped}
use Rattle.items.specs.Depths.{Peeled, PeelLeft, freed, CanPeel, PeelDone}
use Rattle.items.specs.DepthLaws.{Peeling, peeling-start, peeling-level, peeling-peels, peeling-next}
use Rattle.items.specs.DepthLaws.{peeling-all, peeling-never}

-- `before` is the queue before the first was put into it
module _ (below : ℕ → List ℕ) (items before : List ℕ) where
  pub record PeelTurn (under queue : List ℕ) (queued done level levels bound : ℕ) : Type 0 where
    pub gone : List ℕ
    pub now : List ℕ
    pub ahead : List ℕ
    pub peeling : Peeling below items under gone now ahead levels
    pub held : queue ≡ sets before 0 (gone ++ (now ++ ahead))
    pub done_is : done ≡ length gone
    pub level_is : level ≡ length gone + length now
    pub queued_is : queued ≡ length gone + (length now + length ahead)
    pub room : queued ≤ length queue
    pub few : levels ≤ bound

  pub turn-start : (under : List ℕ) → Distinct items → length items ≤ length before
      → ((n : ℕ) → get_or under n 0 ≡ length (below n))
      → PeelTurn under (overlay (keep (λ n. eqb (get_or under n 0) 0) items) before)
      (length (keep (λ n. eqb (get_or under n 0) 0) items)) 0 0 0 0
  turn-start under d room counted =
      let lowest = keep (λ n. eqb (get_or under n 0) 0) items in
      let fits = length-keep (λ n. eqb (get_or under n 0) 0) items in
      let long = length-overlay lowest before (omega arith) in
      record {
        gone = [];
        now = [];
        ahead = lowest;
        peeling = peeling-start below items under d counted;
        held = sym (sets-overlay before lowest (omega arith));
        done_is = refl;
        level_is = omega arith;
        queued_is = omega arith;
        room = omega arith;
        few = omega arith;
      }

  module _ (under queue : List ℕ) (queued done level levels bound : ℕ)
      (t : PeelTurn under queue queued done level levels bound) where
    -- no more are queued than there are items
    pub turn-few : queued ≤ length items
    turn-few =
        let p = t.peeling in
        let most = pigeonhole (t.gone ++ (t.now ++ t.ahead)) items p.distinct p.inside in
        let q = t.queued_is in
        omega (arith, length-append t.gone (t.now ++ t.ahead), length-append t.now t.ahead)

    -- while one is left to peel, it has a place, and it and the levels can be counted
    pub turn-place : {room : ℕ} → done < queued → length items ≤ room → done < room
    turn-place some r = let f = turn-few in omega arith

    pub turn-done : done < queued → length items < 4294967296 → done + 1 < 4294967296
    turn-done some r = let f = turn-few in omega arith

    pub turn-levels : done < queued → length items < 4294967296 → levels ≤ done → levels + 1 < 4294967296
    turn-levels some r low = let f = turn-few in omega arith

    pub turn-falls : done < queued → length items - (done + 1) < length items - done
    turn-falls some = let f = turn-few in omega arith

    abbrev all : List ℕ
    all = t.gone ++ (t.now ++ t.ahead)

    count-all : queued ≡ length all
    count-all =
        let q = t.queued_is in
        omega (arith, length-append t.gone (t.now ++ t.ahead), length-append t.now t.ahead)

    same_length : length queue ≡ length before
    same_length = ap length t.held ∙ length-sets before 0 all

    -- the queue's front
    queue-is : queue ≡ overlay all before
    queue-is =
        let e = count-all in
        let l = same_length in
        let r = t.room in
        t.held ∙ sets-overlay before all (omega arith)

    pub turn-order : (done ≤ level) × (level ≤ queued)
    turn-order = let a = t.done_is in let b = t.level_is in let c = t.queued_is in omega arith

    -- a level begins
    pub turn_level : done ≡ level → done < queued → levels ≤ done
        → PeelTurn under queue queued done queued (levels + 1) (done + 1)
    turn_level e some low =
        let a = t.done_is in
        let b = t.level_is in
        let c = t.queued_is in
        go t.now t.ahead (omega arith) (omega arith) t.peeling t.held (omega arith)
      where
        go : (now ahead : List ℕ) → length now ≡ 0 → 0 < length ahead → Peeling below items under t.gone now ahead
            levels
            → queue ≡ sets before 0 (t.gone ++ (now ++ ahead)) → queued ≡ length t.gone + length ahead
            → PeelTurn under queue queued done queued (levels + 1) (done + 1)
        go (n ∷ now) ahead h k p held q = absurd (omega arith)
        go [] [] h k p held q = absurd (omega arith)
        go [] (n ∷ ahead) h k p held q =
            record {
              gone = t.gone;
              now = n ∷ ahead;
              ahead = [];
              peeling = rw add-one (peeling-level below items under t.gone n ahead levels p);
              held = held ∙ ap (λ (l : List ℕ). sets before 0 (t.gone ++ l)) (sym (append-nil (n ∷ ahead)));
              done_is = t.done_is;
              level_is = q;
              queued_is = omega arith;
              room = t.room;
              few = omega arith;
            }

    -- it goes on
    pub turn_on : levels ≤ done → PeelTurn under queue queued done level levels (done + 1)
    turn_on low =
        record {
          gone = t.gone;
          now = t.now;
          ahead = t.ahead;
          peeling = t.peeling;
          held = t.held;
          done_is = t.done_is;
          level_is = t.level_is;
          queued_is = t.queued_is;
          room = t.room;
          few = omega arith;
        }

    -- the item that is peeled next
    record Next : Type 0 where
      now : List ℕ
      begins : t.now ≡ get_or queue done 0 ∷ now

    next-item : done < level → Next
    next-item some =
        let a = t.done_is in
        let b = t.level_is in
        let c = t.queued_is in
        go t.now refl (omega arith)
      where
        go : (now : List ℕ) → t.now ≡ now → 0 < length now → Next
        go [] e h = absurd (omega arith)
        go (n ∷ now) e h =
            let o = turn-order in
            let here : get_or queue done 0 ≡ n = sym (get_or-take queued queue done 0 (omega arith))
            ∙ (ap (λ (l : List ℕ). get_or l done 0) (front_of all before count-all queue-is
            ∙ ap (λ (l : List ℕ). t.gone ++ (l ++ t.ahead)) e)
            ∙ get_or_at t.gone n (now ++ t.ahead) 0 done (sym t.done_is)) in
            record { now = now; begins = e ∙ ap (λ (m : ℕ). m ∷ now) (sym here) }

    pub turn-item : done < level → Memᴰ (get_or queue done 0) items
    turn-item some =
        t.peeling.inside (get_or queue done 0) (rw (next-item some).begins
        (Memᴰ.append_right t.gone (Memᴰ.head refl)))

    module _ (us head next : List ℕ) (steps : Stepped below items us head next) where
      ended : queued ≤ done → (t.now ≡ []) × (t.ahead ≡ [])
      ended h =
          let a = t.done_is in
          let c = t.queued_is in
          (none t.now (omega arith), none t.ahead (omega arith))
        where
          none : (l : List ℕ) → length l ≡ 0 → l ≡ []
          none [] e = refl
          none (x ∷ xs) e = absurd (omega arith)

      gone-only : queued ≤ done → Peeling below items under t.gone [] [] levels
      gone-only h = let e = ended h in rw (e.0, e.1) at t.peeling

      pub turn-all : queued ≤ done → levels ≤ done → queued ≡ length items → Peeled below items levels
      turn-all h low all =
          let a = t.done_is in
          let o = turn-order in
          peeling-all below items us head next steps under t.gone levels (gone-only h) (omega arith) (omega arith)

      pub turn-never : queued ≤ done → Distinct items → (queued ≡ length items → ⊥) → Peeled below items 0
      turn-never h d fewer =
          let a = t.done_is in
          let o = turn-order in
          peeling-never below items us head next steps under t.gone levels (gone-only h) d
          (λ e. fewer (omega arith))

      pub turn-left : queued ≤ done → PeelLeft below items before under queue
      turn-left h =
          let p = gone-only h in
          let e = ended h in
          record {
            gone = t.gone;
            distinct = rw (append-nil t.gone) at p.distinct;
            inside = rw (append-nil t.gone) at p.inside;
            queues = rw (e.0, e.1, append-nil t.gone) at queue-is;
            waits = p.waits;
            nothing = rw (append-nil t.gone) at p.nothing;
            clear = rw (append-nil t.gone) at p.clear;
          }

      module _ (some : done < level) (long : length items ≤ length queue) where
        abbrev n : ℕ
        n = get_or queue done 0

        abbrev r : Rises below us next (get_or head n 0) n
        r = steps.rises n (turn-item some)

        abbrev free : List ℕ
        free = freed (map (at us) r.places) under

        at_n : Peeling below items under t.gone (n ∷ (next-item some).now) t.ahead levels
        at_n = rw (next-item some).begins at t.peeling

        after : Peeling below items (lowered (map (at us) r.places) under) (t.gone ++ (n ∷ [])) (next-item some
            ).now
            (t.ahead ++ free) levels
        after =
            peeling-next below items us head next steps under t.gone n (next-item some).now t.ahead levels at_n
            (get_or head n 0) r

        -- what is freed has room behind those queued
        counts : (length t.now ≡ suc (length (next-item some).now)) × (queued + length free ≤ length queue)
        counts =
            let most = pigeonhole _ items after.distinct after.inside in
            let q = t.queued_is in
            let e = ap length (next-item some).begins in
            omega (
              arith,
              length-append (t.gone ++ (n ∷ [])) ((next-item some).now ++ (t.ahead ++ free)),
              length-append t.gone (n ∷ []),
              length-append (next-item some).now (t.ahead ++ free),
              length-append t.ahead free,
            )

        pub turn-peels : CanPeel us next (get_or head n 0) under queue queued
        turn-peels =
            peeling-peels below items us head next steps under t.gone n (next-item some).now t.ahead levels at_n
            (get_or head n 0) r queue queued counts.1

        pub turn-next : (under' queue' : List ℕ) (s : ℕ) → levels ≤ done + 1
            → ((cs : List ℕ) → Chained next (get_or head n 0) cs
            → PeelDone (map (at us) cs) under queue queued under' queue' s)
            → PeelTurn under' queue' s (done + 1) level levels (done + 1)
        turn-next under' queue' s low does =
            let d = does r.places r.chained in
            let a = t.done_is in
            let b = t.level_is in
            let q = t.queued_is in
            let k = counts in
            let Gone-one = length-append t.gone (n ∷ []) in
            let ahead_more = length-append t.ahead free in
            let count = d.counts in
            record {
              gone = t.gone ++ (n ∷ []);
              now = (next-item some).now;
              ahead = t.ahead ++ free;
              peeling = rw d.lowers after;
              held = d.queues ∙ (held'
                  ∙ (ap (λ (l : List ℕ). sets before 0 ((t.gone ++ (l ++ t.ahead)) ++ free)) (next-item some).begins
                  ∙ simp append_assoc));
              done_is = omega arith;
              level_is = omega arith;
              queued_is = omega arith;
              room = rw (d.queues, length-sets queue queued free) (omega arith);
              few = low;
            }
          where
            held' : sets queue queued free ≡ sets before 0 (all ++ free)
            held' =
                ap (λ (q : List ℕ). sets q queued free) t.held
                ∙ (ap (λ (k : ℕ). sets (sets before 0 all) k free) (count-all ∙ omega arith)
                ∙ sets-append before 0 all free)
