-- The search as the code carries it: the queue's front has those gone and those ahead, end to end.
use Rattle.std.specs.Prelude.{ℕ, suc, ◌+◌, ◌≤◌, ◌<◌, ◌≡◌, refl, length, get_or, take, replicate}
use Rattle.std.proofs.Common.{arith, sym, ◌∙◌, ap, length-append, get_or-take}
use mathlib.Core.List.Memᴰ
use mathlib.Core.List.{List, [], ◌∷◌, ◌++◌, map, append_assoc, Memᴰ}
use Rattle.std.proofs.lemmas.List.{length-replicate, get_or_at}
use Rattle.std.proofs.Math.Seq.{length-sets}
use Rattle.lists.specs.Lists.{at}
use Rattle.lists.specs.Members.{up_to-member}
use Rattle.lists.specs.Pigeonhole.{pigeonhole}
use Rattle.lists.specs.Places.{length_from}
use Rattle.lists.specs.Counts.{get_or-zeros}
use Rattle.channel.specs.Channel.{highest_net}
use Rattle.items.specs.Chains.{Chained}
use Rattle.items.specs.Steps.{Rises, Stepped}
use Rattle.rings.specs.Search.{numbers, noted, fresh, CanNote, NoteDone, Searched}
use Rattle.lists.specs.Stores.{front-more}
use Rattle.rings.specs.SearchLaws.{Searching, searching-start, searching-next, searching-end, can-walk, walked}

module _ (below : ℕ → List ℕ) (to : ℕ) where
  -- no more are found than there are numbers
  found-few : (far gone ahead : List ℕ) → Searching below to far gone ahead → length gone + length ahead ≤ 511
  found-few far gone ahead p =
      let most = pigeonhole (gone ++ ahead) numbers p.distinct p.inside in
      omega (arith, length-append gone ahead, length_from 1 highest_net)

  -- the distances, the queue, how many are queued and how many of them are gone
  pub record SearchTurn (far queue : List ℕ) (queued done : ℕ) : Type 0 where
    pub gone : List ℕ
    pub ahead : List ℕ
    pub searching : Searching below to far gone ahead
    pub front : take queued queue ≡ gone ++ ahead
    pub done_is : done ≡ length gone
    pub queued_is : queued ≡ length gone + length ahead
    pub room : length queue ≡ 512

  -- those directly above `to` are found first
  module _ (us head next : List ℕ) (steps : Stepped below numbers us head next) (start : Memᴰ to numbers)
      (far queue : List ℕ) (unknown : far ≡ replicate 512 0) (room : length queue ≡ 512) where
    abbrev r₀ : Rises below us next (get_or head to 0) to
    r₀ = steps.rises to start

    abbrev new₀ : List ℕ
    new₀ = fresh 1 (map (at us) r₀.places) far

    none : (k : ℕ) → get_or far k 0 ≡ 0
    none k = ap (λ (l : List ℕ). get_or l k 0) unknown ∙ get_or-zeros 512 k

    long : length far ≡ 512
    long = ap length unknown ∙ length-replicate {A = ℕ} 512 0

    begun : Searching below to (noted 1 (map (at us) r₀.places) far) [] new₀
    begun =
        searching-start below to far new₀ _ none
        (walked below us head next steps to (get_or head to 0) r₀ 1 (omega arith) far long)

    -- the first walk can be made
    pub start-notes : CanNote us next (get_or head to 0) 1 far queue 0
    start-notes =
        can-walk below us head next steps to (get_or head to 0) r₀ 1 far queue 0 long
        (let few = found-few _ _ _ begun in omega arith)

    -- and after it the search has begun
    pub turn-start : (far' queue' : List ℕ) (s : ℕ)
        → ((cs : List ℕ) → Chained next (get_or head to 0) cs → NoteDone (map (at us) cs) 1 far queue 0 far' queue' s)
        → SearchTurn far' queue' s 0
    turn-start far' queue' s does =
        let d = does r₀.places r₀.chained in
        let few = found-few _ _ _ begun in
        let count = d.counts in
        record {
          gone = [];
          ahead = new₀;
          searching = rw d.notes begun;
          front = rw (d.counts, d.queues) (front-more queue 0 new₀ (omega arith));
          done_is = refl;
          queued_is = omega arith;
          room = rw (d.queues, length-sets queue 0 new₀) room;
        }

  module _ (far queue : List ℕ) (queued done : ℕ) (t : SearchTurn far queue queued done) where
    -- no more are queued than there are numbers
    pub turn-few : queued ≤ 511
    turn-few = let q = t.queued_is in let f = found-few far t.gone t.ahead t.searching in omega arith

    -- where nobody is ahead, the search is done
    pub turn_end : queued ≤ done → Searched below to far
    turn_end h =
        let a = t.done_is in
        let q = t.queued_is in
        go t.ahead t.searching (omega arith)
      where
        go : (ahead : List ℕ) → Searching below to far t.gone ahead → length ahead ≡ 0 → Searched below to far
        go [] p e = searching-end below to far t.gone p
        go (n ∷ ahead) p e = absurd (omega arith)

    module _ (some : done < queued) where
      abbrev n : ℕ
      n = get_or queue done 0

      -- the net that is walked up from next
      record Next : Type 0 where
        rest : List ℕ
        begins : t.ahead ≡ n ∷ rest

      next-net : Next
      next-net = let a = t.done_is in let q = t.queued_is in go t.ahead refl (omega arith)
        where
          go : (ahead : List ℕ) → t.ahead ≡ ahead → 0 < length ahead → Next
          go [] e h = absurd (omega arith)
          go (m ∷ rest) e h =
              let here : n ≡ m = sym (get_or-take queued queue done 0 some)
              ∙ (ap (λ (l : List ℕ). get_or l done 0) (t.front ∙ ap (λ (l : List ℕ). t.gone ++ l) e)
              ∙ get_or_at t.gone m rest 0 done (sym t.done_is)) in
              record { rest = rest; begins = e ∙ ap (λ (k : ℕ). k ∷ rest) (sym here) }

      at_n : Searching below to far t.gone (n ∷ next-net.rest)
      at_n = rw next-net.begins at t.searching

      is_number : Memᴰ n numbers
      is_number = at_n.inside n (Memᴰ.append_right t.gone (Memᴰ.head refl))

      -- it has places in the tables, and its distance is small
      pub turn-net : (n < 512) × (get_or far n 0 ≤ suc done)
      turn-net =
          let l = up_to-member highest_net is_number in
          let f = at_n.few n in
          let a = t.done_is in
          (omega arith, omega arith)

      module _ (us head next : List ℕ) (steps : Stepped below numbers us head next) where
        abbrev r : Rises below us next (get_or head n 0) n
        r = steps.rises n is_number

        abbrev d : ℕ
        d = get_or far n 0 + 1

        abbrev new : List ℕ
        new = fresh d (map (at us) r.places) far

        after : Searching below to (noted d (map (at us) r.places) far) (t.gone ++ (n ∷ []))
            (next-net.rest ++ new)
        after =
            searching-next below to far t.gone n next-net.rest at_n new _
            (walked below us head next steps n (get_or head n 0) r d (omega arith) far at_n.long)

        -- those new have room behind those queued
        counts : (length t.ahead ≡ suc (length next-net.rest)) × (queued + length new ≤ length queue)
        counts =
            let few = found-few _ _ _ after in
            let q = t.queued_is in
            let e = ap length next-net.begins in
            let l = t.room in
            omega (arith, length-append t.gone (n ∷ []), length-append next-net.rest new)

        -- the walk of a turn can be made
        pub turn-notes : CanNote us next (get_or head n 0) (get_or far n 0 + 1) far queue queued
        turn-notes =
            can-walk below us head next steps n (get_or head n 0) r d far queue queued at_n.long counts.1

        -- and after it the search goes on, with one more gone
        pub turn-next : (far' queue' : List ℕ) (s : ℕ)
            → ((cs : List ℕ) → Chained next (get_or head n 0) cs
            → NoteDone (map (at us) cs) (get_or far n 0 + 1) far queue queued far' queue' s)
            → SearchTurn far' queue' s (done + 1)
        turn-next far' queue' s does =
            let does' = does r.places r.chained in
            let a = t.done_is in
            let q = t.queued_is in
            let k = counts in
            let Gone-one = length-append t.gone (n ∷ []) in
            let ahead_more = length-append next-net.rest new in
            let count = does'.counts in
            record {
              gone = t.gone ++ (n ∷ []);
              ahead = next-net.rest ++ new;
              searching = rw does'.notes after;
              front = rw (does'.counts, does'.queues) (front-more queue queued new k.1
                  ∙ (ap (λ (l : List ℕ). l ++ new) (t.front ∙ ap (λ (l : List ℕ). t.gone ++ l) next-net.begins)
                  ∙ simp append_assoc));
              done_is = omega arith;
              queued_is = omega arith;
              room = rw (does'.queues, length-sets queue queued new) t.room;
            }
