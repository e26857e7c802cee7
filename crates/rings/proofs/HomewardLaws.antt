-- The walk home by the columns kept. With the fewest steps down to one net from each other known, a net below is one
-- step nearer exactly if the steps left lead from it, so the column kept for a net is that of its first drop homeward.
use Rattle.std.specs.Prelude.{ℕ, zero, suc, ◌+◌, ◌-◌, ◌≤◌, ◌<◌, ◌≡◌, Bool, ◌&&◌, length, get_or, T, ltb}
use Rattle.std.proofs.Common.{arith, sym, ◌∙◌, subst, ⊎_elim, ltb→lt, lt→ltb, eqb→eq}
use Rattle.std.proofs.Math.Path.{refl, ap, ap₂}
use mathlib.Core.List.Memᴰ
use mathlib.Core.List.{List, ◌∷◌, Memᴰ}
use Rattle.std.proofs.Math.Bool.{true, false}
use Rattle.lists.specs.Lists.{keep, up_to, head_or, at}
use Rattle.lists.specs.Tests.{true→T, same_test, eq→T, and_left, and_right, and_both, equal?}
use Rattle.lists.specs.Members.{keep-member, kept, up_to-member}
use Rattle.lists.specs.Places.{keep-keep}
use Rattle.lists.specs.Eaches.{few-kept}
use Rattle.lists.specs.Tallies.{keep_same}
use Rattle.lists.specs.Arrays.{numbered-at}
use Rattle.channel.specs.Channel.{Channel, width, highest_net}
use Rattle.channel.specs.Constraints.{above, Drop, below, Step}
use Rattle.channel.proofs.Laws.{above→}
use Rattle.channel.proofs.PathLaws.{above→below}
use Rattle.channel.proofs.SpanLaws.{above-column}
use Rattle.channel.specs.Spans.{each512}
use Rattle.leftedge.specs.TrailLaws.{met-from}
use Rattle.leftedge.proofs.RingLaws.{drop_in}
use Rattle.leftedge.specs.Ring.{over_wanted, lowest_over, net_below, after, met, steps_by, Confined}
use Rattle.rings.specs.Fewest.{leads, home_drop, homeward}
use Rattle.rings.specs.LeadLaws.{leads-none, none-leads, leads-step}
use Rattle.rings.specs.Search.{numbers, FewestSteps, Searched, CanShow, nearer, home_column}
use Rattle.rings.proofs.HomeLaws.{DropsHome, home-first, home-drop}
use Rattle.rings.specs.NearerLaws.{nearer-home, nearer-other}

-- a walk's nets are its first and those of the walk from the next
met_next : (next : ℕ → ℕ) (n k : ℕ) → met next n (suc k) ≡ n ∷ met next (next n) k
unfolding met after
met_next next n k = let e : suc k ≡ k + 1 = omega arith in ap (met next n) e ∙ met-from next n 1 k

-- the fewest steps from a net are at most one more than those from a net below it
module _ {under : ℕ → List ℕ} {a b z d : ℕ} (f : FewestSteps under a z d) (m : Memᴰ b (under a)) where
  over-home : b ≡ z → d ≤ 1
  over-home e = (f.fewest 0 (leads-step under 0 z m (leads-none under e))).1

  over-other : {e : ℕ} → FewestSteps under b z e → 0 < e → d ≤ suc e
  over-other {e} g h = (f.fewest e (leads-step under e z m (g.lead h))).1

module _ {under : ℕ → List ℕ} {net : ℕ} {far : List ℕ} (s : Searched under net far) (n b : ℕ)
    (m : Memᴰ b (under n)) where
  -- where the steps left lead from a net below, these are the fewest from it, and it is not `net` itself
  left-fewest : (j : ℕ) → get_or far n 0 ≡ suc (suc j) → T (leads under (suc j) b net)
      → (b ≡ net → ⊥) × (get_or far b 0 ≡ suc j)
  left-fewest j e t =
      let low = (s.found b).fewest j t in
      let high = over-other (s.found n) m (s.found b) low.0 in
      (λ h. let z = over-home (s.found n) m h in omega arith, omega arith)

  leads→nearer : (k : ℕ) → get_or far n 0 ≡ suc k → T (leads under k b net) → T (nearer far net n b)
  leads→nearer zero e t =
      rw (nearer-home far net n b (none-leads under b net t)) (eq→T (get_or far n 0) 1 e)
  leads→nearer (suc j) e t =
      let h = left-fewest j e t in
      let q = h.1 in
      rw (nearer-other far net n b h.0) (and_both (ltb 0 (get_or far b 0)) _ (lt→ltb 0 (get_or far b 0) (omega arith))
      (eq→T (get_or far n 0) (suc (get_or far b 0)) (omega arith)))

  nearer→leads : (k : ℕ) → get_or far n 0 ≡ suc k → T (nearer far net n b) → T (leads under k b net)
  nearer→leads k e t = ⊎_elim home other (equal? b net)
    where
      home : b ≡ net → T (leads under k b net)
      home h =
          let one = eqb→eq (get_or far n 0) 1 (rw (nearer-home far net n b h) at t) in
          let z : k ≡ 0 = omega arith in
          rw z (leads-none under h)

      other : (b ≡ net → ⊥) → T (leads under k b net)
      other h =
          let both = rw (nearer-other far net n b h) at t in
          let some = ltb→lt 0 (get_or far b 0) (and_left (ltb 0 (get_or far b 0)) _ both) in
          let one = eqb→eq (get_or far n 0) _ (and_right (ltb 0 (get_or far b 0)) _ both) in
          let same : k ≡ get_or far b 0 = omega arith in
          rw same ((s.found b).lead some)

-- two that are the fewest are the same
fewest-once : {under : ℕ → List ℕ} {a z d e : ℕ} → FewestSteps under a z d → FewestSteps under a z e → 0 < d → d ≡ e
fewest-once {d = zero} f g h = absurd (omega arith)
fewest-once {d = suc j} {e = zero} f g h = let k = (g.fewest j (f.lead h)).0 in absurd (omega arith)
fewest-once {d = suc j} {e = suc i} f g h =
    let l = (g.fewest j (f.lead h)).1 in
    let u = (f.fewest i (g.lead (omega arith))).1 in
    omega arith

module _ (ch : Channel) (net : ℕ) (far : List ℕ) (s : Searched (below ch) net far) where
  module _ (k n : ℕ) (e : get_or far n 0 ≡ suc k) where
    -- the steps left lead from the net below in a column exactly if that is one step nearer
    home-test : (c : ℕ) → (above ch n (at ch.bot c) c && leads (below ch) k (at ch.bot c) net)
        ≡ over_wanted ch (nearer far net) n c
    unfolding over_wanted
    home-test c = go (above ch n (at ch.bot c) c) refl
      where
        go : (t : Bool) → above ch n (at ch.bot c) c ≡ t
            → (t && leads (below ch) k (at ch.bot c) net) ≡ (t && nearer far net n (at ch.bot c))
        go false q = refl
        go true q =
            let b = at ch.bot c in
            let m = above→below ch (above→ ch n b c (true→T _ q)) in
            same_test _ _ (leads→nearer s n b m k e) (nearer→leads s n b m k e)

    -- so the column kept is that of the first drop homeward
    home-kept : home_drop ch k net n ≡ drop_in ch.bot (home_column ch far net n)
    unfolding lowest_over
    home-kept =
        home-first ch k net n ∙ ap (λ (cs : List ℕ). drop_in ch.bot (head_or 0 cs))
        (keep-keep (λ c. leads (below ch) k (at ch.bot c) net) (λ c. above ch n (at ch.bot c) c)
        (up_to (width ch)) ∙ keep_same _ _ (up_to (width ch)) (λ c m. home-test c))

    -- it goes down to where the steps left lead from
    homes : DropsHome ch k net n (home_drop ch k net n)
    homes = home-drop ch k net n (subst (λ (i : ℕ). T (leads (below ch) i n net)) e ((s.found n).lead (omega arith)))

    -- to `net` where none is left, and else to a net that is one step nearer
    home_ends : k ≡ 0 → (home_drop ch k net n).lower ≡ net
    home_ends z =
        none-leads (below ch) _ net (subst (λ (i : ℕ). T (leads (below ch) i (home_drop ch k net n).lower net)) z homes.onward)

    home-nears : (j : ℕ) → k ≡ suc j → get_or far (home_drop ch k net n).lower 0 ≡ suc j
    home-nears j q =
        (left-fewest s n (home_drop ch k net n).lower (above→below ch homes.down) j (omega arith)
        (subst (λ (i : ℕ). T (leads (below ch) i (home_drop ch k net n).lower net)) q homes.onward)).1

module _ {ch : Channel} {head next ring : List ℕ} {net nets : ℕ} (can : CanShow ch head next net nets ring)
    {far columns : List ℕ} (s : Searched (below ch) net far) (e : columns ≡ each512 (home_column ch far net)) where
  distance : get_or far net 0 ≡ nets
  distance = sym (fewest-once can.back (s.found net) can.some)

  -- the column kept for a number is that of its first drop homeward
  column-kept : (k n : ℕ) → Memᴰ n numbers → get_or far n 0 ≡ suc k
      → home_drop ch k net n ≡ drop_in ch.bot (get_or columns n 0)
  column-kept k n m q =
      let low = (up_to-member highest_net m).1 in
      home-kept ch net far s k n q
      ∙ sym (ap (drop_in ch.bot) (numbered-at (home_column ch far net) 512 e n (omega arith)))

  -- the numbers from which steps lead home
  abbrev homing : List ℕ
  homing = keep (λ n. ltb 0 (get_or far n 0)) numbers

  homing→ : (n : ℕ) → Memᴰ n homing → Memᴰ n numbers × ((k : ℕ) × (get_or far n 0 ≡ suc k))
  homing→ n m =
      let r = keep-member (λ n. ltb 0 (get_or far n 0)) numbers m in
      let h = ltb→lt 0 (get_or far n 0) r.1 in
      (r.0, (get_or far n 0 - 1, omega arith))

  →homing : (n k : ℕ) → Memᴰ n numbers → get_or far n 0 ≡ suc k → Memᴰ n homing
  →homing n k m q = kept (λ n. ltb 0 (get_or far n 0)) m (lt→ltb 0 (get_or far n 0) (omega arith))

  begins : Memᴰ net homing
  begins =
      let q = distance in
      let h = can.some in
      →homing net (nets - 1) can.begins (omega arith)

  -- the lower net of the drop is one of them
  drop-number : (k n : ℕ) → get_or far n 0 ≡ suc k → Memᴰ (home_drop ch k net n).lower numbers
  drop-number k n q = can.stepped.lower n _ (above→below ch (homes ch net far s k n q).down)

  drop-homes : (k n : ℕ) → get_or far n 0 ≡ suc k → Memᴰ (home_drop ch k net n).lower homing
  drop-homes zero n q = Memᴰ.cast (home_ends ch net far s zero n q refl) begins
  drop-homes (suc j) n q =
      →homing _ j (drop-number (suc j) n q) (home-nears ch net far s (suc j) n q j refl)

  -- the walk by the columns kept never leaves them
  pub home-confined : Confined ch.bot columns net
  home-confined = (
    homing,
    record {
      few = few-kept (λ n. ltb 0 (get_or far n 0)) highest_net;
      low = λ n m. let l = (up_to-member highest_net (homing→ n m).0).1 in omega arith;
      begins = begins;
      column = column;
      stays = stays;
    },
  )
    where
      column : (n : ℕ) → Memᴰ n homing → (1 ≤ get_or columns n 0) × (get_or columns n 0 ≤ length ch.bot)
      column n m =
          let r = homing→ n m in
          let k = r.1.0 in
          let inside = above-column ch can.only.escapes (homes ch net far s k n r.1.1).down in
          let same = ap (λ (x : Drop). x.column) (column-kept k n r.0 r.1.1) in
          let even = can.only.escapes.even in
          omega arith

      stays : (n : ℕ) → Memᴰ n homing → Memᴰ (net_below ch.bot columns n) homing
      stays n m =
          let r = homing→ n m in
          Memᴰ.cast (sym (ap (λ (x : Drop). x.lower) (column-kept r.1.0 n r.0 r.1.1)))
          (drop-homes r.1.0 n r.1.1)

  -- from a net with so many steps home it goes the homeward steps
  abbrev Goes : ℕ → ℕ → Type 0
  Goes k n = steps_by columns (met (net_below ch.bot columns) n k) ≡ homeward ch k net n

  goes_on : (k n : ℕ) → Memᴰ n numbers → get_or far n 0 ≡ suc k → Goes k (home_drop ch k net n).lower
      → Goes (suc k) n
  unfolding homeward
  goes_on k n m q rest =
      let down = net_below ch.bot columns in
      let drop = column-kept k n m q in
      ap (steps_by columns) (met_next down n k)
      ∙ ap₂ (λ (c : ℕ) (l : List Step). record { net = n; column = c } ∷ l) (sym (ap (λ (x : Drop). x.column) drop))
      (ap (λ (b : ℕ). steps_by columns (met down b k)) (sym (ap (λ (x : Drop). x.lower) drop)) ∙ rest)

  goes-home : (k n : ℕ) → Memᴰ n numbers → get_or far n 0 ≡ suc k → Goes (suc k) n
  goes-home zero n m q = goes_on zero n m q (unfold met homeward in refl)
  goes-home (suc j) n m q =
      goes_on (suc j) n m q
      (goes-home j _ (drop-number (suc j) n q) (home-nears ch net far s (suc j) n q j refl))

  -- the pairs stored by them are those of the homeward steps
  pub home-stored : steps_by columns (met (net_below ch.bot columns) net nets) ≡ homeward ch nets net net
  home-stored =
      let h = can.some in
      let one : suc (nets - 1) ≡ nets = omega arith in
      let all = distance in
      subst (λ (k : ℕ). Goes k net) one (goes-home (nets - 1) net can.begins (omega arith))
