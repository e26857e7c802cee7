-- The walk home: where k steps lead home, `homeward` is a walk of that many, and at each net it goes down in the lowest
-- column from which the steps left lead home.
use Prim.Native.Nat.{ℕ, zero, suc, ◌≤◌}
use Rattle.std.proofs.Common.{arith, sym, ◌∙◌, subst}
use Rattle.std.specs.Prelude.{◌≡◌, List, map, Bool, length}
use Rattle.std.proofs.Math.Path.{refl, ap}
use mathlib.Core.List.Memᴰ
use Rattle.std.proofs.Math.Dec.{T}
use Rattle.lists.specs.Lists.{keep, up_to, head_or, at}
use Rattle.lists.specs.Members.{keep-member, kept}
use Rattle.lists.specs.Ends.{Rising, head-member, from-rising, keep-rising, head-least}
use Rattle.channel.specs.Channel.{Channel, width}
use Rattle.channel.specs.Constraints.{Above, above, Drop, drops, below, nets_of, Descends, last, next}
use Rattle.channel.proofs.Laws.{drop→above, above→drop}
use Rattle.leftedge.specs.RingLists.{keep-map}
use Rattle.leftedge.proofs.RingLaws.{drop_in, head-drop}
use Rattle.rings.specs.Fewest.{leads, home_drop, homeward}
use Rattle.rings.specs.LeadLaws.{none-leads, step-leads}

-- the drop goes down from net n to a net from which k steps lead home
pub record DropsHome (ch : Channel) (k home n : ℕ) (d : Drop) : Type 0 where
  pub down : Above ch n d.lower d.column
  pub onward : T (leads (below ch) k d.lower home)

module _ (ch : Channel) where
  -- so many steps walk home
  pub homeward-length : (k home n : ℕ) → length (homeward ch k home n) ≡ k
  unfolding homeward
  homeward-length zero home n = refl
  homeward-length (suc k) home n = ap suc (homeward-length k home (home_drop ch k home n).lower)

  -- a walk home of a step or more begins at the net it is for
  pub homeward-first : (k home n : ℕ) → head_or 0 (nets_of (homeward ch (suc k) home n)) ≡ n
  unfolding homeward head_or
  homeward-first k home n = refl

  module _ (k home n : ℕ) where
    abbrev leads_home : Drop → Bool
    leads_home d = leads (below ch) k d.lower home

    -- the columns in which net n is above a net from which k steps lead home
    abbrev pub home_columns : List ℕ
    home_columns =
        keep (λ c. leads (below ch) k (at ch.bot c) home)
        (keep (λ c. above ch n (at ch.bot c) c) (up_to (width ch)))

    home-columns-rising : Rising home_columns
    home-columns-rising =
        keep-rising _ (keep (λ c. above ch n (at ch.bot c) c) (up_to (width ch)))
        (keep-rising _ (up_to (width ch)) (from-rising 1 (width ch)))

    home-drops : keep leads_home (drops ch n) ≡ map (drop_in ch.bot) home_columns
    unfolding drops
    home-drops = keep-map leads_home (drop_in ch.bot) (keep (λ c. above ch n (at ch.bot c) c) (up_to (width ch)))

    -- `home_drop` goes down in the first of them
    pub home-first : home_drop ch k home n ≡ drop_in ch.bot (head_or 0 home_columns)
    unfolding home_drop
    home-first = ap (head_or (record { column = 0; lower = 0 })) home-drops ∙ head-drop ch.bot home_columns

    -- where a step and k more lead home, `home_drop` is the first of these steps
    pub home-drop : T (leads (below ch) (suc k) n home) → DropsHome ch k home n (home_drop ch k home n)
    unfolding home_drop
    home-drop t =
        let r = step-leads (below ch) k n home t in
        let found = Memᴰ.of_map (λ (d : Drop). d.lower) (drops ch n) r.1 in
        let some = kept leads_home found.1
        (subst (λ (b : ℕ). T (leads (below ch) k b home)) (sym found.2) r.2) in
        let first = keep-member leads_home (drops ch n) (head-member (record { column = 0; lower = 0 }) some) in
        record { down = drop→above ch n _ first.0; onward = first.1 }

    -- and it is in the lowest column in which such a step can go
    pub home-lowest : {b c : ℕ} → Above ch n b c → T (leads (below ch) k b home) → (home_drop ch k home n).column ≤ c
    home-lowest {b} {c} h t =
        let some = kept leads_home (above→drop ch n b c h) t in
        let r = Memᴰ.of_map (drop_in ch.bot) home_columns (rw home-drops at some) in
        let low = head-least home_columns 0 home-columns-rising r.1 in
        let same : r.0 ≡ c = ap (λ (d : Drop). d.column) r.2 in
        let here = ap (λ (d : Drop). d.column) home-first in
        omega arith

  -- where a step or more lead home, `homeward` descends there
  pub homeward-descends : (k home n : ℕ) → T (leads (below ch) (suc k) n home)
      → Descends (Above ch) home (homeward ch (suc k) home n)
  unfolding homeward
  homeward-descends zero home n t =
      let d = home-drop 0 home n t in
      let end : (home_drop ch 0 home n).lower ≡ home = none-leads (below ch) _ home d.onward in
      last (subst (λ (b : ℕ). Above ch n b (home_drop ch 0 home n).column) end d.down)
  homeward-descends (suc k) home n t =
      let d = home-drop (suc k) home n t in
      next d.down (homeward-descends k home (home_drop ch (suc k) home n).lower d.onward)
