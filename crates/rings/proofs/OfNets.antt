-- What the search for each net says of the channel. Every net from which steps lead back stands on TOP, so none is
-- above the highest number there: the net found is where the ring with the fewest nets begins.
use Rattle.std.specs.Prelude.{ℕ, suc, max, ◌-◌, ◌≤◌, ◌<◌, ◌≡◌, List, [], length, T}
use Rattle.std.proofs.Common.{arith, subst}
use Rattle.lists.specs.Lists.{greatest}
use Rattle.lists.specs.Greatest.{at≤greatest}
use Rattle.lists.specs.Members.{in-up_to}
use Rattle.refusal.specs.Trays.{ring_tray}
use Rattle.items.specs.Steps.{Stepped}
use Rattle.channel.specs.Channel.{Channel, highest_net}
use Rattle.channel.specs.Constraints.{below}
use Rattle.channel.proofs.Laws.{net-positive}
use Rattle.channel.proofs.PathLaws.{below→above}
use Rattle.channel.specs.CountLaws.{nets-few}
use Rattle.channel.specs.Parked.{NetsOnly}
use Rattle.rings.specs.Fewest.{leads, fewest, homeward, fewest_ring}
use Rattle.rings.specs.LeadLaws.{step-leads}
use Rattle.rings.specs.Search.{numbers, CanShow, Nearest}
use Rattle.rings.specs.WalkLaws.{leads→net}
use Rattle.rings.proofs.FewestLaws.{fewest-few, none-fewest, least-fewest}

-- without a ring there are no pairs
pub none-ring : (ch : Channel) → fewest ch ≡ 0 → fewest_ring ch ≡ []
unfolding fewest_ring homeward
none-ring ch e = rw (e, homeward)

-- a net from which a step leads down is positive and stands on TOP
leads-on-top : (ch : Channel) (k n z : ℕ) → T (leads (below ch) (suc k) n z) → (0 < n) × (n ≤ greatest ch.top)
leads-on-top ch k n z t =
    let r = step-leads (below ch) k n z t in
    let down = below→above ch n r.0 r.1 in
    let on = down.1.on_top in
    let top = at≤greatest ch.top down.0 in
    (net-positive ch n down.1.upper, omega arith)

module _ {ch : Channel} (only : NetsOnly ch) {highest net nets : ℕ} (e : highest ≡ max 0 (greatest ch.top))
    (found : Nearest (below ch) highest net nets) where
  -- wherever steps lead back the net found has some, and no more
  least : (j n : ℕ) → T (leads (below ch) (suc j) n n) → (0 < nets) × (nets ≤ suc j)
  least j n t = let r = leads-on-top ch j n n t in found.fewest j n r.0 (omega arith) t

  -- no steps found: there is no ring
  pub of_none : nets ≡ 0 → (fewest ch ≡ 0) × (fewest_ring ch ≡ [])
  of_none z =
      let none = none-fewest ch (λ j n t. let h = (least j n t).0 in omega arith) in
      (none, none-ring ch none)

  module _ (some : 0 < nets) where
    -- steps as many as found are one or more
    some-steps : (n : ℕ) → T (leads (below ch) nets n n) → T (leads (below ch) (suc (nets - 1)) n n)
    some-steps n t =
        let one : nets ≡ suc (nets - 1) = omega arith in
        subst (λ (k : ℕ). T (leads (below ch) k n n)) one t

    -- the steps found are the fewest, and the ring is gone down from the net found
    pub of_some : (fewest ch ≡ nets) × (fewest_ring ch ≡ homeward ch nets net net)
    of_some =
        least-fewest ch only.escapes net nets some (found.lead some) (λ j n t. (least j n t).1) (λ n l t.
        let r = leads-on-top ch (nets - 1) n n (some-steps n t) in let z = found.lowest n r.0 l t in omega arith)

    -- so it can be shown
    pub can-show : {head next ring : List ℕ} → Stepped (below ch) numbers ch.top head next → length head ≡ 512
        → ring_tray ≤ length ring → CanShow ch head next net nets ring
    can-show stepped long room =
        let same = of_some.0 in
        let few = fewest-few ch in
        let all = nets-few ch in
        let start = leads→net ch only.escapes (nets - 1) net net (some-steps net (found.lead some)) in
        record {
          only = only;
          stepped = stepped;
          long = long;
          begins = in-up_to highest_net net start.positive start.low;
          back = record { lead = found.lead; fewest = λ k t. least k net t };
          some = some;
          few = omega arith;
          room = omega arith;
        }
