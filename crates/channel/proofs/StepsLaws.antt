-- The rows of a channel that show nets only, as rows of steps between items: a place is a step exactly if its TOP net
-- is above its BOT net.
use Rattle.std.specs.Prelude.{ℕ, ◌<◌, ◌≡◌, refl, ◌&&◌, not, length, replicate, T, eqb}
use Rattle.std.proofs.Common.{arith, sym, ◌∙◌, ap, subst, eqb→eq, ne_eqb}
use Rattle.std.proofs.Math.Path.{fun_ext}
use mathlib.Core.List.{List, map, map-map, Memᴰ}
use Rattle.std.proofs.lemmas.List.{length-replicate}
use Rattle.lists.specs.Lists.{keep, up_to, at}
use Rattle.lists.specs.Tests.{same_test, eq→T, and_left, and_right, and_both, not-fails}
use Rattle.lists.specs.Tallies.{keep_same}
use Rattle.items.specs.Steps.{is_step, steps_from, step_below, StepRows, StepsLinked}
use Rattle.items.specs.Depths.{Peeled, StepsCounted, Peelable}
use Rattle.items.specs.LinkLaws.{steps-stepped}
use Rattle.channel.specs.Channel.{Channel, width, spanning}
use Rattle.channel.specs.Constraints.{Above, above, Drop, drops, below, chain}
use Rattle.channel.specs.Parked.{NetsOnly}
use Rattle.channel.proofs.Laws.{net-positive, above→, →above}
use Rattle.channel.proofs.SpanLaws.{spanning→, spanning-small, upper-spans, lower-spans}
use Rattle.channel.proofs.ChainLaws.{peeled-chain}

apart : (a b : ℕ) → T (not (eqb a b)) → a ≡ b → ⊥
apart a b t e = not-fails (eqb a b) t (eq→T a b e)

-- what the test of a step says of its two items
step→ : (a b : ℕ) → T ((not (eqb a 0) && not (eqb b 0)) && not (eqb a b)) → (0 < a) × (0 < b) × (a ≡ b → ⊥)
step→ a b t =
    let both = and_left (not (eqb a 0) && not (eqb b 0)) (not (eqb a b)) t in
    let upper = apart a 0 (and_left (not (eqb a 0)) (not (eqb b 0)) both) in
    let lower = apart b 0 (and_right (not (eqb a 0)) (not (eqb b 0)) both) in
    (omega (arith, upper), omega (arith, lower), apart a b (and_right (not (eqb a 0) && not (eqb b 0)) _ t))

pub step-above : {ch : Channel} → NetsOnly ch → (c : ℕ) → T (is_step ch.top ch.bot c)
    → Above ch (at ch.top c) (at ch.bot c) c
unfolding is_step
step-above {ch} only c t =
    let s = step→ (at ch.top c) (at ch.bot c) t in
    record {
      on_top = refl;
      on_bot = refl;
      upper = only.on_top c s.0;
      lower = only.on_bot c s.1;
      different = s.2;
    }

pub above_step : (ch : Channel) (a b c : ℕ) → Above ch a b c → T (is_step ch.top ch.bot c)
unfolding is_step
above_step ch a b c h =
    let upper = net-positive ch a h.upper in
    let lower = net-positive ch b h.lower in
    rw (h.on_top, h.on_bot, ne_eqb a 0 (omega arith), ne_eqb b 0 (omega arith), ne_eqb a b h.different) tt

pub steps-drops : {ch : Channel} → NetsOnly ch → (n : ℕ) → step_below ch.top ch.bot n ≡ below ch n
unfolding steps_from drops
steps-drops {ch} only n =
    ap (map (at ch.bot)) (keep_same _ (λ c. above ch n (at ch.bot c) c) (up_to (width ch)) (λ c m. same_test _ _
    (down c) (of-down c)))
    ∙ sym (map-map (λ (d : Drop). d.lower) _ (keep (λ c. above ch n (at ch.bot c) c) (up_to (width ch))))
  where
    down : (c : ℕ) → T (is_step ch.top ch.bot c && eqb (at ch.top c) n) → T (above ch n (at ch.bot c) c)
    down c t =
        →above ch n (at ch.bot c) c (rw (eqb→eq (at ch.top c) n (and_right (is_step ch.top ch.bot c) _ t))
        at (step-above only c (and_left (is_step ch.top ch.bot c) _ t)))

    of-down : (c : ℕ) → T (above ch n (at ch.bot c) c) → T (is_step ch.top ch.bot c && eqb (at ch.top c) n)
    of-down c t =
        let h = above→ ch n (at ch.bot c) c t in
        and_both (is_step ch.top ch.bot c) _ (above_step ch n _ c h) (eq→T _ n h.on_top)

-- the rows as the code that links their steps takes them
pub net-rows : {ch : Channel} → NetsOnly ch → {next : List ℕ} → length next ≡ 513
    → StepRows ch.top ch.bot (replicate 512 0) next (replicate 512 0)
net-rows {ch} only long =
    let esc = only.escapes in
    let narrow = esc.narrow in
    let size : (k : ℕ) → length {A = ℕ} (replicate k 0) ≡ k = λ k. length-replicate {A = ℕ} k 0 in
    record {
      even = esc.even;
      few = omega arith;
      room = omega arith;
      upper = λ c. rw (size 512) (let l = (esc.low c).0 in omega arith);
      lower = λ c. rw (size 512) (let l = (esc.low c).1 in omega arith);
      unlinked = sym (ap (λ (k : ℕ). replicate k 0) (size 512));
      uncounted = sym (ap (λ (k : ℕ). replicate k 0) (size 512));
    }

-- so linked they are the steps of any items that are the nets with spans
pub nets-stepped : {ch : Channel} → NetsOnly ch → (items head next under : List ℕ)
    → StepsLinked ch.top ch.bot head next under → ((n : ℕ) → Memᴰ n items → Memᴰ n (spanning ch))
    → ((n : ℕ) → Memᴰ n (spanning ch) → Memᴰ n items)
    → StepsCounted (below ch) items ch.top head next under
nets-stepped {ch} only items head next under l from-items to-items =
    subst (λ (f : ℕ → List ℕ). StepsCounted f items ch.top head next under) (fun_ext (steps-drops only)) (record {
      stepped = steps-stepped ch.top ch.bot head next under items l
          (λ n m. (spanning→ ch n (from-items n m)).0.positive) (λ c t. let h = step-above only c t in
          (to-items _ (upper-spans ch only.escapes h), to-items _ (lower-spans ch only.escapes h)));
      counted = l.counted;
    })

-- the peeling of the nets with spans: it may begin, and what it answers is the chain
module _ {ch : Channel} (only : NetsOnly ch) {items head next under : List ℕ} (all : items ≡ spanning ch)
    (l : StepsLinked ch.top ch.bot head next under) where
  stepped : StepsCounted (below ch) items ch.top head next under
  stepped = nets-stepped only items head next under l (λ n m. rw all at m) (λ n m. rw all m)

  pub nets-peelable : {queue : List ℕ} → length head ≡ 512 → length under ≡ 512 → length queue ≡ 512
      → Peelable items ch.top head next under queue
  nets-peelable h u q =
      let small = spanning-small ch in
      record {
        below = below ch;
        steps = stepped;
        distinct = rw all small.0;
        number = λ n m. let k = small.1 n (rw all at m) in (omega arith, omega arith);
        few = rw all (omega (arith, small.2));
        room = rw all (omega (arith, small.2));
      }

  pub nets-peeled : {r : ℕ} → ((f : ℕ → List ℕ) → StepsCounted f items ch.top head next under → Peeled f items r)
      → r ≡ chain ch
  nets-peeled {r} answer = peeled-chain ch r (rw all at (answer (below ch) stepped))
