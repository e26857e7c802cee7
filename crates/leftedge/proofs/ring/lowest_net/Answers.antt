-- A turn is `lowest-taken` or `lowest-left`.
use Rattle.std.proofs.Common.{ℕ, List, ◌≡◌, ◌+◌, ◌-◌, ◌<◌, ◌∙◌, ap, length, get_or, arith}
use Prim.Native.Nat.{min}
use Rattle.std.specs.Prelude.{take, drop}
use Rattle.std.proofs.Math.Decide.{dec_le}
use Rattle.std.proofs.Math.Seq.{take-length}
use Rattle.std.proofs.lemmas.List.{get_or-drop, length-drop, take_all}
use Rattle.lists.specs.Lists.{least}
use Rattle.leftedge.specs.RingLists.{lowest-first, lowest-all, lowest-taken, lowest-left}
use Rattle.leftedge.proofs.ring.lowest_net.Goals as goal

-- the nets behind the first
behind : (left : List ℕ) → take (length left - 1) (drop 1 left) ≡ drop 1 left
behind left = take_all (length left - 1) (drop 1 left) (omega (arith, length-drop 1 left))

behind-long : (left : List ℕ) → length (take (length left - 1) (drop 1 left)) ≡ length left - 1
behind-long left = ap (λ (l : List ℕ). length l) (behind left) ∙ length-drop 1 left

behind-at : (left : List ℕ) (i : ℕ) → get_or (take (length left - 1) (drop 1 left)) i 0 ≡ get_or left (i + 1) 0
behind-at left i =
    let next : 1 + i ≡ i + 1 = omega arith in
    ap (λ (l : List ℕ). get_or l i 0) (behind left) ∙ (get_or-drop 1 left i 0 ∙ ap (λ (k : ℕ). get_or left k 0) next)

pub loop-n-init : goal.loop-n-init
loop-n-init c = lowest-first _ _ c.requires (omega arith)

pub loop-n-preserved : goal.loop-n-preserved
loop-n-preserved c =
    let l = c.loop-n in
    let left = c.args.left.now in
    let inside : l.n-index + 1 < length left = omega (arith, c.loop-n-test.true, behind-long left) in
    let lower : c.min-least.result ≡ min l.least (get_or left (l.n-index + 1) 0) =
    c.min-least.ensures ∙ ap (min l.least) (behind-at left l.n-index) in
    elim (dec_le l.least (get_or left (l.n-index + 1) 0)) [
      | yes h ↦ let e : c.min-least.result ≡ l.least = omega arith in
          rw e (lowest-left l.invariant inside (omega arith) h)
      | no h ↦ let e : c.min-least.result ≡ get_or left (l.n-index + 1) 0 = omega arith in
          rw e (lowest-taken l.invariant inside (omega arith) (omega arith))
    ]

pub returns : goal.returns
returns c =
    lowest-all c.loop-n.invariant (omega (arith, c.loop-n-test.false, behind-long c.args.left.now))
    ∙ ap least (take-length c.args.left.now)
