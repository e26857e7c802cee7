use Rattle.std.proofs.Common.{ℕ, ◌≡◌, ◌+◌, ◌≤◌, List, true, false, refl, sym, ◌∙◌, arith}
use Rattle.lists.specs.Lists.{any_of, from, up_to}
use Rattle.lists.specs.Tests.{T→true, true→T}
use Rattle.lists.specs.Updates.{any_next}
use Rattle.lists.specs.Members.{member→any, in-up_to}
use Rattle.draft.specs.Marks.{marked, is_here}
use Rattle.draft.specs.CodeLaws.{mark-read}
use Rattle.draft.proofs.columns.is_here.Goals as goal

-- what the next column tells
module _ (words : List ℕ) (n c : ℕ) where
  found : 1 ≤ c → c ≤ 512 → marked words c n ≡ true → true ≡ is_here words n
  unfolding is_here
  found low few m = sym (T→true _ (member→any (λ k. marked words k n) (in-up_to 512 c low few) (true→T _ m)))

  none_yet : any_of (λ k. marked words k n) (up_to c) ≡ false → marked words (c + 1) n ≡ false
      → any_of (λ k. marked words k n) (up_to (c + 1)) ≡ false
  none_yet before here = any_next (λ k. marked words k n) c ∙ rw (before, here)

  none : c ≡ 512 → any_of (λ k. marked words k n) (up_to c) ≡ false → false ≡ is_here words n
  unfolding is_here
  none all before = sym (rw all at before)

pub loop-before-init : goal.loop-before-init
unfolding any_of from
loop-before-init c = refl

pub returns-then-is_set : goal.returns-then-is_set
returns-then-is_set c = found _ _ (c.loop-before.before + 1) (omega arith) (omega arith) (sym (c.is_set.ensures ∙ mark-read c.args.words.now c.args.net.0 (c.loop-before.before + 1) c.of.ensures) ∙ c.if-is_set.true)

pub loop-before-preserved : goal.loop-before-preserved
loop-before-preserved c =
    none_yet _ _ c.loop-before.before c.loop-before.invariant (sym (c.is_set.ensures ∙ mark-read c.args.words.now c.args.net.0 (c.loop-before.before + 1) c.of.ensures) ∙ c.if-is_set.false)

pub returns : goal.returns
returns c = none _ _ c.loop-before.before (omega arith) c.loop-before.invariant
