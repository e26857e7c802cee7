-- The finding hangs only on which marks are equal: any marks that are equal exactly where the definition's are give the
-- same finding.
use Prim.Native.Nat.{ℕ, zero, suc, ◌+◌, ◌≤◌, ◌<◌}
use native.Mathlib.Omega.{arith}
use Rattle.std.specs.Prelude.{◌≡◌, Bool, ◌&&◌, length, get_or, eqb}
use Rattle.std.proofs.Common.{sym, subst, eqb→eq}
use Rattle.std.proofs.Math.Path.{ap}
use mathlib.Core.List.{List, Memᴰ}
use Rattle.std.proofs.Math.Bool.{not}
use Rattle.std.proofs.Math.Dec.{ltb}
use Rattle.lists.specs.Lists.{at, up_to}
use Rattle.lists.specs.Tests.{same_test, eq→T}
use Rattle.lists.specs.Members.{up_to-member}
use Rattle.lists.specs.Tallies.{keep_same, any_same}
use Rattle.grid.specs.Pieces.{Layout}
use Rattle.channel.specs.Channel.{Channel, width, positions}
use Rattle.channel.specs.Answers.{Escapes}
use Rattle.judge.specs.Finding.{marks, pins, first_of_net, shorts, opens, floating, finding}
use Rattle.judge.specs.FindingLaws.{first-of-net}
use Rattle.judge.specs.PinPlaces.{pins-member, pin-inside}
use Rattle.judge.specs.SameFinding.{found_by}

-- the first n of two lists of marks are equal at the same pairs of places
pub record SameClasses (n : ℕ) (ms ms' : List ℕ) : Type 0 where
  pub there : (i j : ℕ) → i < n → j < n → get_or ms i 0 ≡ get_or ms j 0 → get_or ms' i 0 ≡ get_or ms' j 0
  pub back : (i j : ℕ) → i < n → j < n → get_or ms' i 0 ≡ get_or ms' j 0 → get_or ms i 0 ≡ get_or ms j 0

module _ (ch : Channel) (l : Layout) (esc : Escapes ch) (ms ms' : List ℕ)
    (same : SameClasses (width ch + width ch + length l.pieces) ms ms') where
  -- a position of a pin or of a piece
  abbrev Inside : ℕ → Type 0
  Inside p = (1 ≤ p) × (p ≤ width ch + width ch + length l.pieces)

  -- marks are compared alike
  same-marks : (p q : ℕ) → Inside p → Inside q → eqb (at ms' p) (at ms' q) ≡ eqb (at ms p) (at ms q)
  unfolding at
  same-marks zero q hp hq = absurd (omega arith)
  same-marks (suc i) zero hp hq = absurd (omega arith)
  same-marks (suc i) (suc j) hp hq =
      same_test (eqb (get_or ms' i 0) (get_or ms' j 0)) (eqb (get_or ms i 0) (get_or ms j 0))
      (λ t. eq→T (get_or ms i 0) (get_or ms j 0)
      (same.back i j (omega arith) (omega arith) (eqb→eq (get_or ms' i 0) (get_or ms' j 0) t)))
      (λ t. eq→T (get_or ms' i 0) (get_or ms' j 0)
      (same.there i j (omega arith) (omega arith) (eqb→eq (get_or ms i 0) (get_or ms j 0) t)))

  pin-in : {p : ℕ} → Memᴰ p (pins ch) → Inside p
  pin-in {p} m = let r = pin-inside ch esc p (pins-member ch m) in (omega arith, omega arith)

  -- the first pin of a pin's net is a pin
  first-in : {p : ℕ} → Memᴰ p (pins ch) → Inside (first_of_net ch p)
  first-in {p} m =
      let hp = pins-member ch m in
      let e = (first-of-net ch esc p hp).holds in
      let r = pin-inside ch esc (first_of_net ch p) (subst (λ (k : ℕ). 0 < k) (sym e) hp) in
      (omega arith, omega arith)

  same-shorts : shorts ch ms' ≡ shorts ch ms
  unfolding shorts
  same-shorts =
      keep_same _ _ (pins ch) (λ p m. any_same _ _ (pins ch) (λ q k. ap (λ (b : Bool). ltb q p
      && (not (eqb (at (positions ch) q) (at (positions ch) p)) && b)) (same-marks q p (pin-in k) (pin-in m))))

  same-opens : opens ch ms' ≡ opens ch ms
  unfolding opens
  same-opens =
      keep_same _ _ (pins ch) (λ p m. ap not (same-marks (first_of_net ch p) p (first-in m) (pin-in m)))

  same-floating : floating ch l ms' ≡ floating ch l ms
  unfolding floating
  same-floating =
      keep_same _ _ (up_to (length l.pieces)) (λ i m. let r = up_to-member (length l.pieces) m in
      ap not (any_same _ _ (pins ch)
      (λ q k. same-marks q (width ch + width ch + i) (pin-in k) (omega arith, omega arith))))

  same-found : found_by ch l ms' ≡ found_by ch l ms
  unfolding found_by
  same-found = rw (same-shorts, same-opens, same-floating)

pub same-finding : (ch : Channel) (l : Layout) → Escapes ch → (ms : List ℕ)
    → SameClasses (width ch + width ch + length l.pieces) ms (marks ch l) → finding ch l ≡ found_by ch l ms
unfolding finding found_by
same-finding ch l esc ms same = same-found ch l esc ms (marks ch l) same
