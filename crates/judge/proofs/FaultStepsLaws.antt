-- What each step of the loops that find the faults leaves, and what they have found at their end.
use Prim.Native.Nat.{ℕ, suc, ◌+◌, ◌-◌, ◌≤◌, ◌<◌}
use Rattle.std.proofs.Common.{arith, ◌∙◌, subst, eqb→eq}
use Rattle.std.specs.Prelude.{◌≡◌, refl, Bool, true, false, length, get_or, set, T}
use Rattle.std.proofs.Math.Path.{sym, ap}
use mathlib.Core.List.{List, [], ◌∷◌}
use Rattle.std.proofs.Math.Option.{Option, none, some}
use Rattle.std.proofs.Math.ListN.{length-map, get_or-map}
use Rattle.std.proofs.Math.Seq.{map-set_same}
use Rattle.std.proofs.Math.Dec.{eqb, eqb_refl}
use Rattle.lists.specs.Lists.{at}
use Rattle.lists.specs.Tests.{true→T, false→fails}
use Rattle.std.proofs.lemmas.List.{map-set}
use Rattle.lists.specs.Updates.{map_at}
use Rattle.grid.specs.Pieces.{Layout}
use Rattle.channel.specs.Channel.{Channel, highest_net, width, positions}
use Rattle.channel.specs.Answers.{Escapes}
use Rattle.wiring.specs.Pins.{Pin, top, bot, net_of, pin_at}
use Rattle.judge.specs.declared.Fault.{Fault}
use Rattle.std.specs.Prelude.{Some, None, option_map}
use Rattle.judge.specs.declared.Fault.TheVariants.{Short, Open, Floating}
use Rattle.classes.specs.Halves.{low_half, high_half, number_of, low_small, low-number, high-number, high-none}
use Rattle.judge.specs.PinPlaces.{position-net}
use Rattle.judge.specs.Finding.{shorts, opens, floating, fault_at_first}
use Rattle.judge.specs.SameFinding.{found_by}
use Rattle.judge.specs.Searches.{Owned}
use Rattle.judge.proofs.SearchLaws.{owned-same, owned-new, short-found, FirstsKnown, firsts_same}
use Rattle.judge.proofs.SearchLaws.{firsts-new, open-found, floating-found, no-floating, unowned-floating}
use Rattle.judge.proofs.SearchLaws.{owned-joined}
use Rattle.judge.specs.FaultSteps.{Claimed, ClassClaimed, FaultReady, Finds, FirstFloating, ShortFound}
use Rattle.judge.specs.FaultSteps.{found_of, first_of, marks_in, owners_in, free, same, other}
use Rattle.std.specs.declared.option.Option as Maybe

module _ (s : List ℕ) where
  pub marks-length : length (marks_in s) ≡ length s
  unfolding marks_in
  marks-length = length-map s (λ v. low_half v + 1)

  pub owners-length : length (owners_in s) ≡ suc (length s)
  unfolding owners_in
  owners-length = ap suc (length-map s high_half)

  module _ (i : ℕ) (inside : i < length s) where
    pub mark-at : get_or (marks_in s) i 0 ≡ low_half (get_or s i 0) + 1
    unfolding marks_in
    mark-at = map_at (λ v. low_half v + 1) s i inside

    module _ {root owner : ℕ} (e : root ≡ low_half (get_or s i 0)) (o : owner ≡ high_half (get_or s root 0)) where
      mark-root : get_or (marks_in s) i 0 ≡ suc root
      mark-root = let m = mark-at in omega arith

      -- the owner of an element's mark is the high half of its root
      pub owner_at : get_or (owners_in s) (get_or (marks_in s) i 0) 0 ≡ owner
      unfolding owners_in
      owner_at = rw (mark-root, o) (rw high-none at (get_or-map high_half s root 0))

      -- a net is put into the root's high half: no mark changes, and the net is the owner of the element's mark
      module _ (net : ℕ) {v : ℕ} (n : v ≡ number_of (low_half (get_or s root 0)) net) where
        marks-kept : marks_in (set s root v) ≡ marks_in s
        unfolding marks_in
        marks-kept =
            map-set_same (λ w. low_half w + 1) s root v 0 (ap (λ (k : ℕ). k + 1)
            (ap low_half n ∙ low-number (low_half (get_or s root 0)) net (low_small (get_or s root 0))))

        owner-set : owners_in (set s root v) ≡ set (owners_in s) (get_or (marks_in s) i 0) net
        unfolding owners_in
        owner-set =
            rw (mark-root, map-set, n, high-number (low_half (get_or s root 0)) net (low_small (get_or s root 0)))

        pub class-free : owner ≡ 0 → ClassClaimed s i net true (set s root v)
        class-free z = record { marks = marks-kept; claimed = rw owner-set (free (owner_at ∙ z)) }

-- what is met at a place that is not free
pub claimed-met : {table : List ℕ} {place value met : ℕ} → get_or table place 0 ≡ met → (met ≡ 0 → ⊥)
    → Claimed table place value (eqb met value) table
claimed-met {table} {place} {value} {met} e out = go (eqb met value) refl
  where
    taken : get_or table place 0 ≡ 0 → ⊥
    taken z = out (sym e ∙ z)

    go : (b : Bool) → eqb met value ≡ b → Claimed table place value b table
    go true t = same taken (e ∙ eqb→eq met value (true→T _ t))
    go false t =
        other taken (λ z. false→fails _ t (subst (λ (n : ℕ). T (eqb met n)) (sym e ∙ z) (eqb_refl met)))

true-not-false : {A : Type 0} → true ≡ false → A
true-not-false e = absurd (subst T e tt)

module _ (ch : Channel) (ms : List ℕ) (i : ℕ) where
  abbrev net_at : ℕ
  net_at = get_or (positions ch) i 0

  abbrev mark_at : ℕ
  mark_at = get_or ms i 0

  -- the pin at place i has claimed its mark for its net
  module _ {owners : List ℕ} (h : Owned ch ms owners i) (pin : 0 < net_at) where
    pub owned-next : {r : Bool} {owners' : List ℕ} → mark_at < length owners
        → Claimed owners mark_at net_at r owners' → r ≡ true → Owned ch ms owners' (i + 1)
    owned-next room (free z) t = owned-new ch ms owners i h pin room z
    owned-next room (same z q) t = owned-same ch ms owners i h (λ p. q)
    owned-next room (other z q) t = true-not-false (sym t)

    pub owned-refused : {r : Bool} {owners' : List ℕ} → i < width ch + width ch
        → Claimed owners mark_at net_at r owners' → r ≡ false → Some (i + 1) ≡ first_of (shorts ch ms)
    owned-refused inside (free z) t = true-not-false t
    owned-refused inside (same z q) t = true-not-false t
    owned-refused inside (other z q) t = short-found ch ms owners i h inside pin z q

  -- the pin at place i has claimed its net for its mark
  module _ {firsts : List ℕ} (h : FirstsKnown ch ms firsts i) (inside : i < width ch + width ch) (pin : 0 < net_at) where
    pub firsts-next : {r : Bool} {firsts' : List ℕ} → Escapes ch
        → ((q : ℕ) → q < width ch + width ch → 0 < get_or ms q 0) → net_at < length firsts
        → Claimed firsts net_at mark_at r firsts' → r ≡ true → FirstsKnown ch ms firsts' (i + 1)
    firsts-next esc pos room (free z) t = firsts-new ch ms esc pos firsts i h inside pin room z
    firsts-next esc pos room (same z q) t = firsts_same ch ms firsts i h pin z q
    firsts-next esc pos room (other z q) t = true-not-false (sym t)

    pub firsts-refused : {r : Bool} {firsts' : List ℕ} → Claimed firsts net_at mark_at r firsts'
        → r ≡ false → Some (i + 1) ≡ first_of (opens ch ms)
    firsts-refused (free z) t = true-not-false t
    firsts-refused (same z q) t = true-not-false t
    firsts-refused (other z q) t = open-found ch ms firsts i h inside pin z q

-- the first of the places decides, and where there is none what comes next
at_first : (fault : ℕ → Fault) (ps : List ℕ) (next : Option Fault) {p : ℕ} → Some p ≡ first_of ps
    → fault_at_first fault ps next ≡ some (fault p)
unfolding fault_at_first
at_first fault [] next e = absurd (let z : ◌≡◌ {A = ℕ} 0 1 = cc in omega arith)
at_first fault (q ∷ qs) next {p} e = let same : p ≡ q = cc in ap (λ (k : ℕ). some (fault k)) (sym same)

at_none : (fault : ℕ → Fault) (ps : List ℕ) (next : Option Fault) → None ≡ first_of ps → fault_at_first fault ps next ≡ next
unfolding fault_at_first
at_none fault [] next e = refl
at_none fault (q ∷ qs) next e = absurd (let z : ◌≡◌ {A = ℕ} 0 1 = cc in omega arith)

-- the searches one after the other, each asked where those before it found nothing
module _ {ch : Channel} {s s' : List ℕ} {found : Maybe.Option ℕ} (short : ShortFound ch s found s') where
  pub finds-short : {p : ℕ} → found ≡ Some p → Finds ch s (Some (Short p))
  unfolding found_of found_by
  finds-short e l n = sym (ap found_of (at_first Short (shorts ch (marks_in s)) _ (sym e ∙ short.first)))

  -- the same marks are as ready for the other searches
  pub still-ready : FaultReady ch s → FaultReady ch s'
  still-ready ready =
      let size : length s' ≡ length s = sym (marks-length s') ∙ ap length short.marks ∙ marks-length s in
      let long = ready.long in
      let small = ready.small in
      record {
        long = omega arith;
        small = omega arith;
        marked = λ i l. let m = ready.marked i (omega arith) in rw (short.marks, size) m;
      }

  module _ (no_short : found ≡ None) {opened : Maybe.Option ℕ} (first : opened ≡ first_of (opens ch (marks_in s'))) where
    past-short : (next : Option Fault) → fault_at_first Short (shorts ch (marks_in s)) next ≡ next
    past-short next = at_none Short (shorts ch (marks_in s)) next (sym no_short ∙ short.first)

    first-opened : opened ≡ first_of (opens ch (marks_in s))
    first-opened = rw short.marks at first

    pub finds-open : {q : ℕ} → opened ≡ Some q → Finds ch s (Some (Open q))
    unfolding found_of found_by
    finds-open e l n =
        sym (ap found_of (past-short _ ∙ at_first Open (opens ch (marks_in s)) _ (sym e ∙ first-opened)))

    module _ (no-open : opened ≡ None) {last : Maybe.Option ℕ}
        (floats : FirstFloating (marks_in s') (width ch + width ch) (owners_in s') last) where
      past-both : (next : Option Fault)
          → fault_at_first Short (shorts ch (marks_in s)) (fault_at_first Open (opens ch (marks_in s)) next) ≡ next
      past-both next = past-short _ ∙ at_none Open (opens ch (marks_in s)) next (sym no-open ∙ first-opened)

      first-floats : (l : Layout) → width ch + width ch + length l.pieces ≡ length s
          → last ≡ first_of (floating ch l (marks_in s))
      first-floats l n = (rw short.marks at floats) ch l refl (n ∙ sym (marks-length s)) (short.owned no_short)

      pub finds-last : Finds ch s (option_map Floating last)
      unfolding found_of found_by
      finds-last l n = go last (first-floats l n)
        where
          go : (r : Maybe.Option ℕ) → r ≡ first_of (floating ch l (marks_in s))
              → option_map Floating r ≡ found_of (found_by ch l (marks_in s))
          go (Some r) e =
              sym (ap found_of (past-both _ ∙ at_first Floating (floating ch l (marks_in s)) none e))
          go None e = sym (ap found_of (past-both _ ∙ at_none Floating (floating ch l (marks_in s)) none e))

-- the mark at a place has no owner
abbrev pub FreeAt : List ℕ → List ℕ → ℕ → Type 0
FreeAt ms owners k = get_or owners (get_or ms k 0) 0 ≡ 0

-- the first piece whose mark has no owner floats
module _ (ms : List ℕ) (base : ℕ) (owners : List ℕ) where
  pub first-floating : (i : ℕ) → base ≤ i → i < length ms → FreeAt ms owners i
      → ((k : ℕ) → k < i → base ≤ k → FreeAt ms owners k → ⊥) → FirstFloating ms base owners (Some (i - base + 1))
  first-floating i behind inside here before ch l e n own =
      let owned = subst (Owned ch ms owners) (sym e) own in
      let place : i ≡ width ch + width ch + (i - base) = omega arith in
      floating-found ch ms l (i - base) (omega arith)
      (unowned-floating ch ms owners (i - base) owned (subst (FreeAt ms owners) place here))
      (λ k b. owned-joined ch ms owners k owned (before (width ch + width ch + k) (omega arith) (omega arith)))

  pub none-floating : ((k : ℕ) → k < length ms → base ≤ k → FreeAt ms owners k → ⊥) → FirstFloating ms base owners None
  none-floating before ch l e n own =
      let owned = subst (Owned ch ms owners) (sym e) own in
      no-floating ch ms l (λ k b. owned-joined ch ms owners k owned
      (before (width ch + width ch + k) (omega arith) (omega arith)))

-- the net at a position from 0 is at most 511
pub net-low : (ch : Channel) → Escapes ch → (i : ℕ) → get_or (positions ch) i 0 < suc highest_net
unfolding at net_of
net-low ch esc i = let e = position-net ch (suc i) in let h = low (pin_at ch (suc i)) in omega arith
  where
    low : (x : Pin) → net_of ch x ≤ highest_net
    low (top c) = (esc.low c).0
    low (bot c) = (esc.low c).1
