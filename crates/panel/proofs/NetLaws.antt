-- The nets of a panel, those of them that have spans, and the order in which they are looked at: those of the first
-- list, and then those of the second, raised.
use Prim.Native.Nat.{ℕ, ◌+◌, ◌-◌, ◌≤◌, ◌<◌}
use native.Mathlib.Omega.{arith}
use Rattle.std.specs.Prelude.{◌≡◌, length, T, ltb}
use Rattle.std.proofs.Math.Path.{sym, ap, ap₂}
use Rattle.std.proofs.Common.{◌∙◌, ltb→lt, lt→ltb}
use mathlib.Core.List.{List, ◌++◌, map, append-nil}
use Rattle.std.proofs.Math.Bool.{Bool}
use Rattle.std.proofs.Math.Dec.{eqb, eqb→eq}
use Rattle.lists.specs.Lists.{keep, each, up_to}
use Rattle.lists.specs.Tests.{same_test, eq→T}
use Rattle.lists.specs.Members.{keep-member, up_to-member}
use Rattle.lists.specs.Parts.{up_to-two, keep_two, keep-former, each_map, map_each, each_same}
use Rattle.lists.specs.Ranges.{keep-map, fails→none-kept}
use Rattle.lists.specs.Runs.{each_append}
use Rattle.lists.specs.Tallies.{keep_same, keep_append}
use Rattle.lists.specs.Updates.{map_same}
use Rattle.channel.specs.Channel.{Channel, width, highest_net, is_net, first_column, last_column, nets, has_span, spanning}
use Rattle.channel.proofs.Laws.{columns-inside}
use Rattle.channel.specs.Spans.{starting}
use Rattle.channel.proofs.SpanLaws.{nets→, spanning→}
use Rattle.leftedge.specs.Nets.{fill_order}
use Rattle.leftedge.proofs.NetLaws.{starts-inside}
use Rattle.panel.specs.Joined.{highest, raised, joined, Fits}
use Rattle.panel.specs.RaiseLaws.{raised-some}
use Rattle.panel.proofs.JoinLaws.{net≤highest, width-both, net-first, net-second}
use Rattle.panel.proofs.PartLaws.{first-first, last-first, first-second, last-second}

-- a number added to both sides changes no test
pub same_sum : (d a b : ℕ) → eqb (d + a) (d + b) ≡ eqb a b
same_sum d a b =
    same_test (eqb (d + a) (d + b)) (eqb a b)
    (λ t. let e = eqb→eq (d + a) (d + b) t in eq→T a b (omega arith))
    (λ t. eq→T (d + a) (d + b) (ap (λ (k : ℕ). d + k) (eqb→eq a b t)))

pub less-sum : (d a b : ℕ) → ltb (d + a) (d + b) ≡ ltb a b
less-sum d a b =
    same_test (ltb (d + a) (d + b)) (ltb a b)
    (λ t. let h = ltb→lt (d + a) (d + b) t in lt→ltb a b (omega arith))
    (λ t. let h = ltb→lt a b t in lt→ltb (d + a) (d + b) (omega arith))

module _ {ch dh : Channel} (fit : Fits ch dh) where
  abbrev both : Channel
  both = joined ch dh

  abbrev up : ℕ → ℕ
  up = raised (highest ch)

  -- how many numbers there are above the highest of the first list
  abbrev left : ℕ
  left = highest_net - highest ch

  even₁ : length ch.bot ≡ width ch
  even₁ = fit.first.even

  even₂ : length dh.bot ≡ width dh
  even₂ = fit.second.even

  nets-first : keep (is_net both) (up_to (highest ch)) ≡ nets ch
  unfolding nets
  nets-first =
      let room : highest ch + left ≡ highest_net = let h = fit.numbers in omega arith in
      keep_same (is_net both) (is_net ch) (up_to (highest ch)) (λ n m. net-first ch dh n (up_to-member _ m).1)
      ∙ (sym (keep-former (is_net ch) (highest ch) left (λ n m t. let k = net≤highest ch even₁ (highest ch + n) t in
      let l = (up_to-member left m).0 in omega arith)) ∙ ap (λ (k : ℕ). keep (is_net ch) (up_to k)) room)

  nets-second : map (λ n. highest ch + n) (keep (λ n. is_net both (highest ch + n)) (up_to left)) ≡ map up (nets dh)
  unfolding nets
  nets-second =
      let room : left + highest ch ≡ highest_net = let h = fit.numbers in omega arith in
      ap (map (λ n. highest ch + n)) (keep_same (λ n. is_net both (highest ch + n)) (is_net dh) (up_to left)
      (λ n m. ap (is_net both) (sym (raised-some (highest ch) n (up_to-member left m).0)) ∙ net-second ch dh n))
      ∙ (map_same (λ n. highest ch + n) up (keep (is_net dh) (up_to left))
      (λ n m. sym (raised-some (highest ch) n (up_to-member left (keep-member (is_net dh) (up_to left) m).0).0))
      ∙ ap (map up) (sym (keep-former (is_net dh) left (highest ch)
      (λ n m t. let k = net≤highest dh even₂ (left + n) t in let l = (up_to-member (highest ch) m).0 in
      let h = fit.numbers in omega arith)) ∙ ap (λ (k : ℕ). keep (is_net dh) (up_to k)) room))

  pub nets-both : nets both ≡ nets ch ++ map up (nets dh)
  nets-both = split ∙ ap₂ ◌++◌ nets-first nets-second
    where
      split : nets both ≡ keep (is_net both) (up_to (highest ch))
          ++ map (λ n. highest ch + n) (keep (λ n. is_net both (highest ch + n)) (up_to left))
      split = unfold nets in (
          let room : highest_net ≡ highest ch + left = let h = fit.numbers in omega arith in
          ap (λ (k : ℕ). keep (is_net both) (up_to k)) room ∙ keep_two (is_net both) (highest ch) left)

  span-first : (n : ℕ) → T (is_net ch n) → has_span both n ≡ has_span ch n
  unfolding has_span
  span-first n net = rw (first-first ch dh even₁ n net, last-first ch dh even₁ n net)

  span_second : (n : ℕ) → T (is_net dh n) → has_span both (up n) ≡ has_span dh n
  unfolding has_span
  span_second n net =
      rw (first-second ch dh even₁ n net even₂, last-second ch dh even₁ n net even₂)
      (less-sum (width ch) (first_column dh n) (last_column dh n))

  pub spanning-both : spanning both ≡ spanning ch ++ map up (spanning dh)
  unfolding spanning
  spanning-both =
      ap (keep (has_span both)) nets-both
      ∙ (keep_append (has_span both) (nets ch) (map up (nets dh))
      ∙ ap₂ ◌++◌ (keep_same (has_span both) (has_span ch) (nets ch) (λ n m. span-first n (nets→ ch n m).is_net))
      (keep-map (has_span both) up (nets dh) ∙ ap (map up)
      (keep_same (λ n. has_span both (up n)) (has_span dh) (nets dh) (λ n m. span_second n (nets→ dh n m).is_net))))

  -- which nets with spans start in a column
  starting-parts : (c : ℕ) → starting both c
      ≡ keep (λ n. eqb (first_column ch n) c) (spanning ch)
      ++ map up (keep (λ n. eqb (width ch + first_column dh n) c) (spanning dh))
  unfolding starting
  starting-parts c =
      ap (keep starts) spanning-both
      ∙ (keep_append starts (spanning ch) (map up (spanning dh))
      ∙ ap₂ ◌++◌ (keep_same starts (λ n. eqb (first_column ch n) c) (spanning ch)
      (λ n m. ap (λ (k : ℕ). eqb k c) (first-first ch dh even₁ n (spanning→ ch n m).0.is_net)))
      (keep-map starts up (spanning dh) ∙ ap (map up)
      (keep_same (λ n. starts (up n)) (λ n. eqb (width ch + first_column dh n) c) (spanning dh)
      (λ n m. ap (λ (k : ℕ). eqb k c) (first-second ch dh even₁ n (spanning→ dh n m).0.is_net even₂)))))
    where
      starts : ℕ → Bool
      starts n = eqb (first_column both n) c

  starting-first : (c : ℕ) → c ≤ width ch → starting both c ≡ starting ch c
  unfolding starting
  starting-first c within =
      starting-parts c ∙ (ap (λ (l : List ℕ). starting ch c ++ map up l)
      (fails→none-kept (λ n. eqb (width ch + first_column dh n) c) (spanning dh)
      (λ n m t. let e = eqb→eq (width ch + first_column dh n) c t in
      let s = (starts-inside dh even₂ n m).0 in omega arith))
      ∙ append-nil (starting ch c))

  starting-second : (c : ℕ) → 0 < c → starting both (width ch + c) ≡ map up (starting dh c)
  unfolding starting
  starting-second c inside =
      starting-parts (width ch + c)
      ∙ ap₂ ◌++◌ (fails→none-kept (λ n. eqb (first_column ch n) (width ch + c)) (spanning ch)
      (λ n m t. let e = eqb→eq (first_column ch n) (width ch + c) t in let l = (columns-inside ch n).0 in omega arith))
      (ap (map up) (keep_same (λ n. eqb (width ch + first_column dh n) (width ch + c)) (λ n. eqb (first_column dh n) c)
      (spanning dh) (λ n m. same_sum (width ch) (first_column dh n) c)))

  pub order-both : fill_order both ≡ fill_order ch ++ map up (fill_order dh)
  unfolding fill_order
  order-both =
      ap (λ (w : ℕ). each (starting both) (up_to w)) (width-both ch dh)
      ∙ (ap (each (starting both)) (up_to-two (width ch) (width dh))
      ∙ (each_append (starting both) (up_to (width ch)) (map (λ c. width ch + c) (up_to (width dh)))
      ∙ ap₂ ◌++◌ (each_same (starting both) (starting ch) (up_to (width ch))
      (λ c m. starting-first c (up_to-member _ m).1))
      (each_map (λ c. width ch + c) (starting both) (up_to (width dh))
      ∙ (each_same (λ c. starting both (width ch + c)) (λ c. map up (starting dh c)) (up_to (width dh))
      (λ c m. starting-second c (up_to-member _ m).0) ∙ sym (map_each up (starting dh) (up_to (width dh)))))))
