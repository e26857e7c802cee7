-- What stands where on a panel, how often, and which numbers are nets there: those of the first list as they are, those
-- of the second raised. No number is of both, since those of the first are at most its highest.
use Rattle.std.specs.Prelude.{ℕ, suc, max, ◌+◌, ◌≤◌, ◌<◌, ◌≡◌, refl, false, ◌&&◌, length, T, eqb}
use native.Mathlib.Omega.{arith}
use Rattle.std.proofs.Common.{sym, ◌∙◌, eqb→eq}
use Rattle.std.proofs.Math.Path.{ap}
use mathlib.Core.List.{List, map, Memᴰ}
use Rattle.std.proofs.Math.Logic.{⊎_elim}
use Rattle.std.proofs.Math.ListN.{length-append}
use Rattle.std.proofs.lemmas.List.{length-map}
use Rattle.std.proofs.Math.Dec.{ltb}
use borrow.Author.Tests.{lt-ltb}
use Rattle.lists.specs.Lists.{keep, greatest, at}
use Rattle.lists.specs.Tests.{equal?}
use Rattle.lists.specs.Greatest.{member≤greatest, at≤greatest, greatest≤}
use Rattle.lists.specs.Parts.{greatest-append}
use Rattle.lists.specs.Ends.{at_map, at_suc}
use Rattle.lists.specs.Places.{at_left, at_right}
use Rattle.lists.specs.Ranges.{fails→none-kept, length-keep-map}
use Rattle.lists.specs.Tallies.{keep_same, length-keep-append}
use Rattle.channel.specs.Channel.{Channel, width, positions, highest_net, pin_count, is_net}
use Rattle.channel.specs.Answers.{Escapes}
use Rattle.channel.proofs.Laws.{net→pin}
use Rattle.panel.specs.Joined.{highest, raised, joined}
use Rattle.panel.specs.Code.{LowRow}
use Rattle.panel.specs.RaiseLaws.{raised-zero, raised-some, raised-above, raised-test}

-- no number of a list is above its highest
pub highest-rows : (ch : Channel) → highest ch ≡ max (greatest ch.top) (greatest ch.bot)
unfolding highest
highest-rows ch = greatest-append ch.top ch.bot

pub top≤highest : (ch : Channel) (c : ℕ) → at ch.top c ≤ highest ch
top≤highest ch c = let g = at≤greatest ch.top c in let e = highest-rows ch in omega arith

pub bot≤highest : (ch : Channel) (c : ℕ) → at ch.bot c ≤ highest ch
bot≤highest ch c = let g = at≤greatest ch.bot c in let e = highest-rows ch in omega arith

pub highest-is : (ch : Channel) → highest ch ≡ greatest (positions ch)
unfolding highest
highest-is ch = refl

pub member≤highest : (ch : Channel) {n : ℕ} → Memᴰ n (positions ch) → n ≤ highest ch
member≤highest ch m = let g = member≤greatest m in let e = highest-is ch in omega arith

pub low_rows : {ch : Channel} → Escapes ch → LowRow ch.top × LowRow ch.bot
low_rows {ch} esc = (
  λ k inside. let s = at_suc ch.top k in let l = (esc.low (suc k)).0 in omega arith,
  λ k inside. let s = at_suc ch.bot k in let l = (esc.low (suc k)).1 in omega arith,
)

pub highest-low : {ch : Channel} → Escapes ch → highest ch ≤ highest_net
highest-low {ch} esc =
    let e = highest-rows ch in
    let low = esc.low in
    let a = greatest≤ ch.top highest_net (λ k. let s = at_suc ch.top k in let l = (low (suc k)).0 in omega arith) in
    let b = greatest≤ ch.bot highest_net (λ k. let s = at_suc ch.bot k in let l = (low (suc k)).1 in omega arith) in
    omega arith

pub net≤highest : (ch : Channel) → length ch.bot ≡ width ch → (n : ℕ) → T (is_net ch n) → n ≤ highest ch
net≤highest ch even n net =
    let p = net→pin ch n even net in
    ⊎_elim (λ e. let g = top≤highest ch p.0 in omega arith) (λ e. let g = bot≤highest ch p.0 in omega arith)
    p.1.pin

-- 0 names no net
no-net : (ch : Channel) → is_net ch 0 ≡ false
unfolding is_net
no-net ch = refl

module _ (ch dh : Channel) where
  abbrev both : Channel
  both = joined ch dh

  abbrev up : ℕ → ℕ
  up = raised (highest ch)

  pub width-both : width both ≡ width ch + width dh
  unfolding joined
  width-both = length-append ch.top (map up dh.top) ∙ ap (λ (k : ℕ). width ch + k) (length-map dh.top up)

  pub top-first : (c : ℕ) → c ≤ width ch → at both.top c ≡ at ch.top c
  unfolding joined
  top-first c h = at_left ch.top (map up dh.top) c h

  pub top-second : (c : ℕ) → 0 < c → at both.top (width ch + c) ≡ up (at dh.top c)
  unfolding joined
  top-second c h = at_right ch.top (map up dh.top) c h ∙ at_map up (raised-zero (highest ch)) dh.top c

  -- a row that has a number of the first list, or of the second, has none of the other
  none-raised : (n : ℕ) → 0 < n → n ≤ highest ch → (row : List ℕ) → length (keep (eqb n) (map up row)) ≡ 0
  none-raised n some low row =
      length-keep-map (eqb n) up row ∙ ap length (fails→none-kept (λ x. eqb n (up x)) row
      (λ x m t. let e = eqb→eq n (up x) t in let r = raised-above (highest ch) x (omega arith) in
      let a = r.0 in omega arith))

  none_below : (n : ℕ) → 0 < n → (row : List ℕ) → greatest row ≤ highest ch → length (keep (eqb (up n)) row) ≡ 0
  none_below n some row low =
      ap length (fails→none-kept (eqb (up n)) row (λ x m t. let e = eqb→eq (up n) x t in
      let g = member≤greatest m in let r = raised-some (highest ch) n some in omega arith))

  as-raised : (n : ℕ) (row : List ℕ) → length (keep (eqb (up n)) (map up row)) ≡ length (keep (eqb n) row)
  as-raised n row =
      length-keep-map (eqb (up n)) up row
      ∙ ap length (keep_same (λ x. eqb (up n) (up x)) (eqb n) row (λ x m. raised-test (highest ch) n x))

  -- the pins of a number are those of the four rows
  four-rows : (n : ℕ) → pin_count both n
      ≡ (length (keep (eqb n) ch.top) + length (keep (eqb n) (map up dh.top)))
      + (length (keep (eqb n) ch.bot) + length (keep (eqb n) (map up dh.bot)))
  unfolding pin_count joined
  four-rows n =
      let rows = length-keep-append (eqb n) both.top both.bot in
      let tops = length-keep-append (eqb n) ch.top (map up dh.top) in
      let bots = length-keep-append (eqb n) ch.bot (map up dh.bot) in
      omega arith

  pub count-first : (n : ℕ) → 0 < n → n ≤ highest ch → pin_count both n ≡ pin_count ch n
  unfolding pin_count
  count-first n some low =
      let all = four-rows n in
      let tops = none-raised n some low dh.top in
      let bots = none-raised n some low dh.bot in
      let own = length-keep-append (eqb n) ch.top ch.bot in
      omega arith

  pub count-second : (n : ℕ) → 0 < n → pin_count both (up n) ≡ pin_count dh n
  unfolding pin_count
  count-second n some =
      let all = four-rows (up n) in
      let e = highest-rows ch in
      let tops = none_below n some ch.top (omega arith) in
      let bots = none_below n some ch.bot (omega arith) in
      let raised-tops = as-raised n dh.top in
      let raised-bots = as-raised n dh.bot in
      let own = length-keep-append (eqb n) dh.top dh.bot in
      omega arith

  pub net-first : (n : ℕ) → n ≤ highest ch → is_net both n ≡ is_net ch n
  unfolding is_net
  net-first n low =
      ⊎_elim (λ z. rw z refl) (λ some. ap (λ (k : ℕ). ltb 0 n && ltb 1 k) (count-first n (omega (arith, some)) low))
      (equal? n 0)

  net-raised : (n : ℕ) → 0 < n → is_net both (up n) ≡ is_net dh n
  unfolding is_net
  net-raised n some =
      let e = raised-some (highest ch) n some in
      let above : 0 < up n = omega arith in
      rw (count-second n some, lt-ltb 0 n some, lt-ltb 0 (up n) above)

  pub net-second : (n : ℕ) → is_net both (up n) ≡ is_net dh n
  net-second n =
      ⊎_elim (λ z. ap (λ (k : ℕ). is_net both (up k)) z ∙ (ap (is_net both) (raised-zero (highest ch))
      ∙ (no-net both ∙ sym (ap (is_net dh) z ∙ no-net dh)))) (λ some. net-raised n (omega (arith, some))) (equal? n 0)

  module _ (even : length ch.bot ≡ width ch) where
    pub bot-first : (c : ℕ) → c ≤ width ch → at both.bot c ≡ at ch.bot c
    unfolding joined
    bot-first c h = at_left ch.bot (map up dh.bot) c (omega arith)

    pub bot-second : (c : ℕ) → 0 < c → at both.bot (width ch + c) ≡ up (at dh.bot c)
    unfolding joined
    bot-second c h =
        ap (λ (w : ℕ). at both.bot (w + c)) (sym even)
        ∙ (at_right ch.bot (map up dh.bot) c h ∙ at_map up (raised-zero (highest ch)) dh.bot c)
