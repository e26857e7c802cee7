-- The removal of the parked pins by counts: a number of the rows but 0 that is counted just once is parked.
use Prim.Native.Nat.{ℕ, zero, suc, ◌+◌, ◌≤◌, ◌<◌}
use Rattle.std.proofs.Common.{arith, ◌∙◌, ap, ap₂, subst, ⊎_elim, length-append, eq-eqb, ne_eqb, lt-ltb}
use Rattle.std.specs.Prelude.{◌≡◌, Bool, ◌&&◌, ltb, eqb, length, get_or, take, drop, set}
use Rattle.std.proofs.Math.Path.{refl, sym}
use mathlib.Core.List.{List, Memᴰ}
use Rattle.std.proofs.Math.Bool.{true, false, cond}
use Rattle.std.proofs.lemmas.List.{length-map}
use Rattle.std.proofs.Math.Seq.{take-append_seam}
use Rattle.lists.specs.Lists.{overlay}
use Rattle.lists.specs.Tests.{equal?}
use Rattle.lists.specs.Ends.{at_suc, at_map, member-at}
use Rattle.lists.specs.Counts.{tally}
use Rattle.lists.specs.Overlays.{copied_next, copied-whole}
use Rattle.lists.specs.Updates.{map_same}
use Rattle.channel.specs.Channel.{Channel, rows, width, highest_net, pin_count, is_parked, unless_parked}
use Rattle.channel.specs.Channel.{without_parked}
use Rattle.channel.specs.Answers.{Escapes}
use Rattle.channel.specs.Rows.{first_high, unless_once, nets_of_row}
use Rattle.channel.specs.Parked.{NetsOnly, ParkedRemoved}
use Rattle.channel.proofs.ShownLaws.{width-shown, escapes-shown, only-shown}
use Rattle.channel.specs.RowLaws.{zeros, pins-counted, no-first-high, found-no-high}
use Rattle.channel.proofs.EscapeLaws.{top-low, bot-low}

module _ (counts : List ℕ) where
  pub counted-once : (n : ℕ) → get_or counts n 0 ≡ 1 → 0 ≡ unless_once counts n
  unfolding unless_once
  counted-once n e = rw (eq-eqb (get_or counts n 0) 1 e)

  pub not-once : (n : ℕ) → (get_or counts n 0 ≡ 1 → ⊥) → n ≡ unless_once counts n
  unfolding unless_once
  not-once n h = rw (ne_eqb (get_or counts n 0) 1 h)

  zero-stays : unless_once counts 0 ≡ 0
  zero-stays = ⊎_elim (λ e. sym (counted-once 0 e)) (λ h. sym (not-once 0 h)) (equal? (get_or counts 0 0) 1)

  -- what is stored for place i of a row
  module _ (row : List ℕ) where
    stored_at : (i : ℕ) → get_or (nets_of_row counts row) i 0 ≡ unless_once counts (get_or row i 0)
    stored_at i =
        sym (at_suc (nets_of_row counts row) i)
        ∙ (at_map (unless_once counts) zero-stays row (suc i) ∙ ap (unless_once counts) (at_suc row i))

    pub kept_next : (kept kept₀ : List ℕ) (i v : ℕ) → i < length row → length row ≤ length kept₀
        → kept ≡ overlay (take i (nets_of_row counts row)) kept₀ → v ≡ unless_once counts (get_or row i 0)
        → set kept i v ≡ overlay (take (i + 1) (nets_of_row counts row)) kept₀
    kept_next kept kept₀ i v h long e q =
        let same = length-map row (unless_once counts) in
        ap (set kept i) (q ∙ sym (stored_at i))
        ∙ copied_next (nets_of_row counts row) kept₀ i 0 (omega arith) (omega arith) e

    pub kept_whole : (kept kept₀ : List ℕ) (i : ℕ) → length row ≤ i
        → kept ≡ overlay (take i (nets_of_row counts row)) kept₀ → kept ≡ overlay (nets_of_row counts row) kept₀
    kept_whole kept kept₀ i h e =
        let same = length-map row (unless_once counts) in
        copied-whole (nets_of_row counts row) kept₀ i (omega arith) e

module _ (ch : Channel) (esc : Escapes ch) where
  pub top_within : first_high ch.top ≡ 0
  top_within = found-no-high ch.top (no-first-high ch.top (λ k h. top-low ch k esc))

  pub bot-within : first_high ch.bot ≡ 0
  bot-within = found-no-high ch.bot (no-first-high ch.bot (λ k h. bot-low ch k esc))

  -- both rows counted from nothing
  abbrev pub counted : List ℕ
  counted = tally ch.bot (tally ch.top zeros)

  pub low-member : {n : ℕ} (row : List ℕ) → ((k : ℕ) → get_or row k 0 ≤ highest_net) → Memᴰ n row → n ≤ highest_net
  low-member row low m = let r = member-at m in let h = low r.0 in let e = r.2 in omega arith

  -- a number of the rows is removed exactly if it is parked
  left-alike : (n : ℕ) → n ≤ highest_net → unless_once counted n ≡ unless_parked ch n
  unfolding unless_once unless_parked is_parked
  left-alike n low = rw (pins-counted ch top_within bot-within n (omega arith)) (go n (eqb (pin_count ch n) 1))
    where
      go : (k : ℕ) (once : Bool) → cond once 0 k ≡ cond (ltb 0 k && once) 0 k
      go zero true = refl
      go zero false = refl
      go (suc k) once = sym (rw (lt-ltb 0 (suc k) (omega arith)))

  pub tops-left : nets_of_row counted ch.top ≡ (without_parked ch).top
  unfolding without_parked
  tops-left =
      map_same (unless_once counted) (unless_parked ch) ch.top
      (λ n m. left-alike n (low-member ch.top (λ k. top-low ch k esc) m))

  pub bots-left : nets_of_row counted ch.bot ≡ (without_parked ch).bot
  unfolding without_parked
  bots-left =
      map_same (unless_once counted) (unless_parked ch) ch.bot
      (λ n m. left-alike n (low-member ch.bot (λ k. bot-low ch k esc) m))

  -- the front of the rows that `remove_parked` leaves is the channel without its parked pins
  pub left-rows : {top bot top' bot' : List ℕ} → ParkedRemoved ch top bot top' bot'
      → rows (take (width ch) top') (take (width ch) bot') ≡ without_parked ch
  left-rows {top} {bot} h =
      let shown = escapes-shown ch esc in
      ap₂ rows (ap (take (width ch)) h.on_top ∙ front _ _ (width ch) (sym (width-shown ch)))
      (ap (take (width ch)) h.on_bot ∙ front _ _ (width ch) (sym (shown.even ∙ width-shown ch)))
    where
      front : (xs ys : List ℕ) (w : ℕ) → w ≡ length xs → take w (overlay xs ys) ≡ xs
      front xs ys w e = ap (λ (k : ℕ). take k (overlay xs ys)) e ∙ take-append_seam xs (drop (length xs) ys)

  module _ {top bot top' bot' : List ℕ} (h : ParkedRemoved ch top bot top' bot') where
    abbrev front : Channel
    front = rows (take (width ch) top') (take (width ch) bot')

    pub left-inside : (width ch ≤ length top') × (width ch ≤ length bot')
    left-inside =
        let shown = without_parked ch in
        let w = width-shown ch in
        let even = (escapes-shown ch esc).even in (
          omega (arith, ap length h.on_top, length-append shown.top (drop (length shown.top) top)),
          omega (arith, ap length h.on_bot, length-append shown.bot (drop (length shown.bot) bot)),
        )

    pub left-size : (width ch ≡ length front.top) × (width ch ≡ length front.bot)
    left-size =
        let shown = escapes-shown ch esc in (
          sym (ap (λ (k : Channel). width k) (left-rows h) ∙ width-shown ch),
          sym (ap (λ (k : Channel). length k.bot) (left-rows h) ∙ (shown.even ∙ width-shown ch)),
        )

    pub left-only : NetsOnly front
    left-only = subst NetsOnly (sym (left-rows h)) (only-shown ch esc)
