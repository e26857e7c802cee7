-- Numbers over 511 are kept as 512: rows so kept are refused exactly as the rows themselves, and rows that are accepted
-- are kept as they are.
use Rattle.std.specs.Prelude.{ℕ, zero, suc, ◌≤◌, ◌≡◌, refl, Bool, length, ltb}
use Rattle.std.proofs.Common.{arith, sym, ◌∙◌, ap, ap₂, lt→ltb, lt-ltb, le-ltb}
use Rattle.std.proofs.Math.Decide.{dec_le}
use Rattle.std.proofs.Math.Path.{fun_ext}
use mathlib.Core.List.Memᴰ
use mathlib.Core.List.{
  List,
  [],
  ◌∷◌,
  map,
  map-append,
  Memᴰ,
}
use Rattle.std.proofs.Math.Option.{Option, none, some}
use Rattle.std.proofs.lemmas.List.{length-map}
use Rattle.std.proofs.Math.ListN.{get_or-map}
use Rattle.lists.specs.Lists.{keep, up_to, at}
use Rattle.lists.specs.Members.{in-up_to}
use Rattle.lists.specs.Ends.{at_suc, member-at}
use Rattle.lists.specs.Ranges.{none-kept→fails}
use Rattle.refusal.specs.declared.Refusal.{Refusal}
use Rattle.refusal.specs.declared.Refusal.TheVariants.{HighNet}
use Rattle.refusal.specs.Refusals.{refuse_at_first, ◌or_else◌}
use Rattle.refusal.specs.ChainLaws.{refuse-at-first-none, or_else_none}
use Rattle.channel.specs.Channel.{Channel, positions, highest_net, rows}
use Rattle.channel.specs.Answers.{too_wide, uneven, high_net, rows_refusal}
use Rattle.pinlist.specs.Code.{kept}

abbrev pub kept_channel : Channel → Channel
kept_channel ch = rows (map kept ch.top) (map kept ch.bot)

-- refusal 5 over the numbers of all positions
abbrev high : List ℕ → ℕ → Bool
high ns p = ltb highest_net (at ns p)

abbrev high_among : List ℕ → Option Refusal
high_among ns = refuse_at_first HighNet (keep (high ns) (up_to (length ns)))

kept_at : (ns : List ℕ) (p : ℕ) → at (map kept ns) p ≡ kept (at ns p)
unfolding at
kept_at ns zero = refl
kept_at ns (suc i) = get_or-map kept ns i 0

kept_high : (n : ℕ) → ltb highest_net (kept n) ≡ ltb highest_net n
kept_high n =
    elim (dec_le n highest_net) [
      | yes h ↦ le-ltb highest_net (kept n) (omega arith) ∙ sym (le-ltb highest_net n h)
      | no h ↦ lt-ltb highest_net (kept n) (omega arith) ∙ sym (lt-ltb highest_net n (omega arith))
    ]

high_same : (ns : List ℕ) → high_among (map kept ns) ≡ high_among ns
high_same ns =
    rw (length-map ns kept)
    (ap (λ (f : ℕ → Bool). refuse_at_first HighNet (keep f (up_to (length ns))))
    (fun_ext (λ p. ap (ltb highest_net) (kept_at ns p) ∙ kept_high (at ns p))))

low-member : (ns : List ℕ) → high_among ns ≡ none → (n : ℕ) → Memᴰ n ns → n ≤ highest_net
low-member ns e n m =
    let r = member-at m in
    let q = at_suc ns r.0 ∙ r.2 in
    let empty = refuse-at-first-none HighNet (keep (high ns) (up_to (length ns))) e in
    let here = in-up_to (length ns) (suc r.0) (omega arith) r.1 in
    elim (dec_le n highest_net) [
      | yes h ↦ h
      | no h ↦ absurd (none-kept→fails (high ns) empty here (lt→ltb highest_net (at ns (suc r.0)) (omega arith)))
    ]

kept_same : (ns : List ℕ) → ((n : ℕ) → Memᴰ n ns → n ≤ highest_net) → map kept ns ≡ ns
kept_same [] h = refl
kept_same (n ∷ ns) h =
    let l = h n (Memᴰ.head refl) in
    ap₂ (λ (m : ℕ) (ms : List ℕ). m ∷ ms) (omega arith) (kept_same ns (λ m k. h m (Memᴰ.tail k)))

rows_same : (ch : Channel) → high_net ch ≡ none → kept_channel ch ≡ ch
unfolding high_net
rows_same ch e =
    let low = low-member (positions ch) e in
    ap₂ rows (kept_same ch.top (λ n m. low n (Memᴰ.append_left ch.bot m)))
    (kept_same ch.bot (λ n m. low n (Memᴰ.append_right ch.top m)))

high-net-same : (ch : Channel) → high_net (kept_channel ch) ≡ high_net ch
unfolding high_net
high-net-same ch = ap high_among (sym (map-append kept ch.top ch.bot)) ∙ high_same (positions ch)

too-wide-same : (ch : Channel) → too_wide (kept_channel ch) ≡ too_wide ch
unfolding too_wide
too-wide-same ch = simp length-map

uneven-same : (ch : Channel) → uneven (kept_channel ch) ≡ uneven ch
unfolding uneven
uneven-same ch = simp length-map

pub kept-refusal : (ch : Channel) → rows_refusal (kept_channel ch) ≡ rows_refusal ch
unfolding rows_refusal ◌or_else◌
kept-refusal ch = go (high_net ch) refl
  where
    go : (o : Option Refusal) → high_net ch ≡ o → rows_refusal (kept_channel ch) ≡ rows_refusal ch
    go none e = ap rows_refusal (rows_same ch e)
    go (some r) e = rw (too-wide-same ch, uneven-same ch, high-net-same ch, e)

pub accepted-same : (ch : Channel) → rows_refusal ch ≡ none → kept_channel ch ≡ ch
unfolding rows_refusal
accepted-same ch e =
    let a = or_else_none (too_wide ch) (uneven ch or_else high_net ch) e in
    rows_same ch (or_else_none (uneven ch) (high_net ch) a.1).1
