-- A net has on a panel the pin columns that it has alone, those of the second list moved on by the width of the first;
-- so its first and last column are moved, and the nets directly below it are those that it has alone.
use Rattle.std.specs.Prelude.{ℕ, ◌+◌, ◌≤◌, ◌<◌, ◌≡◌, Bool, length, eqb}
use Rattle.std.proofs.Common.{arith, sym, ◌∙◌}
use Rattle.std.proofs.Math.Path.{ap}
use mathlib.Core.List.{List, map, map-map, Memᴰ}
use Rattle.std.proofs.Math.Logic.{⊎_elim}
use Rattle.std.proofs.Math.Dec.{T, eqb→eq}
use Rattle.lists.specs.Lists.{keep, up_to, head_or, last_or, at}
use Rattle.lists.specs.Tests.{and_left, and_right, or_cases}
use Rattle.lists.specs.Members.{keep-member, up_to-member}
use Rattle.lists.specs.Parts.{keep-former, keep-latter, head-map, last-map}
use Rattle.lists.specs.Tallies.{keep_same}
use Rattle.lists.specs.Updates.{map_same}
use Rattle.channel.specs.Channel.{Channel, width, is_net, stands, has_pin, pin_columns, first_column, last_column}
use Rattle.channel.specs.Constraints.{above, Drop, drops, below}
use Rattle.channel.proofs.Laws.{net→pin, net-positive, in-pin-columns}
use Rattle.panel.specs.Joined.{highest, raised, joined}
use Rattle.panel.specs.RaiseLaws.{raised-some, raised-above, raised-test}
use Rattle.panel.proofs.JoinLaws.{top≤highest, bot≤highest, net≤highest, width-both, net-first, net-second}
use Rattle.panel.proofs.JoinLaws.{top-first, top-second, bot-first, bot-second}

-- the column is one in which net n stands over another
abbrev over_another : Channel → ℕ → ℕ → Bool
over_another ch n c = above ch n (at ch.bot c) c

below-columns : (ch : Channel) (n : ℕ)
    → below ch n ≡ map (at ch.bot) (keep (over_another ch n) (up_to (width ch)))
unfolding drops
below-columns ch n =
    map-map {B = Drop} (λ d. d.lower) (λ c. record { column = c; lower = at ch.bot c })
    (keep (over_another ch n) (up_to (width ch)))

over→top : (ch : Channel) (n c : ℕ) → T (over_another ch n c) → at ch.top c ≡ n
unfolding above
over→top ch n c t = eqb→eq (at ch.top c) n (and_left (eqb (at ch.top c) n) _ t)

module _ (ch dh : Channel) (even : length ch.bot ≡ width ch) where
  abbrev both : Channel
  both = joined ch dh

  abbrev up : ℕ → ℕ
  up = raised (highest ch)

  abbrev on : ℕ → ℕ
  on c = width ch + c

  -- a number of the first list stands in no column of the second, and a raised one in none of the first
  not-raised : (n x : ℕ) → 0 < n → n ≤ highest ch → up x ≡ n → ⊥
  not-raised n x some low e =
      let r = raised-above (highest ch) x (omega arith) in let a = r.0 in omega arith

  not_low : (n x : ℕ) → 0 < n → x ≤ highest ch → x ≡ up n → ⊥
  not_low n x some low e = let r = raised-some (highest ch) n some in omega arith

  -- of a net of the first list
  module _ (n : ℕ) (net : T (is_net ch n)) where
    some : 0 < n
    some = net-positive ch n net

    low : n ≤ highest ch
    low = net≤highest ch even n net

    columns-first : pin_columns both n ≡ pin_columns ch n
    unfolding pin_columns
    columns-first =
        ap (λ (w : ℕ). keep (has_pin both n) (up_to w)) (width-both ch dh)
        ∙ (keep-former (has_pin both n) (width ch) (width dh) elsewhere
        ∙ keep_same (has_pin both n) (has_pin ch n) (up_to (width ch)) same)
      where
        elsewhere : (c : ℕ) → Memᴰ c (up_to (width dh)) → T (has_pin both n (on c)) → ⊥
        elsewhere c m t =
            let in-range = (up_to-member (width dh) m).0 in
            ⊎_elim
            (λ k. not-raised n (at dh.top c) some low
            (sym (top-second ch dh c in-range) ∙ eqb→eq (at both.top (on c)) n k))
            (λ k. not-raised n (at dh.bot c) some low
            (sym (bot-second ch dh even c in-range) ∙ eqb→eq (at both.bot (on c)) n k))
            (or_cases (eqb (at both.top (on c)) n) (eqb (at both.bot (on c)) n)
            (and_right (is_net both n) (stands both n (on c)) t))

        same : (c : ℕ) → Memᴰ c (up_to (width ch)) → has_pin both n c ≡ has_pin ch n c
        same c m =
            let within = (up_to-member (width ch) m).1 in
            rw (net-first ch dh n low, top-first ch dh c within, bot-first ch dh even c within)

    pub first-first : first_column both n ≡ first_column ch n
    unfolding first_column
    first-first = ap (head_or 0) columns-first

    pub last-first : last_column both n ≡ last_column ch n
    unfolding last_column
    last-first = ap (last_or 0) columns-first

    over_first : (c : ℕ) → c ≤ width ch → over_another both n c ≡ over_another ch n c
    unfolding above
    over_first c within =
        rw (
          top-first ch dh c within,
          bot-first ch dh even c within,
          net-first ch dh n low,
          net-first ch dh (at ch.bot c) (bot≤highest ch c),
        )

    pub below-first : below both n ≡ below ch n
    below-first =
        below-columns both n
        ∙ (ap (λ (w : ℕ). map (at both.bot) (keep (over_another both n) (up_to w))) (width-both ch dh)
        ∙ (ap (map (at both.bot)) (keep-former (over_another both n) (width ch) (width dh) elsewhere
        ∙ keep_same (over_another both n) (over_another ch n) (up_to (width ch))
        (λ c m. over_first c (up_to-member _ m).1))
        ∙ (map_same (at both.bot) (at ch.bot) (keep (over_another ch n) (up_to (width ch)))
        (λ c m. bot-first ch dh even c (up_to-member _ (keep-member (over_another ch n) (up_to (width ch)) m).0).1)
        ∙ sym (below-columns ch n))))
      where
        elsewhere : (c : ℕ) → Memᴰ c (up_to (width dh)) → T (over_another both n (on c)) → ⊥
        elsewhere c m t =
            not-raised n (at dh.top c) some low
            (sym (top-second ch dh c (up_to-member (width dh) m).0) ∙ over→top both n (on c) t)

  over-second : (n c : ℕ) → 0 < c → over_another both (up n) (on c) ≡ over_another dh n c
  unfolding above
  over-second n c inside =
      let top = top-second ch dh c inside in
      let bot = bot-second ch dh even c inside in
      rw (
        top,
        bot,
        raised-test (highest ch) (at dh.top c) n,
        raised-test (highest ch) (at dh.bot c) (at dh.bot c),
        net-second ch dh n,
        net-second ch dh (at dh.bot c),
        raised-test (highest ch) n (at dh.bot c),
      )

  -- of a net of the second list
  module _ (n : ℕ) (net : T (is_net dh n)) where
    columns-second : pin_columns both (up n) ≡ map on (pin_columns dh n)
    unfolding pin_columns
    columns-second =
        ap (λ (w : ℕ). keep (has_pin both (up n)) (up_to w)) (width-both ch dh)
        ∙ (keep-latter (has_pin both (up n)) (width ch) (width dh) elsewhere
        ∙ ap (map on) (keep_same (λ c. has_pin both (up n) (on c)) (has_pin dh n) (up_to (width dh)) same))
      where
        elsewhere : (c : ℕ) → Memᴰ c (up_to (width ch)) → T (has_pin both (up n) c) → ⊥
        elsewhere c m t =
            let positive = net-positive dh n net in
            let within = (up_to-member (width ch) m).1 in
            ⊎_elim
            (λ k. not_low n (at ch.top c) positive (top≤highest ch c)
            (sym (top-first ch dh c within) ∙ eqb→eq (at both.top c) (up n) k))
            (λ k. not_low n (at ch.bot c) positive (bot≤highest ch c)
            (sym (bot-first ch dh even c within) ∙ eqb→eq (at both.bot c) (up n) k))
            (or_cases (eqb (at both.top c) (up n)) (eqb (at both.bot c) (up n))
            (and_right (is_net both (up n)) (stands both (up n) c) t))

        same : (c : ℕ) → Memᴰ c (up_to (width dh)) → has_pin both (up n) (on c) ≡ has_pin dh n c
        same c m =
            let inside = (up_to-member (width dh) m).0 in
            rw (
              net-second ch dh n,
              top-second ch dh c inside,
              bot-second ch dh even c inside,
              raised-test (highest ch) (at dh.top c) n,
              raised-test (highest ch) (at dh.bot c) n,
            )

    pub below-second : below both (up n) ≡ map up (below dh n)
    below-second =
        below-columns both (up n)
        ∙ (ap (λ (w : ℕ). map (at both.bot) (keep (over_another both (up n)) (up_to w))) (width-both ch dh)
        ∙ (ap (map (at both.bot)) (keep-latter (over_another both (up n)) (width ch) (width dh) elsewhere
        ∙ ap (map on) (keep_same (λ c. over_another both (up n) (on c)) (over_another dh n) (up_to (width dh))
        (λ c m. over-second n c (up_to-member _ m).0)))
        ∙ (map-map (at both.bot) on kept-columns
        ∙ (map_same (λ c. at both.bot (on c)) (λ c. up (at dh.bot c)) kept-columns
        (λ c m. bot-second ch dh even c (up_to-member _ (keep-member (over_another dh n) (up_to (width dh)) m).0).0)
        ∙ (sym (map-map up (at dh.bot) kept-columns) ∙ ap (map up) (sym (below-columns dh n)))))))
      where
        kept-columns : List ℕ
        kept-columns = keep (over_another dh n) (up_to (width dh))

        elsewhere : (c : ℕ) → Memᴰ c (up_to (width ch)) → T (over_another both (up n) c) → ⊥
        elsewhere c m t =
            not_low n (at ch.top c) (net-positive dh n net) (top≤highest ch c)
            (sym (top-first ch dh c (up_to-member (width ch) m).1) ∙ over→top both (up n) c t)

    module _ (even₂ : length dh.bot ≡ width dh) where
      some-column : (c : ℕ) × Memᴰ c (pin_columns dh n)
      some-column = let p = net→pin dh n even₂ net in (p.0, in-pin-columns dh n p.0 p.1)

      pub first-second : first_column both (up n) ≡ width ch + first_column dh n
      unfolding first_column
      first-second = ap (head_or 0) columns-second ∙ head-map on some-column.1

      pub last-second : last_column both (up n) ≡ width ch + last_column dh n
      unfolding last_column
      last-second = ap (last_or 0) columns-second ∙ last-map on some-column.1
