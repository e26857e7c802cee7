-- How many pieces a drawing has. A net draws at most one trunk and two pieces for each of its pin columns, and a column
-- is a pin column of at most two nets.
use Rattle.std.specs.Prelude.{ℕ, ◌+◌, ◌*◌, ◌≤◌, refl, List, Bool, cond}
use native.Mathlib.Omega.{arith}
use Rattle.std.proofs.Math.Bool.{true, false}
use Rattle.std.proofs.Math.ListN.{length}
use Rattle.lists.specs.Lists.{keep, each, up_to, at}
use Rattle.lists.specs.Tests.{T→true}
use Rattle.lists.specs.Ranges.{length-each}
use Rattle.lists.specs.Tallies.{keep_same}
use Rattle.lists.specs.Places.{length_from}
use Rattle.lists.specs.Eaches.{length-each-most, count-both-ways, at_most_two}
use Rattle.channel.specs.Channel.{Channel, width, is_net, stands, has_pin, pin_columns, nets, has_span}
use Rattle.channel.specs.Answers.{Escapes}
use Rattle.channel.proofs.SpanLaws.{nets→, nets-rising}
use Rattle.channel.specs.CountLaws.{nets-few}
use Rattle.leftedge.specs.Items.{Place, track_of}
use Rattle.drawing.specs.Draw.{draw_column, draw_span, draw_straight, draw_net, draw_nets, draw}

module _ (ch : Channel) where
  -- the pin columns of all nets together
  few-columns : length (each (pin_columns ch) (nets ch)) ≤ 2 * width ch
  unfolding pin_columns
  few-columns = omega (arith, count-both-ways (has_pin ch) 2 (nets ch) two (up_to (width ch)), length_from 1 (width ch))
    where
      two : (c : ℕ) → length (keep (λ n. has_pin ch n c) (nets ch)) ≤ 2
      two c =
          let few = at_most_two (at ch.top c) (at ch.bot c) (nets ch) (nets-rising ch) in
          rw (keep_same (λ n. has_pin ch n c) (λ n. stands ch n c) (nets ch)
          (λ n m. rw (T→true (is_net ch n) (nets→ ch n m).is_net))) few

  net-draws : (t k n : ℕ) → length (draw_net ch t k n) ≤ 1 + 2 * length (pin_columns ch n)
  unfolding draw_net draw_span draw_straight draw_column
  net-draws t k n = go (has_span ch n)
    where
      go : (b : Bool) → length (cond b (draw_span ch t k n) (draw_straight ch t n)) ≤ 1 + 2 * length (pin_columns ch n)
      go true = omega (arith, length-each 2 (draw_column ch t k n) (pin_columns ch n) (λ c. refl))
      go false = omega arith

-- 511 trunks, and two pieces for each of 1,024 pin columns; whichever tracks the trunks lie on
pub few-pieces : (ch : Channel) (t : ℕ) (on : ℕ → ℕ) → Escapes ch → length (draw_nets ch t on) ≤ 2559
few-pieces ch t on esc =
    let narrow = esc.narrow in
    let most = length-each-most 2 (λ n. draw_net ch t (on n) n) (pin_columns ch) in
    omega (arith, nets-few ch, few-columns ch, most (nets ch) (λ n. net-draws ch t (on n) n))

pub drawn-pieces : (ch : Channel) (t : ℕ) (ps : List Place) → Escapes ch → length (draw ch t ps).pieces ≤ 2559
unfolding draw
drawn-pieces ch t ps esc = few-pieces ch t (track_of ps) esc
