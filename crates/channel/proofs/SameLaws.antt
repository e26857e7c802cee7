-- Two channels that have the same nets, with pins in the same columns, have the same spans and the same density.
use Rattle.std.specs.Prelude.{ℕ, ◌≡◌, map}
use Rattle.std.proofs.Common.{◌∙◌}
use Rattle.std.proofs.Math.Path.{ap}
use Rattle.lists.specs.Lists.{keep, up_to, head_or, last_or}
use Rattle.lists.specs.Tallies.{keep_same}
use Rattle.lists.specs.Updates.{map_same}
use Rattle.channel.specs.Channel.{Channel, width, is_net, has_pin, pin_columns, first_column, last_column, nets}
use Rattle.channel.specs.Channel.{has_span, spanning}
use Rattle.channel.specs.Density.{Span, spans_of, density}

pub record SamePins (ch dh : Channel) : Type 0 where
  pub wide : width ch ≡ width dh
  pub net : (n : ℕ) → is_net ch n ≡ is_net dh n
  pub pin : (n c : ℕ) → has_pin ch n c ≡ has_pin dh n c

module _ {ch dh : Channel} (same : SamePins ch dh) where
  same-columns : (n : ℕ) → pin_columns ch n ≡ pin_columns dh n
  unfolding pin_columns
  same-columns n =
      ap (λ (w : ℕ). keep (has_pin ch n) (up_to w)) same.wide
      ∙ keep_same (has_pin ch n) (has_pin dh n) (up_to (width dh)) (λ c m. same.pin n c)

  pub same_first : (n : ℕ) → first_column ch n ≡ first_column dh n
  unfolding first_column
  same_first n = ap (head_or 0) (same-columns n)

  pub same-last : (n : ℕ) → last_column ch n ≡ last_column dh n
  unfolding last_column
  same-last n = ap (last_or 0) (same-columns n)

  pub same-nets : nets ch ≡ nets dh
  unfolding nets
  same-nets = keep_same (is_net ch) (is_net dh) _ (λ n m. same.net n)

  pub same-spanning : spanning ch ≡ spanning dh
  unfolding spanning has_span
  same-spanning =
      ap (keep (has_span ch)) same-nets
      ∙ keep_same (has_span ch) (has_span dh) (nets dh) (λ n m. rw (same_first n, same-last n))

  same-spans : spans_of ch ≡ spans_of dh
  unfolding spans_of
  same-spans =
      ap (map (λ n. record { first = first_column ch n; last = last_column ch n })) same-spanning
      ∙ map_same {B = Span} (λ n. record { first = first_column ch n; last = last_column ch n })
      (λ n. record { first = first_column dh n; last = last_column dh n }) (spanning dh)
      (λ n m. rw (same_first n, same-last n))

  pub same-density : density ch ≡ density dh
  unfolding density
  same-density = rw (same-spans, same.wide)
