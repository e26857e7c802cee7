-- Being a net, having a pin in a column, and lying over a column: what contracts
-- and laws of other crates say of a net.
use Rattle.std.specs.Prelude.{ℕ, ◌≤◌, ◌<◌, ◌≡◌, ◌⊎◌, T}
use mathlib.Core.List.{List, Memᴰ}
use Rattle.lists.specs.Lists.{keep, at, within}
use Rattle.channel.specs.Channel.{Channel, width, highest_net, is_net, first_column, last_column, spanning}

-- a net has a number of 1 to 511 that is routed
pub record IsNet (ch : Channel) (n : ℕ) : Type 0 where
  pub is_net : T (is_net ch n)
  pub positive : 0 < n
  pub low : n ≤ highest_net

-- column c holds a pin of net n
pub record PinIn (ch : Channel) (n c : ℕ) : Type 0 where
  pub net : T (is_net ch n)
  pub first : 1 ≤ c
  pub last : c ≤ width ch
  pub pin : (at ch.top c ≡ n) ⊎ (at ch.bot c ≡ n)

-- the nets whose spans hold column c
unfoldable pub nets_over : Channel → ℕ → List ℕ
nets_over ch c = keep (λ n. within (first_column ch n) c (last_column ch n)) (spanning ch)

pub record Over (ch : Channel) (c n : ℕ) : Type 0 where
  pub spans : Memᴰ n (spanning ch)
  pub begins : first_column ch n ≤ c
  pub ends : c ≤ last_column ch n
