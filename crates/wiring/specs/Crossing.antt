-- Crossing: a chain from the left of a column boundary to its right has a trunk over the boundary, since only a trunk
-- covers two columns.
use Rattle.std.specs.Prelude.{ℕ, ◌≤◌, ◌<◌, ◌≡◌}
use Rattle.std.proofs.Common.{arith}
use Rattle.std.proofs.Math.Decide.{dec_le}
use mathlib.Core.List.{Memᴰ}
use Rattle.std.proofs.Math.Logic.{⊎_elim}
use Rattle.lists.specs.Tests.{equal?}
use Rattle.grid.specs.declared.Piece.{Piece}
use Rattle.grid.specs.Pieces.{kind_of, trunk_kind, left, right, Layout}
use Rattle.grid.proofs.TouchLaws.{one-column}
use Rattle.channel.specs.Channel.{Channel}
use Rattle.wiring.specs.Pins.{column_of}
use Rattle.wiring.specs.Layouts.{Element, pin, copper, Present, Touching, Joined, itself, link}
use Rattle.wiring.specs.Chains.{joined_snoc}

-- the first and the last column of an element
unfoldable pub left_of : Element → ℕ
left_of (pin x) = column_of x
left_of (copper p) = left p

unfoldable pub right_of : Element → ℕ
right_of (pin x) = column_of x
right_of (copper p) = right p

-- two elements that touch have a column in common
touching-columns : (t : ℕ) (u v : Element) → Touching t u v → left_of v ≤ right_of u
unfolding Touching left_of right_of
touching-columns t (pin x) (pin y) h = absurd h
touching-columns t (pin x) (copper q) h = h.covered.from_left
touching-columns t (copper p) (pin y) h = h.covered.to_right
touching-columns t (copper p) (copper q) h = let a = h.covers₁ in let b = h.covers₂ in omega arith

module _ (ch : Channel) (l : Layout) where
  -- a trunk of the layout that covers columns c and c + 1
  pub record TrunkOver (u : Element) (c : ℕ) : Type 0 where
    pub trunk : Piece
    pub is_trunk : kind_of trunk ≡ trunk_kind
    pub present : Memᴰ trunk l.pieces
    pub begins : left trunk ≤ c
    pub ends : c < right trunk
    pub joined : Joined ch l u (copper trunk)

  spans-two : (u v : Element) (c : ℕ) → Present ch l v → left_of v ≤ c → c < right_of v → Joined ch l u v → TrunkOver u c
  unfolding Present left_of right_of
  spans-two u (pin x) c p h k j = absurd (omega arith)
  spans-two u (copper q) c p h k j =
      ⊎_elim (λ t. record { trunk = q; is_trunk = t; present = p; begins = h; ends = k; joined = j })
      (λ nt. let e = one-column q nt in absurd (omega arith)) (equal? (kind_of q) trunk_kind)

  along : {u v z : Element} (c : ℕ) → Joined ch l u v → Joined ch l v z → right_of v ≤ c → c < right_of z → TrunkOver u c
  along c j itself h k = absurd (omega arith)
  along {u} c j (link {x = v} {y = w} t p r) h k =
      let m = touching-columns l.tracks v w t in
      let further = joined_snoc j t p in
      elim (dec_le (right_of w) c) [
        | yes less ↦ along c further r less k
        | no more ↦
            spans-two u w c p (omega arith) (omega arith) further
      ]

  pub crossing : {u z : Element} (c : ℕ) → Joined ch l u z → right_of u ≤ c → c < right_of z → TrunkOver u c
  crossing c j h k = along c itself j h k
