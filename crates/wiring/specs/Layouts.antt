-- SCOPE, "Wiring rule": what is joined in a layout, when it is good, and which trunks are a net's.
use Rattle.std.specs.Prelude.{ℕ, ◌≡◌, ◌↔◌}
use mathlib.Core.List.{Memᴰ}
use Rattle.std.proofs.Math.Option.{some}
use Rattle.std.proofs.Math.ListN.{get_elem?}
use Rattle.grid.specs.declared.Piece.{Piece}
use Rattle.grid.specs.Pieces.{kind_of, trunk_kind, OnGrid, Layout}
use Rattle.grid.specs.Touching.{Touch}
use Rattle.channel.specs.Channel.{Channel, width}
use Rattle.wiring.specs.Pins.{Pin, net_of, IsPin, PinTouch}

-- what can touch: pins and pieces
pub data Element : Type 0 where
  pin : Pin → Element
  copper : Piece → Element

-- the elements of a channel's layout
unfoldable pub Present : Channel → Layout → Element → Type 0
Present ch l (pin x) = IsPin ch x
Present ch l (copper p) = Memᴰ p l.pieces

unfoldable pub Touching : ℕ → Element → Element → Type 0
Touching t (pin x) (pin y) = ⊥
Touching t (pin x) (copper q) = PinTouch t x q
Touching t (copper p) (pin y) = PinTouch t y p
Touching t (copper p) (copper q) = Touch p q

-- "Joined means linked by a chain of touches; a pin is joined to itself"
pub data Joined (ch : Channel) (l : Layout) : Element → Element → Type 0 where
  itself : {x : Element} → Joined ch l x x
  link : {x y z : Element} → Touching l.tracks x y → Present ch l y → Joined ch l y z → Joined ch l x z

-- "any list of pieces on that grid"
abbrev pub AllOnGrid : Channel → Layout → Type 0
AllOnGrid ch l = (p : Piece) → Memᴰ p l.pieces → OnGrid (width ch) l.tracks p

-- "A layout is good when two pins are joined exactly if they carry one net number and every piece is joined to some
-- pin"
pub record Good (ch : Channel) (l : Layout) : Type 0 where
  pub on_grid : AllOnGrid ch l
  pub joins : (x y : Pin) → IsPin ch x → IsPin ch y → Joined ch l (pin x) (pin y) ↔ (net_of ch x ≡ net_of ch y)
  pub floats : (p : Piece) → Memᴰ p l.pieces → (x : Pin) × IsPin ch x × Joined ch l (copper p) (pin x)

-- "A piece belongs to the net whose pins it is joined to .. and each trunk in the list is one trunk piece of its net":
-- the piece in place i of the list is a trunk piece of net n
pub record TrunkOf (ch : Channel) (l : Layout) (n i : ℕ) : Type 0 where
  pub piece : Piece
  pub place : get_elem? l.pieces i ≡ some piece
  pub trunk : kind_of piece ≡ trunk_kind
  pub pin_of : Pin
  pub is_pin : IsPin ch pin_of
  pub net : net_of ch pin_of ≡ n
  pub joined : Joined ch l (copper piece) (pin pin_of)

-- "at most one trunk piece per net"
abbrev pub OneTrunkEach : Channel → Layout → Type 0
OneTrunkEach ch l = (n i j : ℕ) → TrunkOf ch l n i → TrunkOf ch l n j → i ≡ j
