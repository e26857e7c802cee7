-- SCOPE, "Drawing": the pieces of a filled channel, in their order.
use Rattle.std.specs.Prelude.{ℕ, ◌+◌, List, [], ◌∷◌, cond, eqb}
use Rattle.lists.specs.Lists.{each, at}
use Rattle.grid.specs.declared.Piece.{Piece}
use Rattle.grid.specs.declared.Piece.TheVariants.{Trunk, Branch, Contact}
use Rattle.grid.specs.Pieces.{column, track, row, Layout}
use Rattle.channel.specs.Channel.{Channel, nets, has_span, first_column, last_column, pin_columns}
use Rattle.leftedge.specs.Items.{Place, track_of}

-- "A TOP pin's branch runs from track to t+1, a BOT pin's from 0 to track; both pins in one column give one branch 0 to
-- t+1": the branch of net n in column c, where its trunk is on track k of t
unfoldable pub branch_in : Channel → ℕ → ℕ → ℕ → ℕ → Piece
branch_in ch t k n c =
    let low = cond (eqb (at ch.bot c) n) 0 k in
    let high = cond (eqb (at ch.top c) n) (t + 1) k in
    Branch (column c) (row low) (row high)

-- "for each pin column left to right its branch and its contact"
unfoldable pub draw_column : Channel → ℕ → ℕ → ℕ → ℕ → List Piece
draw_column ch t k n c = branch_in ch t k n c ∷ (Contact (column c) (track k) ∷ [])

-- the trunk, then its columns
unfoldable pub draw_span : Channel → ℕ → ℕ → ℕ → List Piece
draw_span ch t k n =
    let trunk = Trunk (track k) (column (first_column ch n)) (column (last_column ch n)) in
    trunk ∷ each (draw_column ch t k n) (pin_columns ch n)

-- "A straight net is one branch 0 to t+1, with no contact"
unfoldable pub draw_straight : Channel → ℕ → ℕ → List Piece
draw_straight ch t n = Branch (column (first_column ch n)) (row 0) (row (t + 1)) ∷ []

-- the pieces of net n, whose trunk, if it has one, lies on track k
unfoldable pub draw_net : Channel → ℕ → ℕ → ℕ → List Piece
draw_net ch t k n = cond (has_span ch n) (draw_span ch t k n) (draw_straight ch t n)

-- "Nets in rising number", where `on` has the track of each
abbrev pub draw_nets : Channel → ℕ → (ℕ → ℕ) → List Piece
draw_nets ch t on = each (λ n. draw_net ch t (on n) n) (nets ch)

unfoldable pub draw : Channel → ℕ → List Place → Layout
draw ch t ps = record { tracks = t; pieces = draw_nets ch t (track_of ps) }
