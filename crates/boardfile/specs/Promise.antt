-- Demand 2's "reading the board file it wrote gives back the pieces it drew", as a statement.
use Rattle.std.specs.Prelude.{ℕ, ◌≤◌, ◌≡◌, length}
use mathlib.Core.List.{List, Memᴰ}
use Rattle.std.proofs.Math.Option.{none}
use Rattle.grid.specs.declared.Piece.{Piece}
use Rattle.grid.specs.Pieces.{OnGrid, Layout}
use Rattle.boardfile.specs.Open.{open_refusal, file_width, file_layout}

-- reading the file gives back this layout of w columns: its width, its tracks, and its pieces in order
pub record ReadsBack (w : ℕ) (l : Layout) (file : List ℕ) : Type 0 where
  pub opens : open_refusal file ≡ none
  pub same_width : file_width file ≡ w
  pub same_layout : file_layout file ≡ l

-- the layout fits the file's fields
pub record Fileable (w : ℕ) (l : Layout) : Type 0 where
  pub wide : 1 ≤ w
  pub narrow : w ≤ 512
  pub tracks : l.tracks ≤ 511
  pub pieces : length l.pieces ≤ 4095
  pub on_grid : (p : Piece) → Memᴰ p l.pieces → OnGrid w l.tracks p
