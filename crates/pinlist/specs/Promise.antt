-- Demand 1 for texts, as a statement: the reader answers rows for exactly the texts of the form, and the place of
-- `GarbledAt` for every other.
use Rattle.std.specs.Prelude.{ℕ, ◌≡◌, List, ◌↔◌}
use Rattle.pinlist.specs.Form.{Form, GarbledAt}
use Rattle.pinlist.specs.Reader.{rows, garbled, read_text}

pub record ReadExactly (text : List ℕ) : Type 0 where
  pub rows-exactly : (top bot : List ℕ) → (read_text text ≡ rows top bot) ↔ Form text top bot
  pub garbled-exactly : (n : ℕ) → (read_text text ≡ garbled n) ↔ GarbledAt text n
