-- SCOPE, "Pin list", as Req 01 widens it: the form of a text, and the place at which a text that has not the form is
-- garbled.
use Rattle.std.specs.Prelude.{ℕ, ◌≤◌, ◌≡◌, List, [], ◌∷◌, ◌++◌, length, take}
use Rattle.lists.specs.Bytes.{bytes, decimal}

-- SCOPE, Req 01: "One or more spaces may now stand before each number" (a space is hexadecimal 20)
pub data Gap : List ℕ → Type 0 where
  space : Gap (0x20 ∷ [])
  wider : {gap : List ℕ} → Gap gap → Gap (0x20 ∷ gap)

-- "one line feed (0A)"; SCOPE, Req 01: "and one carriage return (hexadecimal 0D) before each line feed"
pub data LineEnd : List ℕ → Type 0 where
  feed : LineEnd (0x0A ∷ [])
  return-feed : LineEnd (0x0D ∷ (0x0A ∷ []))

-- "one or more of": a gap and a number
pub data Numbers : List ℕ → List ℕ → Type 0 where
  one : (gap : List ℕ) (n : ℕ) → Gap gap → Numbers (gap ++ decimal n) (n ∷ [])
  more : (gap : List ℕ) (n : ℕ) {text ns : List ℕ} → Gap gap → Numbers text ns
      → Numbers (gap ++ (decimal n ++ text)) (n ∷ ns)

-- "Two lines, TOP then BOT. Each is the word, then one or more of": a gap and a number; then a line end. "Nothing
-- follows": the text is a pin list of these two rows
pub record Form (text top bot : List ℕ) : Type 0 where
  pub top_text : List ℕ
  pub bot_text : List ℕ
  pub end₁ : List ℕ
  pub end₂ : List ℕ
  pub top_numbers : Numbers top_text top
  pub bot_numbers : Numbers bot_text bot
  pub top_end : LineEnd end₁
  pub bot_end : LineEnd end₂
  pub written : text ≡ bytes "TOP" ++ (top_text ++ (end₁ ++ (bytes "BOT" ++ (bot_text ++ end₂))))

-- some text of the form begins with the first n bytes
pub record SharedStart (text : List ℕ) (n : ℕ) : Type 0 where
  pub within : n ≤ length text
  pub top : List ℕ
  pub bot : List ℕ
  pub rest : List ℕ
  pub form : Form (take n text ++ rest) top bot

-- refusal 2: "not the form above; length of the longest start that some text of the form shares"
pub record GarbledAt (text : List ℕ) (n : ℕ) : Type 0 where
  pub no-form : (top bot : List ℕ) → Form text top bot → ⊥
  pub shared : SharedStart text n
  pub longest : (m : ℕ) → SharedStart text m → m ≤ n
