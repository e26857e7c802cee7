-- SCOPE, "Spans and constraints": which net is above which (the vertical constraints), paths down, the chain, and
-- rings (its cycles).
use Rattle.std.specs.Prelude.{ℕ, zero, suc, ◌≡◌, Bool, cond, ◌&&◌, not, length, T, leb, eqb}
use mathlib.Core.List.{List, [], ◌∷◌, map, Memᴰ}
use Rattle.lists.specs.Lists.{keep, up_to, head_or, greatest, at, Distinct}
use Rattle.channel.specs.Channel.{Channel, width, is_net, nets, spanning}

-- "A column with TOP net a and BOT net b, both nonzero and different, puts a above b in that column"; SCOPE, Req 04: a
-- parked pin has no part in it
pub record Above (ch : Channel) (a b c : ℕ) : Type 0 where
  pub on_top : at ch.top c ≡ a
  pub on_bot : at ch.bot c ≡ b
  pub upper : T (is_net ch a)
  pub lower : T (is_net ch b)
  pub different : a ≡ b → ⊥

-- `Above`, as a test
unfoldable pub above : Channel → ℕ → ℕ → ℕ → Bool
above ch a b c = eqb (at ch.top c) a && (eqb (at ch.bot c) b && (is_net ch a && (is_net ch b && not (eqb a b))))

-- a step down: the column, and the net directly below in it
pub record Drop : Type 0 where
  pub column : ℕ
  pub lower : ℕ

-- the steps down from net n, lowest column first
unfoldable pub drops : Channel → ℕ → List Drop
drops ch n =
    map (λ c. record { column = c; lower = at ch.bot c })
    (keep (λ c. above ch n (at ch.bot c) c) (up_to (width ch)))

-- the nets directly below n
abbrev pub below : Channel → ℕ → List ℕ
below ch n = map (λ d. d.lower) (drops ch n)

-- a path of k nets with spans, down from a to b
pub data Path↓ (ch : Channel) : ℕ → ℕ → ℕ → Type 0 where
  alone : {a : ℕ} → Memᴰ a (spanning ch) → Path↓ ch 1 a a
  down : {k a b z : ℕ} (c : ℕ) → Above ch a b c → Path↓ ch k b z → Path↓ ch (suc k) a z

-- the most nets on a path down from n, counted as far as `fuel` nets
unfoldable pub depth : ℕ → Channel → ℕ → ℕ
depth zero ch n = 0
depth (suc fuel) ch n = suc (greatest (map (depth fuel ch) (below ch n)))

-- "chain is the most nets on any path: 1 if spans exist but no steps, 0 if no spans"; 0 for a tangled channel.
-- A path with more nets than there are meets one twice, and so returns to it
unfoldable pub chain : Channel → ℕ
chain ch =
    let most = greatest (map (depth (suc (length (nets ch))) ch) (spanning ch)) in
    cond (leb most (length (nets ch))) most 0

-- a step of a ring: a net, and the column in which it is above the next
pub record Step : Type 0 where
  pub net : ℕ
  pub column : ℕ

abbrev pub nets_of : List Step → List ℕ
nets_of steps = map (λ s. s.net) steps

-- each net of the steps stands over the next in its column, and the last over `end`; `Over` is the relation, such as
-- `Above ch`
pub data Descends (Over : ℕ → ℕ → ℕ → Type 0) (end : ℕ) : List Step → Type 0 where
  last : {s : Step} → Over s.net end s.column → Descends Over end (s ∷ [])
  next : {s t : Step} {rest : List Step} → Over s.net t.net s.column → Descends Over end (t ∷ rest)
      → Descends Over end (s ∷ (t ∷ rest))

-- "A ring is a list of different nets, each above the next, and the last above the first"
pub record Ring (ch : Channel) (steps : List Step) : Type 0 where
  pub distinct : Distinct (nets_of steps)
  pub closed : Descends (Above ch) (head_or 0 (nets_of steps)) steps

-- "a channel is tangled when it has one"
abbrev pub Tangled : Channel → Type 0
Tangled ch = (steps : List Step) × Ring ch steps

-- "Where no column holds pins of two different nets" (demand 3); SCOPE, Req 04: "parked pins are not counted"
abbrev pub Unconstrained : Channel → Type 0
Unconstrained ch = (a b c : ℕ) → Above ch a b c → ⊥
