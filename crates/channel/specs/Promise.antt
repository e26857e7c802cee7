-- What the chain is, as a statement: SCOPE, "Spans and constraints".
use Rattle.std.specs.Prelude.{ℕ, ◌≤◌, ◌<◌, ◌≡◌, []}
use Rattle.channel.specs.Channel.{Channel, spanning}
use Rattle.channel.specs.Constraints.{chain, Tangled, Path↓}

-- "chain is the most nets on any path: 1 if spans exist but no steps, 0 if no spans"; "a tangled channel answers ..
-- chain 0"
pub record ChainPromise (ch : Channel) : Type 0 where
  pub tangled : Tangled ch → chain ch ≡ 0
  pub no-spans : spanning ch ≡ [] → chain ch ≡ 0
  pub reached : (Tangled ch → ⊥) → 0 < chain ch → (a b : ℕ) × Path↓ ch (chain ch) a b
  pub most : (Tangled ch → ⊥) → (k a b : ℕ) → Path↓ ch k a b → k ≤ chain ch
