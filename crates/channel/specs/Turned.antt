-- SCOPE, Req 02, "The board turned over": the turned list, and what it has in common with the first, as a statement.
use Rattle.std.specs.Prelude.{◌≡◌, ◌↔◌}
use Rattle.channel.specs.Channel.{Channel, rows}
use Rattle.channel.specs.Density.{density}
use Rattle.channel.specs.Constraints.{chain, Tangled}
use Rattle.channel.specs.Answers.{Escapes, bounds_answer}

-- "the same list with TOP and BOT exchanged"
abbrev pub turned : Channel → Channel
turned ch = rows ch.bot ch.top

-- Of every channel. Rules out: a list that is refused one way up alone (escapes-exactly, tangled-exactly); bounds that
-- ask more of one row than of the other (same-density, same-chain).
pub record TurnedPromise (ch : Channel) : Type 0 where
  pub turned-twice : turned (turned ch) ≡ ch
  pub escapes-exactly : Escapes (turned ch) ↔ Escapes ch
  -- "a turned channel is tangled exactly when the first is"
  pub tangled-exactly : Escapes ch → Tangled (turned ch) ↔ Tangled ch
  -- "with the same density"
  pub same-density : Escapes ch → density (turned ch) ≡ density ch
  -- "and, untangled, the same chain"
  pub same-chain : Escapes ch → (Tangled ch → ⊥) → chain (turned ch) ≡ chain ch
  -- so that bounds are answered alike, for a tangled channel too
  pub same-bounds : Escapes ch → bounds_answer (turned ch) ≡ bounds_answer ch
