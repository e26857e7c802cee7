-- Req 02, proved: the floor for layouts with one trunk piece per net, and the copper turned over.
use Rattle.std.specs.Prelude.{ℕ}
use Rattle.std.proofs.Common.{arith}
use Rattle.lists.specs.Firsts.{lowest-same}
use Rattle.grid.specs.Pieces.{Layout}
use Rattle.grid.specs.Flipped.{flipped}
use Rattle.channel.specs.Channel.{Channel}
use Rattle.channel.specs.Answers.{Escapes}
use Rattle.channel.specs.Turned.{turned}
use Rattle.channel.proofs.TurnLaws.{escapes-turned, turned-promise}
use Rattle.wiring.specs.Layouts.{Good}
use Rattle.wiring.specs.Floor.{density-floor}
use Rattle.wiring.specs.ChainFloor.{chain-floor}
use Rattle.wiring.specs.TurnLaws.{good-turned, one-trunk-turned}
use Rattle.promises.specs.Bounds.{FloorPromise}
use Rattle.promises.specs.Turned.{LaidOutOn, OneTrunkOn, CopperPromise, Req02}

pub floor-promise : (ch : Channel) → Escapes ch → FloorPromise ch
floor-promise ch esc =
    record {
      chain-floor = chain-floor ch esc;
      larger-floor = λ l g one.
          let wide = density-floor ch esc l g in let long = chain-floor ch esc l g one in omega arith;
    }

-- a layout, turned over
module _ (ch : Channel) (esc : Escapes ch) where
  over : (l : Layout) → Good ch l → Good (turned ch) (flipped l)
  over l g = (good-turned ch l esc.even g.on_grid).0 g

  laid-out-over : {t : ℕ} → LaidOutOn ch t → LaidOutOn (turned ch) t
  laid-out-over (l, g, e) = (flipped l, over l g, e)

  one-trunk-over : {t : ℕ} → OneTrunkOn ch t → OneTrunkOn (turned ch) t
  one-trunk-over (l, g, one, e) = (flipped l, over l g, (one-trunk-turned ch l g.on_grid).0 one, e)

pub copper-promise : (ch : Channel) → Escapes ch → CopperPromise ch
copper-promise ch esc =
    record {
      same-copper = λ l grid. good-turned ch l esc.even grid;
      same-trunks = λ l grid. one-trunk-turned ch l grid;
      fewest-same = lowest-same (λ t. (laid-out-over ch esc, laid-out-over (turned ch) back));
      fewest-one-trunk-same = lowest-same (λ t. (one-trunk-over ch esc, one-trunk-over (turned ch) back));
    }
  where
    back : Escapes (turned ch)
    back = escapes-turned ch esc

pub req02 : Req02
req02 ch = (turned-promise ch, λ esc. (floor-promise ch esc, copper-promise ch esc))
