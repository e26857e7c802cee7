-- The finding by any marks of the elements.
use Prim.Native.Nat.{ℕ}
use mathlib.Core.List.{List}
use Rattle.std.proofs.Math.Option.{Option, none}
use Rattle.grid.specs.Pieces.{Layout}
use Rattle.channel.specs.Channel.{Channel}
use Rattle.judge.specs.declared.Fault.{Fault}
use Rattle.judge.specs.declared.Fault.TheVariants.{Short, Open, Floating}
use Rattle.judge.specs.Finding.{shorts, opens, floating, fault_at_first}

-- what is found by any marks
unfoldable pub found_by : Channel → Layout → List ℕ → Option Fault
found_by ch l ms =
    fault_at_first Short (shorts ch ms) (fault_at_first Open (opens ch ms) (fault_at_first Floating (floating ch l ms) none))
