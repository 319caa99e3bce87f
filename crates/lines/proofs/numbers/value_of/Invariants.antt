-- `lines::numbers::value_of` meets its contract. The invariant: v is the value of the digits passed, at most 2^32.
use mathlib.Core.Path.{◌≡◌}
use Prim.Native.Nat.{◌^◌, min}
use lib.ListN.{take}
use Rattle.lines.specs.Numbers.{value}
use Rattle.lines.proofs.numbers.value_of.Given as goal

abbrev pub invariant-loop-b : goal.invariant-loop-b
invariant-loop-b l = l.v ≡ min (value l.base (take l.b-index l.digits)) (2 ^ 32)
