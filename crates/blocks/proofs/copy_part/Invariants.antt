-- `blocks::copy_part` meets its contract. The invariant: the first k bytes stand at `at`.
use mathlib.Core.List.{◌++◌}
use mathlib.Core.Path.{◌≡◌}
use Prim.Native.Nat.{◌+◌}
use lib.ListN.{length, take}
use Rattle.ground.specs.Area.{values}
use Rattle.blocks.specs.Writing.{from_on, Stored}
use Rattle.blocks.proofs.copy_part.Given as goal

abbrev pub invariant-loop-k : goal.invariant-loop-k
invariant-loop-k l = (length l.out ≡ length l.initial.out) × (take (l.at + l.k) l.out ≡ take l.at l.initial.out ++ values (from_on l.s l.from) l.k) × Stored (from_on l.s l.from) l.at l.k l.initial.out l.out
