-- `showing::show_row` meets its contract. The invariant: the first k columns stand at `at`.
use mathlib.Core.List.{◌++◌}
use mathlib.Core.Path.{◌≡◌}
use Prim.Native.Nat.{◌≤◌, ◌-◌, ◌+◌}
use lib.ListN.{length, take}
use Rattle.ground.specs.Area.{values}
use Rattle.blocks.specs.Writing.{from_on}
use Rattle.showing.specs.Output.{with_lf}
use Rattle.showing.proofs.show_row.Given as goal

abbrev pub invariant-loop-k : goal.invariant-loop-k
invariant-loop-k l = (l.k ≤ l.w) × (length l.out ≡ length l.initial.out) × (take (l.at + l.k) l.out ≡ take l.at l.initial.out ++ values (with_lf l.hardblank.0 l.w (from_on l.area l.from)) l.k)

abbrev pub decreases-loop-k : goal.decreases-loop-k
decreases-loop-k l = l.w - l.k
