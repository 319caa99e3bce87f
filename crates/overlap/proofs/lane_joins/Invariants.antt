-- `overlap::lane_joins` meets its contract. The invariant: each pair passed joins.
use mathlib.Core.Bool.{true}
use mathlib.Core.Path.{◌≡◌}
use Prim.Native.Nat.{◌≤◌, ◌-◌, ◌+◌}
use Rattle.ground.specs.Count.{every}
use Rattle.lanes.specs.Blocks.{lane}
use Rattle.pairs.specs.Pair.{joins}
use Rattle.overlap.proofs.lane_joins.Given as goal

abbrev pub invariant-loop-i : goal.invariant-loop-i
invariant-loop-i l = (l.i ≤ l.o) × (every (λ k. joins l.mode (lane l.left l.a l.p (l.n - l.o + k)) (lane l.right l.b l.q k)) l.i ≡ true)

abbrev pub decreases-loop-i : goal.decreases-loop-i
decreases-loop-i l = l.o - l.i
