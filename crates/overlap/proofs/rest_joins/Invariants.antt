-- `overlap::rest_joins` meets its contract. The invariant: each row passed joins, and so do those before the first that is looked at.
use mathlib.Core.Bool.{true}
use mathlib.Core.Path.{◌≡◌}
use Prim.Native.Nat.{◌≤◌, ◌-◌}
use Rattle.ground.specs.Count.{every}
use Rattle.lanes.specs.Blocks.{cells_of}
use Rattle.lanes.specs.Overlap.{lane_facing}
use Rattle.pairs.specs.Pair.{joins}
use Rattle.overlap.proofs.rest_joins.Given as goal

abbrev pub invariant-loop-r : goal.invariant-loop-r
invariant-loop-r l = (l.r ≤ l.h) × (every (λ i. lane_facing (joins l.mode) l.a.len (cells_of l.left l.a_starts l.a i) (cells_of l.right l.b_starts l.b i) l.o) l.r ≡ true)

abbrev pub decreases-loop-r : goal.decreases-loop-r
decreases-loop-r l = l.h - l.r
