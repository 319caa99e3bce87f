-- `lanes::blanked_fit` meets its contract. The invariant: what was found is so for the lanes passed.
use Prim.Native.Nat.{◌≤◌, ◌-◌}
use Rattle.lanes.specs.Blocks.{cells_of, blanked_cells}
use Rattle.lanes.specs.Fits.{Fitted}
use Rattle.lanes.proofs.blanked_fit.Given as goal

abbrev pub invariant-loop-r : goal.invariant-loop-r
invariant-loop-r l = (l.r ≤ l.h) × Fitted l.r l.a.len l.b.len (blanked_cells l.hardblank (cells_of l.first l.a_starts l.a)) (blanked_cells l.hardblank (cells_of l.second l.b_starts l.b)) (record { overlap = l.best; lane = l.lane })

abbrev pub decreases-loop-r : goal.decreases-loop-r
decreases-loop-r l = l.h - l.r
