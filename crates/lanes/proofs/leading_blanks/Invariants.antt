-- `lanes::leading_blanks` meets its contract.
use mathlib.Core.Path.{◌≡◌}
use Prim.Native.Nat.{ℕ, ◌≤◌, ◌<◌, ◌-◌}
use Rattle.subchars.specs.Hardblank.{blank, blanked}
use Rattle.lanes.specs.Blocks.{lane}
use Rattle.lanes.proofs.leading_blanks.Given as goal

abbrev pub invariant-loop-t : goal.invariant-loop-t
invariant-loop-t l = (l.t ≤ l.n) × ((k : ℕ) → k < l.t → blanked l.hardblank (lane l.s l.start l.step k) ≡ blank)

abbrev pub decreases-loop-t : goal.decreases-loop-t
decreases-loop-t l = l.n - l.t
