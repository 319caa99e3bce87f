-- `lanes::trailing_blanks` meets its contract. The invariant: the positions passed are blanks; `left` counts those still to be looked at.
use mathlib.Core.Path.{◌≡◌}
use Prim.Native.Nat.{ℕ, ◌≤◌, ◌<◌, ◌-◌, ◌+◌}
use Rattle.subchars.specs.Hardblank.{blank, blanked}
use Rattle.lanes.specs.Blocks.{lane}
use Rattle.lanes.proofs.trailing_blanks.Given as goal

abbrev pub invariant-loop-left : goal.invariant-loop-left
invariant-loop-left l = (l.left ≤ l.most) × ((k : ℕ) → l.n ≤ k + (l.most - l.left) → k < l.n → blanked l.hardblank (lane l.s l.start l.step k) ≡ blank)

abbrev pub decreases-loop-left : goal.decreases-loop-left
decreases-loop-left l = l.left
