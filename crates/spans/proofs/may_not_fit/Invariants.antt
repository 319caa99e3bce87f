-- `spans::may_not_fit` meets its contract: it reads within the lists and ends.
use Prim.Native.Nat.{◌-◌, ◌≤◌}
use Rattle.spans.proofs.may_not_fit.Given as goal

abbrev pub invariant-loop-i : goal.invariant-loop-i
invariant-loop-i l = l.e ≤ l.i

abbrev pub decreases-loop-i : goal.decreases-loop-i
decreases-loop-i l = l.stop - l.i
