-- `evidence::requests` is safe and ends: each line brings the cursor nearer to the end.
use Prim.Native.Nat.{◌-◌}
use lib.ListN.{length}
use Rattle.evidence.proofs.requests.Given as goal

abbrev pub invariant-loop-line : goal.invariant-loop-line
invariant-loop-line g l = Unit {0}

abbrev pub decreases-loop-line : goal.decreases-loop-line
decreases-loop-line g l = length l.t - l.cursor.at
