-- `asking_packs::packs::used_length` is safe and ends.
use Prim.Native.Nat.{◌≤◌}
use lib.ListN.{length}
use Rattle.asking_packs.proofs.packs.used_length.Given as goal

abbrev pub invariant-loop-n : goal.invariant-loop-n
invariant-loop-n l = l.n ≤ length l.pack

abbrev pub decreases-loop-n : goal.decreases-loop-n
decreases-loop-n l = l.n
