-- `lines::plain_length` meets its contract. The invariant: the run is the bytes passed and the run of what follows.
use Prim.Native.Nat.{◌-◌}
use lib.ListN.{length}
use Rattle.ground.proofs.Runs.{Counted}
use Rattle.lines.specs.Plain.{is_plain}
use Rattle.lines.proofs.plain_length.Given as goal

abbrev pub invariant-loop-n : goal.invariant-loop-n
invariant-loop-n l = Counted is_plain l.t l.n

abbrev pub decreases-loop-n : goal.decreases-loop-n
decreases-loop-n l = length l.t - l.n
