-- `edits::squeeze` meets its contract. The invariant: what is kept so far, with what will be kept of the rest, is the outcome.
use Prim.Native.Nat.{◌-◌}
use lib.ListN.{length}
use Rattle.edits.proofs.SqueezeLaws.{Squeezed}
use Rattle.edits.proofs.squeeze.Given as goal

abbrev pub invariant-loop-found : goal.invariant-loop-found
invariant-loop-found l = Squeezed l.head l.initial.area l.from l.area l.at l.to

abbrev pub decreases-loop-found : goal.decreases-loop-found
decreases-loop-found l = length l.area - l.at
