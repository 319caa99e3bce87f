-- `laying::copy_eights` meets its contract. The invariant: the rows passed are copied, all else is as it was.
use Prim.Native.Nat.{ℕ, ◌+◌, ◌-◌, ◌≤◌}
use lib.ListN.{get_or}
use Rattle.blocks.specs.Writing.{from_on}
use Rattle.laying.specs.Laying.{StoredTo}
use Rattle.laying.proofs.copy_eights.Given as goal

abbrev pub invariant-loop-r : goal.invariant-loop-r
invariant-loop-r l = (l.r ≤ l.h) × StoredTo (λ (k j : ℕ). from_on l.s (get_or l.starts k 0 + l.q) j) l.r l.at 8 l.initial.area l.area

abbrev pub decreases-loop-r : goal.decreases-loop-r
decreases-loop-r l = l.h - l.r
