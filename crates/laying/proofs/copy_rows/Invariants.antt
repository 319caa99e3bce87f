-- `laying::copy_rows` meets its contract. The invariant: the rows passed are copied, those to come are as they were.
use Prim.Native.Nat.{ℕ, ◌+◌, ◌-◌, ◌≤◌}
use lib.ListN.{get_or}
use Rattle.blocks.specs.Writing.{from_on}
use Rattle.laying.specs.Laying.{StoredTo}
use Rattle.laying.proofs.copy_rows.Given as goal

abbrev pub invariant-loop-r : goal.invariant-loop-r
invariant-loop-r l =
    (l.r ≤ l.h) × StoredTo (λ (k j : ℕ). from_on l.s (get_or l.starts k 0 + l.q) j) l.r l.at l.n l.initial.area l.area

abbrev pub decreases-loop-r : goal.decreases-loop-r
decreases-loop-r l = l.h - l.r
