-- `laying::meet_row` meets its contract. The invariant: the first k places are laid, and no other is changed.
use Prim.Native.Nat.{ℕ, ◌≤◌, ◌-◌}
use Rattle.blocks.specs.Writing.{from_on, Stored}
use Rattle.laying.specs.Laying.{met}
use Rattle.laying.proofs.meet_row.Given as goal

abbrev pub invariant-loop-k : goal.invariant-loop-k
invariant-loop-k l = (l.k ≤ l.m) × Stored (λ (j : ℕ). met l.mode (from_on l.initial.area l.at j) (from_on l.s l.from j)) l.at l.k l.initial.area l.area

abbrev pub decreases-loop-k : goal.decreases-loop-k
decreases-loop-k l = l.m - l.k
