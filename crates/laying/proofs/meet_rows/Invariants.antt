-- `laying::meet_rows` meets its contract. The invariant: the rows passed are laid on the line, those to come are as they were.
use Prim.Native.Nat.{ℕ, ◌+◌, ◌-◌, ◌*◌, ◌≤◌}
use lib.ListN.{get_or}
use Rattle.ground.specs.Limits.{max_line_width}
use Rattle.blocks.specs.Writing.{from_on}
use Rattle.laying.specs.Laying.{met, StoredTo}
use Rattle.laying.proofs.meet_rows.Given as goal

abbrev pub invariant-loop-r : goal.invariant-loop-r
invariant-loop-r l =
    (l.r ≤ l.h) × StoredTo (λ (k j : ℕ). met l.mode (from_on l.initial.area (k * max_line_width + l.at) j) (from_on l.s (get_or l.starts k 0 + l.p) j)) l.r l.at l.o l.initial.area l.area

abbrev pub decreases-loop-r : goal.decreases-loop-r
decreases-loop-r l = l.h - l.r
