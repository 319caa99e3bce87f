-- `flc::reading::next_command` meets its contract. The invariant: what the file says from the cursor on is what it says from the start on.
use mathlib.Core.Path.{◌≡◌}
use Prim.Native.Nat.{◌-◌, ◌<◌}
use lib.ListN.{length}
use Rattle.ground.specs.Limits.{max_stages}
use Rattle.flc.specs.Steps.{control_from}
use Rattle.flc.proofs.reading.next_command.Given as goal

abbrev pub invariant-loop-line : goal.invariant-loop-line
invariant-loop-line l = (l.stage < max_stages) × (control_from l.s l.initial.cursor.at l.first_stage l.n ≡ control_from l.s l.cursor.at l.stage l.n)

abbrev pub decreases-loop-line : goal.decreases-loop-line
decreases-loop-line l = length l.s - l.cursor.at
