-- `rows::rows_at` meets its contract. The invariant: what is left to read from the cursor on decides.
use mathlib.Core.Path.{◌≡◌}
use Rattle.rows.specs.Steps.{rows_at}
use Rattle.rows.proofs.rows_at.Given as goal

abbrev pub invariant-loop-left : goal.invariant-loop-left
invariant-loop-left l = rows_at l.f l.s l.initial.cursor.at l.count l.width ≡ rows_at l.f l.s l.cursor.at l.left l.width

abbrev pub decreases-loop-left : goal.decreases-loop-left
decreases-loop-left l = l.left
