-- `columns::overlaps::rows_pass` meets its contract. The invariant: the rows looked at pass.
use mathlib.Core.Bool.{Bool, true}
use mathlib.Core.Path.{◌≡◌}
use Prim.Native.Nat.{ℕ, min}
use Rattle.ground.specs.Count.{every}
use Rattle.vertical.specs.VerticalPair.{AnswersAs}
use Rattle.columns.specs.Placing.{placed_columns}
use Rattle.columns.specs.Facing.{row_faces}
use Rattle.columns.proofs.overlaps.rows_pass.Given as goal

abbrev pub invariant-loop-i : goal.invariant-loop-i
invariant-loop-i g l =
    (p : ℕ → ℕ → Bool) → AnswersAs (goal.T-post g l.test) p → every (row_faces p (min l.upper.width l.lower.width) l.upper.height (placed_columns l.hardblank.0 l.upper) (placed_columns l.hardblank.0 l.lower) l.o) l.i ≡ true
