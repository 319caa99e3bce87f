-- `columns::overlaps::row_passes` meets its contract. The invariant: the pairs looked at pass.
use mathlib.Core.Bool.{Bool, true}
use mathlib.Core.Path.{◌≡◌}
use Prim.Native.Nat.{ℕ}
use Rattle.vertical.specs.VerticalPair.{AnswersAs}
use Rattle.columns.specs.Placing.{placed_columns}
use Rattle.columns.specs.Facing.{row_faces}
use Rattle.columns.proofs.overlaps.row_passes.Given as goal

abbrev pub invariant-loop-c : goal.invariant-loop-c
invariant-loop-c g l =
    (p : ℕ → ℕ → Bool) → AnswersAs (goal.T-post g l.test) p → row_faces p l.c l.upper.height (placed_columns l.hardblank.0 l.upper) (placed_columns l.hardblank.0 l.lower) l.o l.i ≡ true
