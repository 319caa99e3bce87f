-- `columns::overlaps::furthest_rows` meets its contract. The invariant: every overlap up to o passes.
use mathlib.Core.Bool.{Bool, true}
use mathlib.Core.Path.{◌≡◌}
use Prim.Native.Nat.{ℕ, ◌≤◌, min}
use Rattle.lanes.specs.Overlap.{facing}
use Rattle.vertical.specs.VerticalPair.{AnswersAs}
use Rattle.columns.specs.Placing.{placed_columns}
use Rattle.columns.proofs.overlaps.furthest_rows.Given as goal

abbrev pub invariant-loop-o : goal.invariant-loop-o
invariant-loop-o g l =
    (p : ℕ → ℕ → Bool) → AnswersAs (goal.T-post g l.test) p → (k : ℕ) → k ≤ l.o → facing p (min l.upper.width l.lower.width) l.upper.height (placed_columns l.hardblank.0 l.upper) (placed_columns l.hardblank.0 l.lower) k ≡ true
