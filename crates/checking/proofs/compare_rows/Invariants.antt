-- `checking::compare_rows` meets its contract. The invariant: byte i is column k of row r, and all before it are equal.
use mathlib.Core.List.{List}
use mathlib.Core.Path.{◌≡◌}
use Prim.Native.Nat.{ℕ, ◌≤◌, ◌+◌, ◌*◌}
use Rattle.ground.specs.Limits.{max_line_width}
use Rattle.blocks.specs.Block.{rows_of}
use Rattle.blocks.specs.Writing.{from_on}
use Rattle.lanes.specs.Blocks.{Cells}
use Rattle.showing.specs.Output.{with_lf}
use Rattle.checking.proofs.Comparing.{EqualBefore}
use Rattle.checking.proofs.compare_rows.Given as goal

-- The rows as they are put out.
abbrev pub put_out : List ℕ → ℕ → ℕ → ℕ → Cells
put_out area from w hardblank q = with_lf hardblank w (from_on area (q * max_line_width + from))

abbrev pub invariant-loop-i : goal.invariant-loop-i
invariant-loop-i l =
    (l.k ≤ l.w) × (l.i ≡ l.r * (l.w + 1) + l.k) × EqualBefore l.i (rows_of (put_out l.area l.from l.w l.hardblank.0) l.h (l.w + 1)) l.figure
