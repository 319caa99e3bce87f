-- Two blocks, the last rows of the upper one over the first rows of the lower one: their sizes together, and what stands where.
-- Assumes nothing.
use Rattle.std.specs.Prelude.{ℕ, ◌+◌, ◌-◌, max}
use Rattle.lanes.specs.Blocks.{Cells}
use Rattle.columns.specs.Stack.{stacked_at}
use Rattle.columns.specs.Placing.{placed_block}
use Rattle.stack.specs.declared.writing.Overlaid.{Overlaid}

abbrev pub rows_high : Overlaid → ℕ
rows_high b = b.upper.height + b.lower.height - b.overlap

abbrev pub columns_wide : Overlaid → ℕ
columns_wide b = max b.upper.width b.lower.width

-- Row r, column c of both.
abbrev pub overlaid_cells : Overlaid → Cells
overlaid_cells b = stacked_at b.layout b.hardblank.0 b.upper.height b.overlap (placed_block b.upper) (placed_block b.lower)
