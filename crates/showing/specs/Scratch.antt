-- A line while it is drawn: in a scratch area of 1,000 columns to a row, at the left end, or at the right end when writing right to left.
-- Assumes nothing.
use Rattle.std.specs.Prelude.{ℕ, ◌+◌, ◌*◌, ◌-◌, List, get_or}
use Rattle.ground.specs.Limits.{max_line_width}
use Rattle.subchars.specs.declared.Direction.{Direction}
use Rattle.subchars.specs.declared.Direction.TheVariants.{LeftToRight, RightToLeft}
use Rattle.blocks.specs.Block.{Block}

-- The column where a line n wide starts.
abbrev pub line_start : Direction → ℕ → ℕ
line_start LeftToRight n = 0
line_start RightToLeft n = max_line_width - n

-- The line n wide that the area holds.
abbrev pub scratch_line : Direction → ℕ → List ℕ → Block
scratch_line d n area = record { width = n; cells = λ r k. get_or area (r * max_line_width + line_start d n + k) 0 }
