-- The rows of a line in the output, as a program prints them.
-- Assumes nothing.
use Rattle.std.specs.Prelude.{ℕ, ◌+◌, ◌*◌, ◌≤◌}
use Rattle.ground.specs.Limits.{max_height, max_line_width}
use Rattle.bothfiles.specs.declared.Files.{Files}
use Rattle.bothfiles.specs.declared.Files.TheVariants.{Read, Refused}

-- How many rows a line has; none where a file is refused.
abbrev pub height_of : Files → ℕ
height_of (Read h n m) = h.height
height_of (Refused r) = 0

-- The rows of a line w wide, each with its LF, lie in an output of the given room.
pub record RowsFit (files : Files) (w room : ℕ) : Type 0 where
  pub few : height_of files ≤ max_height
  pub narrow : w ≤ max_line_width
  pub inside : height_of files * (w + 1) ≤ room
