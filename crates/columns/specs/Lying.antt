-- A block that lies in a list, row r and column c at r * stride + base + c.
-- Assumes nothing.
use Rattle.std.specs.Prelude.{ℕ, ◌+◌, ◌*◌, ◌<◌, ◌≤◌, List, length}
use Rattle.ground.specs.Limits.{max_line_width, max_stack_height}

-- It is within the list, and its sizes were tested.
pub record Lies (s : List ℕ) (base stride width height : ℕ) : Type 0 where
  pub some-rows : 1 ≤ height
  pub high : height ≤ max_stack_height
  pub wide : width ≤ max_line_width
  pub within : (r : ℕ) → r < height → r * stride + base + width ≤ length s
