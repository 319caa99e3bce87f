-- The facing pairs of two blocks row by row, as their bytes lie.
-- Assumes nothing.
use Rattle.std.specs.Prelude.{ℕ, ◌+◌, ◌-◌, Bool}
use Rattle.ground.specs.Count.{every}
use Rattle.lanes.specs.Blocks.{Cells}

-- Each pair of row i of the lower block passes at overlap o, of w columns, n rows high in the upper block.
abbrev pub row_faces : (ℕ → ℕ → Bool) → ℕ → ℕ → Cells → Cells → ℕ → ℕ → Bool
row_faces ok w n a b o i = every (λ c. ok (a c (n - o + i)) (b c i)) w
