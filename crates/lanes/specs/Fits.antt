-- What looking for the fitting overlap finds.
-- Assumes nothing.
use Rattle.std.specs.Prelude.{◌≡◌, true, ℕ, ◌+◌, ◌<◌, ◌≤◌, min}
use Rattle.lanes.specs.Blocks.{Cells}
use Rattle.lanes.specs.Overlap.{free, fitting}
use Rattle.lanes.specs.declared.Fit.{Fit}

-- The fitting overlap; and where it is below the smaller length, one more is free in the lanes before the one named.
pub record Fitted (h n m : ℕ) (a b : Cells) (f : Fit) : Type 0 where
  pub overlap : f.overlap ≡ fitting h n m a b
  pub within : f.lane ≤ h
  pub before : f.overlap < min n m → free f.lane n a b (f.overlap + 1) ≡ true
