-- The three parts of a joined lane.
-- Assumes nothing.
use mathlib.Core.Path.{◌≡◌}
use Prim.Native.Nat.{ℕ, ◌-◌, ◌≤◌, ◌<◌}
use borrow.Author.Tests.{lt-ltb, le-ltb}
use Rattle.lanes.specs.Blocks.{Cells}
use Rattle.lanes.specs.Joined.{joined_cells}

module _ (becomes : ℕ → ℕ → ℕ) (n o : ℕ) (a b : Cells) (r k : ℕ) where
  pub cell_left : k < n - o → joined_cells becomes n o a b r k ≡ a r k
  unfolding joined_cells
  cell_left l = simp (lt-ltb _ _ l)

  pub cell_pair : n - o ≤ k → k < n → joined_cells becomes n o a b r k ≡ becomes (a r k) (b r (k - (n - o)))
  unfolding joined_cells
  cell_pair g l = simp (le-ltb _ _ g, lt-ltb _ _ l)

  pub cell_right : n - o ≤ k → n ≤ k → joined_cells becomes n o a b r k ≡ b r (k - (n - o))
  unfolding joined_cells
  cell_right g l = simp (le-ltb _ _ g, le-ltb _ _ l)
