-- The three parts of a stack: rows of the upper block, rows in which pairs merge, rows of the lower block.
-- Assumes nothing.
use mathlib.Core.Path.{◌≡◌}
use Prim.Native.Nat.{ℕ, ◌-◌, ◌≤◌, ◌<◌}
use Rattle.subchars.specs.declared.VerticalLayout.{VerticalLayout}
use Rattle.lanes.proofs.Cells as lanes
use Rattle.blocks.specs.Block.{Block}
use Rattle.vertical.specs.VerticalPair.{merged_byte}
use Rattle.columns.specs.Stack.{upright, stacked_at}

module _ (layout : VerticalLayout) (hardblank n o : ℕ) (a b : Block) (r c : ℕ) where
  pub upper_cell : r < n - o → stacked_at layout hardblank n o a b r c ≡ upright hardblank a c r
  unfolding stacked_at
  upper_cell = lanes.cell_left (merged_byte layout) n o (upright hardblank a) (upright hardblank b) c r

  pub merged_cell : n - o ≤ r → r < n → stacked_at layout hardblank n o a b r c ≡ merged_byte layout (upright hardblank a c r) (upright hardblank b c (r - (n - o)))
  unfolding stacked_at
  merged_cell = lanes.cell_pair (merged_byte layout) n o (upright hardblank a) (upright hardblank b) c r

  pub lower_cell : n - o ≤ r → n ≤ r → stacked_at layout hardblank n o a b r c ≡ upright hardblank b c (r - (n - o))
  unfolding stacked_at
  lower_cell = lanes.cell_right (merged_byte layout) n o (upright hardblank a) (upright hardblank b) c r
