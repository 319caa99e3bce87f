-- The block that lies in a list, and its columns; rows as they are written, with an end behind each.
-- Assumes nothing.
use Rattle.std.specs.Prelude.{ℕ, ◌+◌, ◌*◌, cond, ltb, get_or}
use Rattle.ground.specs.Text.{byte}
use Rattle.lanes.specs.Blocks.{Cells}
use Rattle.blocks.specs.Block.{Block}
use Rattle.columns.specs.Stack.{upright}
use Rattle.columns.specs.declared.Placed.{Placed}

-- Row r, column c of the block at r * stride + base + c.
abbrev pub placed_block : Placed → Block
placed_block p = record { width = p.width; cells = λ r c. get_or p.bytes.now (r * p.stride + p.base + c) 0 }

-- Its columns: the hardblank as a blank, and blanks on the right.
abbrev pub placed_columns : ℕ → Placed → Cells
placed_columns hardblank p = upright hardblank (placed_block p)

-- The rows of a block w wide with an LF in each column behind them.
abbrev pub with_end : ℕ → Cells → Cells
with_end w f r k = cond (ltb k w) (f r k) (byte "\n")
