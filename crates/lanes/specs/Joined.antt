-- Two blocks joined at an overlap, over lanes and positions: the same along every axis.
-- Assumes nothing.
use Rattle.std.specs.Prelude.{ℕ, ◌-◌, cond, ltb}
use Rattle.lanes.specs.Blocks.{Cells}

-- "A result row is the left block's unpaired ones, then what each pair becomes, then the right block's unpaired ones": lane r, position k of
-- two blocks at overlap o, the first with n positions to a lane.
unfoldable pub joined_cells : (ℕ → ℕ → ℕ) → ℕ → ℕ → Cells → Cells → Cells
joined_cells becomes n o a b r k =
    let cut = n - o in
    cond (ltb k cut) (a r k) (cond (ltb k n) (becomes (a r k) (b r (k - cut))) (b r (k - cut)))
