-- Demand 3 for columns down to the bytes: byte r * width + c of the area that a stack leaves is sub-character c of row r of the stacked block.
-- Assumes nothing.
use mathlib.Core.Path.{◌≡◌, ap, ◌∙◌}
use mathlib.Core.Bool.{Bool, false, cond}
use mathlib.Core.List.{List, []}
use Prim.Native.Nat.{ℕ, ◌+◌, ◌*◌, ◌<◌}
use native.Mathlib.Omega.{arith}
use lib.ListN.{get_or}
use Rattle.ground.specs.Area.{padded}
use Rattle.ground.proofs.Areas.{padded-at}
use Rattle.subchars.specs.declared.VerticalLayout.{VerticalLayout}
use Rattle.blocks.specs.Block.{Block}
use Rattle.blocks.proofs.Rows.{row_room, length-rows, rows-at}
use Rattle.columns.specs.Stack.{Stack}
use Rattle.stack.specs.StackCall.{stack_of, stack_rows, stack_told, stack_area}

module _ (layout : VerticalLayout) (hardblank n upperWidth : ℕ) (upper : List ℕ) (m lowerWidth : ℕ) (lower : List ℕ) (room : ℕ) where
  abbrev result : Stack
  result = stack_of layout hardblank n upperWidth upper m lowerWidth lower

  abbrev block : Block
  block = result.block

  pub stacked-byte : (stack_told layout hardblank n upperWidth upper m lowerWidth lower room).refused ≡ false → (r c : ℕ) → r < result.height → c < block.width →
      get_or (stack_area layout hardblank n upperWidth upper m lowerWidth lower room) (r * block.width + c) 0 ≡ block.cells r c
  unfolding stack_area
  stacked-byte e r c u v =
      let h = result.height in
      ap (λ (b : Bool). get_or (padded (cond b [] (stack_rows result)) room) (r * block.width + c) 0) e ∙
      padded-at (stack_rows result) room (r * block.width + c) (omega (arith, row_room r h block.width u, length-rows block.cells h block.width)) ∙
      rows-at block.cells h block.width r c u v
