-- Demand 3 down to the bytes: byte r * width + k of the area that a join leaves is sub-character k of row r of the joined block.
-- Assumes nothing.
use mathlib.Core.Path.{◌≡◌, ap, ◌∙◌}
use mathlib.Core.Bool.{Bool, false, cond}
use mathlib.Core.List.{List, []}
use Prim.Native.Nat.{ℕ, ◌+◌, ◌*◌, ◌<◌}
use native.Mathlib.Omega.{arith}
use lib.ListN.{get_or}
use Rattle.ground.specs.Area.{padded}
use Rattle.ground.proofs.Areas.{padded-at}
use Rattle.subchars.specs.declared.Mode.{Mode}
use Rattle.blocks.specs.Block.{Block, exact_block, left_of, right_of, rows_of}
use Rattle.overlap.specs.Join.{besides}
use Rattle.join.specs.JoinCall.{join_told, join_area}
use Rattle.blocks.proofs.Rows.{row_room, length-rows, rows-at}

module _ (y : Mode) (h n : ℕ) (line : List ℕ) (m : ℕ) (character : List ℕ) (room : ℕ) where
  abbrev block : Block
  block = besides y h (left_of y.direction (exact_block n line) (exact_block m character)) (right_of y.direction (exact_block n line) (exact_block m character))

  pub joined-byte : (join_told y h n line m character room).refused ≡ false → (r k : ℕ) → r < h → k < block.width →
      get_or (join_area y h n line m character room) (r * block.width + k) 0 ≡ block.cells r k
  unfolding join_area
  joined-byte e r k u v =
      let bytes = rows_of block.cells h block.width in
      ap (λ (b : Bool). get_or (padded (cond b [] bytes) room) (r * block.width + k) 0) e ∙
      padded-at bytes room (r * block.width + k) (omega (arith, row_room r h block.width u, length-rows block.cells h block.width)) ∙
      rows-at block.cells h block.width r k u v
